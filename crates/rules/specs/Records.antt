-- Document 01, the records, as request 7 has them: "An index no longer fits the one-word record, so the new record has two words".
use Rattle.std.specs.Prelude.{ℕ, ◌+◌, ◌*◌, ◌/◌, ◌^◌, ◌<◌, ◌≡◌, List, [], ◌∷◌, ◌++◌, length, drop, Option}
use Rattle.rules.specs.declared.BaseChoice.{BaseChoice}
use Rattle.rules.specs.declared.Command.{Command}
use Rattle.rules.specs.declared.Answer.{Answer}
use Rattle.rules.specs.Words.{field}
use Rattle.rules.specs.Windows.{Capture}
use Rattle.rules.specs.Walk.{Run, walk, starting_base, commands_of, answer_of}

-- Request 7: "the new record has two words: index and level (bit 16) in the first"
unfoldable pub first_word : Command → ℕ
first_word c = c.index + 2 ^ 16 * c.level

-- "length and row in their old bits of the second": "total length in 23:16, table row in 31:24, others zero"
unfoldable pub second_word : Command → ℕ
second_word c = 2 ^ 16 * c.length + 2 ^ 24 * c.row

-- "index, level, row and length per record": what a record of two words says
unfoldable pub command_of : ℕ → ℕ → Command
command_of first second =
    record { index = field first 15 0; level = field first 16 16; row = field second 31 24; length = field second 23 16 }

-- a command whose numbers fit their bits: "index and level (bit 16) in the first, length and row in their old bits of the second"
pub record Recordable (c : Command) : Type 0 where
  pub index : c.index < 2 ^ 16
  pub level : c.level < 2
  pub length : c.length < 2 ^ 8
  pub row : c.row < 2 ^ 8

-- "that many records are written": the words of a list of commands
unfoldable pub words_of : List Command → List ℕ
words_of [] = []
words_of (c ∷ cs) = first_word c ∷ second_word c ∷ words_of cs

-- "index, level, row and length per record": the commands that words of records name; an odd last word is no record
unfoldable pub commands_in : List ℕ → List Command
commands_in [] = []
commands_in (first ∷ []) = []
commands_in (first ∷ second ∷ words) = command_of first second ∷ commands_in words

-- "the new record has two words": how many words so many records take
unfoldable pub words_for : ℕ → ℕ
words_for records = 2 * records

-- "Room counts whole records": how many records so many words have room for; 18 is "when two words are not free"
unfoldable pub room_of : ℕ → ℕ
room_of words = words / words_for 1

-- "that many records are written, each from the first free word of the lent record buffer onward (word 0 for the first), and the words after
-- them stay"
unfoldable pub written_of : Run → List ℕ → List ℕ
written_of run old = words_of (commands_of run) ++ drop (length (words_of (commands_of run))) old

-- "Each public call is promised completely: answer, records and every untouched word": an answer, and every word of the record buffer as it
-- returns, by the walk of the capture from a starting base
pub record Checked (base : Option ℕ) (c : Capture) (old : List ℕ) (answer : Answer) (new : List ℕ) : Type 0 where
  pub answers : answer ≡ answer_of (walk base c (room_of (length old)))
  pub written : new ≡ written_of (walk base c (room_of (length old))) old

-- THE PROMISE of `walk::check_from` and `plain::check_from`; that of `check` is the same from `StateWindow`. Request 5: "The default at the start
-- of a walk becomes the state window's address, and a caller may choose "none" instead."
abbrev pub CheckedFrom : BaseChoice → Capture → List ℕ → Answer → List ℕ → Type 0
CheckedFrom choice c old answer new = Checked (starting_base choice c.state_at) c old answer new
