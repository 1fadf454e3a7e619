-- Request 7, turning old listings: "An old listing turned into the new form names the same commands."
use Rattle.std.specs.Prelude.{ℕ, ◌≡◌, refl, Bool, not, List, [], ◌∷◌, ◌++◌, length, get_or, drop, ltb, eqb, Ok, Err}
use Rattle.rules.specs.declared.Command.{Command}
use Rattle.rules.specs.declared.LongAnswer.{LongAnswer}
use Rattle.rules.specs.declared.Reason.TheVariants.{BitNotAllowed, RecordsFull}
use Rattle.rules.specs.Refusals.{Verdict}
use Rattle.rules.specs.Words.{field, first_of, first_from}
use Rattle.rules.specs.Refusals.{number_of, batch_window, fault, refuse_if, refuse_found, tried, first_fault}
use Rattle.rules.specs.Records.{first_word, second_word, words_of, words_for}

-- document 01's record of one word, which an old listing has: "index in bits 11:0, level in bit 12, total length in 23:16, table row in 31:24, others zero"
unfoldable pub old_command_of : ℕ → Command
old_command_of word = record { index = field word 11 0; level = field word 12 12; row = field word 31 24; length = field word 23 16 }

-- "index, level, row and length per record": the commands that the words of an old listing name
unfoldable pub old_commands_in : List ℕ → List Command
old_commands_in [] = []
old_commands_in (word ∷ words) = old_command_of word ∷ old_commands_in words

-- what turning is asked: an old listing, and how many words there are for the new one
pub record Turning : Type 0 where
  pub old : List ℕ
  pub room : ℕ

abbrev pub turning : List ℕ → ℕ → Turning
turning old room = record { old = old; room = room }

-- "any of bits 15:13 set"
abbrev pub stray_bits : ℕ → Bool
stray_bits word = not (eqb (field word 15 13) 0)

-- "turning a listing gives 10 at the first old word with any of bits 15:13 set"
unfoldable pub word_stray : Turning → Verdict
word_stray t = refuse_found BitNotAllowed batch_window 0 (first_of (λ i. stray_bits (get_or t.old i 0)) (length t.old))

-- "then 18 at 0 for room", by the exact product
unfoldable pub listing_full : Turning → Verdict
listing_full t = refuse_if (ltb t.room (words_for (length t.old))) (fault RecordsFull batch_window 0)

-- "turning a listing gives 10 .., then 18": the first, or none
unfoldable pub turn_checks : List (Turning → Verdict)
turn_checks = word_stray ∷ listing_full ∷ []

abbrev pub turn_verdict : Turning → Verdict
turn_verdict t = first_fault turn_checks t

-- "both with count 0"; a success counts the records
abbrev pub turn_count : Verdict → List ℕ → ℕ
turn_count (Ok _) old = length old
turn_count (Err f) old = 0

-- "The answer is reason (0 = accepted), window (0 batch, 1 state), index and count", with numbers of 64 bits: a listing may have more than 2^32 words
abbrev pub long_answer : Verdict → ℕ → LongAnswer
long_answer (Ok _) count = record { reason = 0; window = 0; index = 0; count = count }
long_answer (Err f) count = record { reason = number_of f.reason; window = f.window; index = f.index; count = count }

-- "An old listing turned into the new form": its records from word 0 on, and the other words as they were; a refusal has "nothing written"
abbrev pub turned_by : Verdict → List ℕ → List ℕ → List ℕ
turned_by (Ok _) old before = words_of (old_commands_in old) ++ drop (words_for (length old)) before
turned_by (Err f) old before = before

-- THE PROMISE of `listing::turn`: its answer, and every word of the new buffer as it returns
pub record Turned (old before : List ℕ) (answer : LongAnswer) (after : List ℕ) : Type 0 where
  pub answers : let v = turn_verdict (turning old (length before)) in answer ≡ long_answer v (turn_count v old)
  pub words : after ≡ turned_by (turn_verdict (turning old (length before))) old before

-- C7's old records, and a word of a row that there is none of, turned into an odd number of words
pub c7_turned : turned_by (turn_verdict (turning (0x02030000 ∷ 0x01011004 ∷ 0x01010003 ∷ 0xFF8F1FFF ∷ []) 9)) (0x02030000 ∷ 0x01011004 ∷ 0x01010003 ∷ 0xFF8F1FFF ∷ [])
    (1 ∷ 2 ∷ 3 ∷ 4 ∷ 5 ∷ 6 ∷ 7 ∷ 8 ∷ 9 ∷ [])
    ≡ 0x00000000 ∷ 0x02030000 ∷ 0x00010004 ∷ 0x01010000 ∷ 0x00000003 ∷ 0x01010000 ∷ 0x00010FFF ∷ 0xFF8F0000 ∷ 9 ∷ []
unfolding old_command_of old_commands_in word_stray listing_full turn_checks tried first_from first_word second_word words_of words_for
c7_turned = refl

-- 10 goes before 18, also where only the last word has a bit
pub stray_before_room : turn_verdict (turning (0x02030000 ∷ 0x01012004 ∷ []) 3) ≡ Err (fault BitNotAllowed batch_window 1)
unfolding word_stray listing_full turn_checks tried first_from words_for
stray_before_room = refl

pub no_room_told : turn_verdict (turning (0x02030000 ∷ 0x01011004 ∷ []) 3) ≡ Err (fault RecordsFull batch_window 0)
unfolding word_stray listing_full turn_checks tried first_from words_for
no_room_told = refl

-- an empty listing fits an empty buffer
pub nothing_to_turn : turn_verdict (turning [] 0) ≡ Ok tt
unfolding word_stray listing_full turn_checks tried first_from words_for
nothing_to_turn = refl
