-- Document 01, "Cases": the cases marked C, in one table, and the one theorem that the walk gives each.
use Rattle.std.specs.Prelude.{ℕ, ◌≡◌, refl, Bool, true, false, ◌&&◌, List, [], ◌∷◌, ◌++◌, map, length, drop, eqb}
use Rattle.rules.specs.declared.Answer.{Answer}
use Rattle.rules.specs.declared.BaseChoice.{BaseChoice}
use Rattle.rules.specs.declared.BaseChoice.TheVariants.{StateWindow, NoBase}
use Rattle.rules.specs.Windows.{Capture}
use Rattle.rules.specs.Walk.{Run, walk, starting_base, answer_of}
use Rattle.rules.specs.Records.{words_for, written_of, room_of}
use Rattle.rules.specs.Book.{book}

-- the table of "Cases": the number, the base that its walk starts with, "Batch", what the record buffer held, and "Answer" with its records
pub record Case : Type 0 where
  pub number : ℕ
  pub choice : BaseChoice
  pub batch : List ℕ
  pub before : List ℕ
  pub reason : ℕ
  pub window : ℕ
  pub index : ℕ
  pub count : ℕ
  pub records : List ℕ

-- "Batch at 100000h, state at 200000h, scratch 300000h with 4,096 bytes"; no case depends on the state's dwords, so it has none
abbrev pub case_capture : List ℕ → Capture
case_capture batch =
    record { batch = batch; batch_at = 0x100000; state = []; state_at = 0x200000; scratch_at = 0x300000; scratch_bytes = 4096 }

-- "room 4", which request 7 counts in whole records: eight words, each unlike any record and unlike the others, so that a word that should stay is seen to
abbrev pub four_records : List ℕ
four_records = 0xEEEEE001 ∷ 0xEEEEE002 ∷ 0xEEEEE003 ∷ 0xEEEEE004 ∷ 0xEEEEE005 ∷ 0xEEEEE006 ∷ 0xEEEEE007 ∷ 0xEEEEE008 ∷ []

-- "ample room": two more, and an odd last word
abbrev pub ample : List ℕ
ample = four_records ++ (0xEEEEE009 ∷ 0xEEEEE00A ∷ 0xEEEEE00B ∷ [])

-- a line of the table, "C", "Batch", "Answer"; every case has its place in window 0. Request 5: "Case C11 is read under "none"", and so is each that
-- does not say otherwise
abbrev pub case : ℕ → List ℕ → List ℕ → ℕ → ℕ → ℕ → List ℕ → Case
case number batch before reason index count records =
    record { number = number; choice = NoBase; batch = batch; before = before; reason = reason; window = 0; index = index; count = count; records = records }

-- the same case under the default of request 5
abbrev pub by_default : Case → Case
by_default k = record {
  number = k.number;
  choice = StateWindow;
  batch = k.batch;
  before = k.before;
  reason = k.reason;
  window = k.window;
  index = k.index;
  count = k.count;
  records = k.records;
}

-- the table of "Cases", with the values that it leaves to the rules: the place 0 where none is said, and the records; beside C11 what it is
-- under the default, where the base is the state window's address, and that window is empty
unfoldable pub cases : List Case
cases =
    case 1 [] ample 1 0 0 []
    ∷ case 2 (0x05000000 ∷ []) ample 0 0 1 (0x00000000 ∷ 0x01010000 ∷ [])
    ∷ case 3 (0x00000000 ∷ []) ample 6 1 1 (0x00000000 ∷ 0x00010000 ∷ [])
    ∷ case 4 (0x05000001 ∷ []) ample 10 0 0 []
    ∷ case 5 (0x40000000 ∷ []) ample 7 0 0 []
    ∷ case 6 (0x18800101 ∷ 0x00100000 ∷ 0 ∷ []) four_records 18 0 4 (0x00000000 ∷ 0x02030000 ∷ 0x00000000 ∷ 0x02030000 ∷ 0x00000000 ∷ 0x02030000 ∷ 0x00000000 ∷ 0x02030000 ∷ [])
    ∷ case 7 (0x18C00101 ∷ 0x00100010 ∷ 0 ∷ 0x05000000 ∷ 0x05000000 ∷ []) ample 0 0 3 (0x00000000 ∷ 0x02030000 ∷ 0x00010004 ∷ 0x01010000 ∷ 0x00000003 ∷ 0x01010000 ∷ [])
    ∷ case 8 (0x10000002 ∷ 0x00300FFC ∷ 0 ∷ 0 ∷ 0x05000000 ∷ []) ample 0 0 2 (0x00000000 ∷ 0x04040000 ∷ 0x00000004 ∷ 0x01010000 ∷ [])
    ∷ case 9 (0x00000000 ∷ 0x10000002 ∷ 0x00301000 ∷ 0 ∷ 0 ∷ 0x05000000 ∷ []) ample 13 2 1 (0x00000000 ∷ 0x00010000 ∷ [])
    ∷ case 10 (0x10200003 ∷ 0x00300FFC ∷ 0 ∷ 0 ∷ 0 ∷ []) ample 12 1 0 []
    ∷ case 11 (0x78230000 ∷ 0 ∷ []) ample 14 1 0 []
    ∷ by_default (case 11 (0x78230000 ∷ 0 ∷ []) ample 15 1 0 [])
    ∷ case 12 (0x7B000405 ∷ 0x00000200 ∷ 0 ∷ 0 ∷ 0 ∷ 0 ∷ 0 ∷ []) ample 12 1 0 []
    ∷ []

-- "records", "every untouched word": two lists of words are the same, to the last word
abbrev pub same_words : List ℕ → List ℕ → Bool
same_words [] [] = true
same_words [] (y ∷ ys) = false
same_words (x ∷ xs) [] = false
same_words (x ∷ xs) (y ∷ ys) = eqb x y && same_words xs ys

-- "Answer": reason, window, index and count
abbrev pub same_answer : Answer → Case → Bool
same_answer a k = (eqb a.reason k.reason && eqb a.window k.window) && (eqb a.index k.index && eqb a.count k.count)

-- "Each public call is promised completely: answer, records and every untouched word": the walk gives the case all of it
abbrev pub gives : Run → Case → Bool
gives run k = same_answer (answer_of run) k && same_words (written_of run k.before) (k.records ++ drop (words_for k.count) k.before)

-- "ample room unless said": the walk of a case, in these windows
abbrev pub run_in : (List ℕ → Capture) → Case → Run
run_in capture k = walk (starting_base k.choice (capture k.batch).state_at) (capture k.batch) (room_of (length k.before))

-- "proved once over a table of them": a case that is not given is named
abbrev pub named_if : Bool → ℕ → List ℕ → List ℕ
named_if true number rest = rest
named_if false number rest = number ∷ rest

-- "proved once over a table of them": the numbers of the cases that the walk does not give
abbrev pub failing_in : (List ℕ → Capture) → List Case → List ℕ
failing_in capture [] = []
failing_in capture (k ∷ ks) = named_if (gives (run_in capture k) k) k.number (failing_in capture ks)

-- the same in the windows of document 01's cases
abbrev pub failing : List Case → List ℕ
failing ks = failing_in case_capture ks

-- "Marked C, .. and proved once over a table of them"
pub cases_hold : failing cases ≡ []
unfolding cases book
cases_hold = refl

-- under the default each of them keeps its answer but C11
pub cases_by_default : failing (map by_default cases) ≡ 11 ∷ []
unfolding cases book
cases_by_default = refl
