-- Document 01, "Refusal numbers, in checking order".
use Rattle.std.specs.Prelude.{ℕ, ◌+◌, ◌≡◌, Bool, cond, List, [], ◌∷◌, ◌++◌, Result, Ok, Err, Option, Some, None}
use Rattle.rules.specs.declared.Reason.{Reason}
use Rattle.rules.specs.declared.Reason.TheVariants.{WrongCounts, AddressUnaligned, EndsTooHigh, WindowsShare, BudgetSpent, RanOff, UnknownHeader, WrongLength}
use Rattle.rules.specs.declared.Reason.TheVariants.{PastTheWindow, BitNotAllowed, NestedStart, ValueBroken, RangeOutside, BaseNeverSet, StructureNowhere}
use Rattle.rules.specs.declared.Reason.TheVariants.{StructureBit, StructureValue, RecordsFull, FileSize, FileDistance, BufferShort, NoRoom}
use Rattle.rules.specs.declared.Fault.{Fault}
use Rattle.rules.specs.declared.Answer.{Answer}

-- what one check says: nothing, or a fault
abbrev pub Verdict : Type 0
Verdict = Result (Unit {0}) Fault

-- the table's column "No.", 19 to 21 of the capture file, and 22 of request 4
unfoldable pub number_of : Reason → ℕ
number_of WrongCounts = 1
number_of AddressUnaligned = 2
number_of EndsTooHigh = 3
number_of WindowsShare = 4
number_of BudgetSpent = 5
number_of RanOff = 6
number_of UnknownHeader = 7
number_of WrongLength = 8
number_of PastTheWindow = 9
number_of BitNotAllowed = 10
number_of NestedStart = 11
number_of ValueBroken = 12
number_of RangeOutside = 13
number_of BaseNeverSet = 14
number_of StructureNowhere = 15
number_of StructureBit = 16
number_of StructureValue = 17
number_of RecordsFull = 18
number_of FileSize = 19
number_of FileDistance = 20
number_of BufferShort = 21
number_of NoRoom = 22

-- "window (0 batch, 1 state)"
abbrev pub batch_window : ℕ
batch_window = 0

-- "window (0 batch, 1 state)"
abbrev pub state_window : ℕ
state_window = 1

-- a row of the table: "No." by its reason, and "Place", which is a window and an index
abbrev pub fault : Reason → ℕ → ℕ → Fault
fault reason window index = record { reason = reason; window = window; index = index }

-- the table's columns "Given exactly when" and "Place", of a refusal with one place
abbrev pub refuse_if : Bool → Fault → Verdict
refuse_if given f = cond given (Err f) (Ok tt)

-- and of one whose place is "first such dword", searched from the dword `from` of a window
abbrev pub refuse_found : Reason → ℕ → ℕ → Option ℕ → Verdict
refuse_found reason window from None = Ok tt
refuse_found reason window from (Some k) = Err (fault reason window (from + k))

-- "tried .. in this order": what the first check that fails says; `said` is what the check before the list said
unfoldable pub tried : {A : Type 0} → List (A → Verdict) → Verdict → A → Verdict
tried [] said a = said
tried (check ∷ checks) (Err f) a = Err f
tried (check ∷ checks) (Ok _) a = tried checks (check a) a

-- "Refusal numbers, in checking order": of a whole list of checks, before which nothing was said
abbrev pub first_fault : {A : Type 0} → List (A → Verdict) → A → Verdict
first_fault checks a = tried checks (Ok tt) a

-- "tried .. in this order": every check of a list passes
abbrev pub AllPass : {A : Type 0} → List (A → Verdict) → A → Type 0
AllPass [] a = Unit {0}
AllPass (check ∷ checks) a = (check a ≡ Ok tt) × AllPass checks a

-- "Given exactly when", "in checking order": a check of the list fails with this fault, and every check before it passes
pub record FirstFault {A : Type 0} (checks : List (A → Verdict)) (a : A) (f : Fault) : Type 0 where
  pub before : List (A → Verdict)
  pub check : A → Verdict
  pub after : List (A → Verdict)
  pub order : checks ≡ before ++ (check ∷ after)
  pub passes : AllPass before a
  pub fails : check a ≡ Err f

-- "The answer is reason (0 = accepted), window (0 batch, 1 state), index and count. Acceptance has place 0,0."
unfoldable pub answer_with : Verdict → ℕ → Answer
answer_with (Ok _) count = record { reason = 0; window = 0; index = 0; count = count }
answer_with (Err f) count = record { reason = number_of f.reason; window = f.window; index = f.index; count = count }

-- "Where an answer is an enum, a definition gives this paper's number and values for each of the enum's cases.": number and place as an answer
-- has them, no command being counted, and the values
pub record Told (A : Type 0) : Type 0 where
  pub answer : Answer
  pub values : List A

-- "this paper's number and values": those of a verdict, with the values that a refusal does not give
unfoldable pub told : {A : Type 0} → Verdict → List A → Told A
told (Ok _) values = record { answer = answer_with (Ok tt) 0; values = values }
told (Err f) values = record { answer = answer_with (Err f) 0; values = [] }
