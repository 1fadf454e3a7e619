-- Each promise admits one answer only, and one content of every lent buffer.
-- Assumes nothing.
use Rattle.std.specs.Prelude.{Ok, Err, Option, Result}
use Prim.Native.Nat.{ℕ, ◌<◌}
use native.Mathlib.Omega.{arith}
use mathlib.Core.Path.{◌≡◌, refl, sym, ◌∙◌}
use mathlib.Core.List.{List}
use lib.ListN.{length}
use lib.Dec.{lit<}
use Rattle.rules.specs.declared.Contents.{Contents}
use Rattle.rules.specs.declared.Answer.{Answer}
use Rattle.rules.specs.declared.Reason.{Reason}
use Rattle.rules.specs.declared.Reason.TheVariants.{WrongCounts, AddressUnaligned, EndsTooHigh, WindowsShare, BudgetSpent, RanOff}
use Rattle.rules.specs.declared.Reason.TheVariants.{UnknownHeader, WrongLength, PastTheWindow, BitNotAllowed, NestedStart, ValueBroken}
use Rattle.rules.specs.declared.Reason.TheVariants.{RangeOutside, BaseNeverSet, StructureNowhere, StructureBit, StructureValue}
use Rattle.rules.specs.declared.Reason.TheVariants.{RecordsFull, FileSize, FileDistance, BufferShort, NoRoom}
use Rattle.rules.specs.Refusals.{Verdict}
use Rattle.rules.specs.Windows.{Capture}
use Rattle.rules.specs.Refusals.{number_of, answer_with}
use Rattle.rules.specs.Walk.{Run, commands_of, end_of, answer_of}
use Rattle.rules.specs.Records.{Checked}
use Rattle.rules.specs.File.{FileRead, Judged}

pub one_check : {base : Option ℕ} {c : Capture} {old new new' : List ℕ} {r r' : Answer} → Checked base c old r new
    → Checked base c old r' new' → (r ≡ r') × (new ≡ new')
one_check p q = (p.answers ∙ sym q.answers, p.written ∙ sym q.written)

pub one_reading : {file batch state b b' s s' : List ℕ} {r r' : Result Contents Reason} → FileRead file batch state r b s
    → FileRead file batch state r' b' s' → (r ≡ r') × (b ≡ b') × (s ≡ s')
one_reading p q = (p.answers ∙ sym q.answers, p.batch_filled ∙ sym q.batch_filled, p.state_filled ∙ sym q.state_filled)

pub one_judgement : {base : Option ℕ} {file batch state records b b' s s' w w' : List ℕ} {r r' : Answer}
    → Judged base file batch state records r b s w → Judged base file batch state records r' b' s' w'
    → (r ≡ r') × (b ≡ b') × (s ≡ s') × (w ≡ w')
one_judgement p q =
    (p.answers ∙ sym q.answers, p.batch_filled ∙ sym q.batch_filled, p.state_filled ∙ sym q.state_filled, p.written ∙ sym q.written)

count_told : (v : Verdict) (n : ℕ) → (answer_with v n).count ≡ n
unfolding answer_with
count_told (Ok _) n = refl
count_told (Err f) n = refl

pub count_is : (run : Run) → (answer_of run).count ≡ length (commands_of run)
unfolding answer_of
count_is run = count_told (end_of run) (length (commands_of run))

-- no refusal has number 0, so the reason says whether a run was accepted
pub above_zero : (r : Reason) → 0 < number_of r
unfolding number_of
above_zero WrongCounts = lit< tt
above_zero AddressUnaligned = lit< tt
above_zero EndsTooHigh = lit< tt
above_zero WindowsShare = lit< tt
above_zero BudgetSpent = lit< tt
above_zero RanOff = lit< tt
above_zero UnknownHeader = lit< tt
above_zero WrongLength = lit< tt
above_zero PastTheWindow = lit< tt
above_zero BitNotAllowed = lit< tt
above_zero NestedStart = lit< tt
above_zero ValueBroken = lit< tt
above_zero RangeOutside = lit< tt
above_zero BaseNeverSet = lit< tt
above_zero StructureNowhere = lit< tt
above_zero StructureBit = lit< tt
above_zero StructureValue = lit< tt
above_zero RecordsFull = lit< tt
above_zero FileSize = lit< tt
above_zero FileDistance = lit< tt
above_zero BufferShort = lit< tt
above_zero NoRoom = lit< tt

pub zero_is_pass : (v : Verdict) (n : ℕ) → (answer_with v n).reason ≡ 0 → v ≡ Ok tt
unfolding answer_with
zero_is_pass (Ok _) n e = refl
zero_is_pass (Err f) n e = absurd (omega (arith, above_zero f.reason))

pub pass_is_zero : (v : Verdict) (n : ℕ) → v ≡ Ok tt → (answer_with v n).reason ≡ 0
unfolding answer_with
pass_is_zero v n e = rw e
