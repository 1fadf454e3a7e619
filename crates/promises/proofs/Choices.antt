-- The three demands for either starting base, from the promise of `check_from`, and that 14 is given only under "none"; the same of a file.
-- Assumes nothing.
use Rattle.std.specs.Prelude.{Ok, Err, None}
use Prim.Native.Nat.{ℕ}
use native.Mathlib.Omega.{arith}
use mathlib.Core.Path.{◌≡◌, refl, sym, ap, ◌∙◌}
use mathlib.Core.List.{List}
use lib.ListN.{length}
use Rattle.rules.specs.declared.Answer.{Answer}
use Rattle.rules.specs.declared.BaseChoice.{BaseChoice}
use Rattle.rules.specs.declared.BaseChoice.TheVariants.{StateWindow, NoBase}
use Rattle.rules.specs.declared.Fault.{Fault}
use Rattle.rules.specs.Refusals.{Verdict}
use Rattle.rules.specs.Refusals.{number_of, answer_with, first_fault}
use Rattle.rules.specs.Windows.{Capture}
use Rattle.rules.specs.Walk.{Run, starting_base, walk, commands_of, end_of, answer_of}
use Rattle.rules.specs.Records.{room_of, written_of, CheckedFrom}
use Rattle.rules.specs.File.{offer, file_checks, file_base, JudgedFrom}
use Rattle.rules.proofs.Trying.{all_pass, first_fault_lem}
use Rattle.rules.proofs.Starting.{only_under_none, file_other}
use Rattle.rules.proofs.Choosing.{Fourteen, same_unless_fourteen}
use Rattle.promises.specs.Choices.{FourteenUnderNone, Demands, SameUnlessFourteen}
use Rattle.promises.specs.Files.{FileDemands}
use Rattle.promises.proofs.Demand1.{demand_1}
use Rattle.promises.proofs.Demand2.{demand_2}
use Rattle.promises.proofs.Demand3.{demand_3}
use Rattle.promises.proofs.Files.{checked, file_demands}

-- an answer that says 14 is that of a fault, whose number it is
fault_told : (v : Verdict) (n : ℕ) (choice : BaseChoice) → (answer_with v n).reason ≡ 14
    → ((f : Fault) → v ≡ Err f → number_of f.reason ≡ 14 → choice ≡ NoBase) → choice ≡ NoBase
unfolding answer_with
fault_told (Ok _) n choice e h = absurd (let z : ◌≡◌ {A = ℕ} 0 14 = e in omega arith)
fault_told (Err f) n choice e h = h f refl e

module _ (choice : BaseChoice) {c : Capture} {old new : List ℕ} {r : Answer} (p : CheckedFrom choice c old r new) where
  -- "14 IS GIVEN ONLY UNDER "NONE""
  pub fourteen : FourteenUnderNone choice r
  unfolding answer_of
  fourteen e =
      let run = walk (starting_base choice c.state_at) c (room_of (length old)) in
      fault_told (end_of run) (length (commands_of run)) choice (ap (λ (a : Answer). a.reason) (sym p.answers) ∙ e)
      (λ f. only_under_none choice c (room_of (length old)))

  demands : Demands choice c old r new
  demands = record { demand1 = demand_1 p; demand2 = demand_2 p; demand3 = demand_3 p; fourteen = fourteen }

-- THE DEMANDS FOR EITHER CHOICE, each by its name
pub by_default_lem : {c : Capture} {old new : List ℕ} {r : Answer} → CheckedFrom StateWindow c old r new → Demands StateWindow c old r new
by_default_lem p = demands StateWindow p

pub under_none : {c : Capture} {old new : List ℕ} {r : Answer} → CheckedFrom NoBase c old r new → Demands NoBase c old r new
under_none p = demands NoBase p

-- THE SAME BY BOTH, unless it is 14 under "none": of two calls with record buffers of the same words
module _ {c : Capture} {old new none_new : List ℕ} {r none : Answer} (p : CheckedFrom StateWindow c old r new) (q : CheckedFrom NoBase c old none none_new) where
  pub same_by_both : SameUnlessFourteen r new none none_new
  unfolding answer_of answer_with
  same_by_both other =
      let room = room_of (length old) in
      let run = walk None c room in
      let told : Fourteen (end_of run) → ⊥ = λ x.
      other (ap (λ (a : Answer). a.reason) q.answers ∙ ap (λ (v : Verdict). (answer_with v (length (commands_of run))).reason) x.1 ∙ x.2) in
      let same = same_unless_fourteen c.state_at c room told in
      (p.answers ∙ ap answer_of same ∙ sym q.answers, p.written ∙ ap (λ (w : Run). written_of w old) same ∙ sym q.written)

-- and so for a file
pub file_by_default : {file batch state records new_batch new_state new_records : List ℕ} {r : Answer}
    → JudgedFrom StateWindow file batch state records r new_batch new_state new_records
    → FileDemands (file_base StateWindow file) file batch state records r new_batch new_state new_records
file_by_default p = file_demands p

pub file_under_none : {file batch state records new_batch new_state new_records : List ℕ} {r : Answer}
    → JudgedFrom NoBase file batch state records r new_batch new_state new_records
    → FileDemands (file_base NoBase file) file batch state records r new_batch new_state new_records
file_under_none p = file_demands p

-- 14 is given for a file only under "none": what the reader refuses has another number
module _ (choice : BaseChoice) {file batch state records new_batch new_state new_records : List ℕ} {r : Answer}
    (p : JudgedFrom choice file batch state records r new_batch new_state new_records) where
  abbrev said : Verdict
  said = first_fault file_checks (offer file (length batch) (length state))

  pub file_fourteen : FourteenUnderNone choice r
  file_fourteen e = by said refl
    where
      by : (v : Verdict) → said ≡ v → choice ≡ NoBase
      by (Ok _) q = fourteen choice (checked p (all_pass _ file_checks q)) e
      by (Err f) q =
          let unread = (file_demands p).refused f (first_fault_lem _ file_checks f q) in
          absurd (file_other _ f q (sym (ap (λ (a : Answer). a.reason) unread.answer) ∙ e))
