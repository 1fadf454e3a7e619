-- What demand 2 says of a walk decides it: where no check faults, where the commands are a run to the end, and where a fault is the first, the walk's
-- own end and commands are these and no others.
-- Assumes nothing.
use Rattle.std.specs.Prelude.{Ok, Err, Option, None, Some}
use Prim.Native.Nat.{ℕ, ◌<◌}
use native.Mathlib.Omega.{arith}
use mathlib.Core.Path.{◌≡◌, refl, sym, ap, ◌∙◌, subst}
use mathlib.Core.List.{List, [], ◌∷◌, ◌++◌}
use mathlib.Core.Logic.{⊎_elim}
use lib.ListN.{length}
use lib.Dec.{ltb}
use borrow.Author.Tests.{ltb-true, ltb-false}
use Rattle.rules.specs.Step.{Outcome}
use Rattle.rules.specs.declared.Cursor.{Cursor}
use Rattle.rules.specs.declared.Command.{Command}
use Rattle.rules.specs.declared.Fault.{Fault}
use Rattle.rules.specs.Refusals.{Verdict}
use Rattle.rules.specs.Refusals.{first_fault}
use Rattle.rules.specs.Windows.{Capture, lengths_of}
use Rattle.rules.specs.Step.{here, checks, step_of}
use Rattle.rules.specs.Walk.{walk, Leads, stays, onward, commands_of, end_of, NoFault, Complete, WalkFault}
use Rattle.rules.proofs.Searching.{either}
use Rattle.rules.proofs.Trying.{fails_not_pass, same_fault, no_fault, first_is}
use Rattle.rules.proofs.Stepping.{taken_command, taken_after}
use Rattle.rules.proofs.Walking.{no_window_fault, refusal, accepted_passes, completion}

-- a step is one only
same_step : {k l : Command} {t u : Cursor} → ◌≡◌ {A = Outcome} (Ok (k, Some t)) (Ok (l, Some u)) → (k ≡ l) × (t ≡ u)
same_step e = (sym (taken_command e), let q = taken_after e in cc)

same_last : {k l : Command} → ◌≡◌ {A = Outcome} (Ok (k, None)) (Ok (l, None)) → k ≡ l
same_last e = sym (taken_command e)

goes_not_ends : {k l : Command} {t : Cursor} → ◌≡◌ {A = Outcome} (Ok (k, Some t)) (Ok (l, None)) → ⊥
goes_not_ends e = let q = taken_after e in let z : ◌≡◌ {A = ℕ} 0 1 = cc in omega arith

module _ (c : Capture) where
  -- from a cursor, so many commands lead one way only
  pub one_way : {s t u : Cursor} {ks ls : List Command} → Leads c s ks t → Leads c s ls u → length ks ≡ length ls
      → (ks ≡ ls) × (t ≡ u)
  one_way stays stays e = (refl, refl)
  one_way stays (onward q m) e = absurd (omega arith)
  one_way (onward p l) stays e = absurd (omega arith)
  one_way {u = u} (onward {command = k} {commands = ks} p l) (onward {command = j} {commands = ls} q m) e =
      let n = same_step (sym p ∙ q) in
      let r = one_way l (subst (λ (w : Cursor). Leads c w ls u) (sym n.1) m) (omega arith) in
      (ap (λ (i : Command). i ∷ ks) n.0 ∙ ap (λ (is : List Command). j ∷ is) r.0, r.1)

  -- and to one end
  pub one_end : {s t u : Cursor} {ks ls : List Command} {k l : Command} → Leads c s ks t → step_of c t ≡ Ok (k, None)
      → Leads c s ls u → step_of c u ≡ Ok (l, None)
      → ks ++ (k ∷ []) ≡ ls ++ (l ∷ [])
  one_end stays p stays q = ap (λ (j : Command). j ∷ []) (same_last (sym p ∙ q))
  one_end stays p (onward e m) q = absurd (goes_not_ends (sym e ∙ p))
  one_end (onward e l) p stays q = absurd (goes_not_ends (sym e ∙ q))
  one_end {u = u} {l = last} (onward {command = k} {commands = ks} e m) p (onward {command = j} {commands = ls} f n) q =
      let o = same_step (sym e ∙ f) in
      let r = one_end {l = last} m p (subst (λ (w : Cursor). Leads c w ls u) (sym o.1) n) q in
      ap (λ (js : List Command). k ∷ js) r ∙ ap (λ (i : Command). i ∷ (ls ++ (last ∷ []))) o.0

module _ (base : Option ℕ) (c : Capture) (room : ℕ) where
  -- a run to the end is the walk's own, where the walk is accepted
  pub complete_told : {ks : List Command} → end_of (walk base c room) ≡ Ok tt → Complete base c ks
      → ks ≡ commands_of (walk base c room)
  complete_told e p =
      let q = completion base c room e in
      p.all ∙ one_end c p.reached p.ends q.reached q.ends ∙ sym q.all

  -- a first fault leaves no room for acceptance
  faults : {ks : List Command} {f : Fault} → WalkFault base c room ks f → NoFault base c room → ⊥
  faults {ks} p n = fails_not_pass (sym (first_is p.first) ∙ no_fault (here c p.cursor) _ (n.passes ks p.cursor p.reached))

  -- nor for one that comes later
  no_later : {ks ls : List Command} {f g : Fault} → WalkFault base c room ks f → WalkFault base c room ls g → length ks < length ls
      → ⊥
  no_later {ks} p q h = fails_not_pass (sym (first_is p.first) ∙ no_fault (here c p.cursor) _ (q.earlier ks p.cursor p.reached h))

  same_fault_at : {ks ls : List Command} {f g : Fault} → WalkFault base c room ks f → WalkFault base c room ls g
      → (ks ≡ ls) × (f ≡ g)
  same_fault_at {ks} {ls} {f} {g} p q =
      let n : length ks ≡ length ls =
      ⊎_elim (λ t. absurd (no_later p q (ltb-true (length ks) (length ls) t)))
      (λ t.
      ⊎_elim (λ u. absurd (no_later q p (ltb-true (length ls) (length ks) u)))
      (λ u. omega (arith, ltb-false (length ks) (length ls) t, ltb-false (length ls) (length ks) u)) (either (ltb (length ls) (length ks))))
      (either (ltb (length ks) (length ls))) in
      let w = one_way c p.reached q.reached n in
      let same : Err f ≡ Err g =
      sym (first_is p.first) ∙ ap (λ (s : Cursor). first_fault (checks (length ks) room) (here c s)) w.1
      ∙ ap (λ (i : ℕ). first_fault (checks i room) (here c q.cursor)) n ∙ first_is q.first in
      (w.0, same_fault same)

  -- a first fault is the walk's own end, and the commands before it those that it tells
  pub fault_told : {ks : List Command} {f : Fault} → WalkFault base c room ks f
      → (end_of (walk base c room) ≡ Err f) × (ks ≡ commands_of (walk base c room))
  fault_told {ks} {f} p = by (end_of (walk base c room)) refl
    where
      by : (v : Verdict) → end_of (walk base c room) ≡ v → (v ≡ Err f) × (ks ≡ commands_of (walk base c room))
      by (Ok _) e = absurd (faults p (accepted_passes base c room e))
      by (Err g) e =
          ⊎_elim (λ q. absurd (fails_not_pass (sym q.0 ∙ no_window_fault (lengths_of c) p.sound))) (λ q. let s = same_fault_at p q in (ap Err (sym s.1), s.0)) (refusal base c room e)
