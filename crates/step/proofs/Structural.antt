-- Laws of the checks of the structure that a command points to (14 to 17), and of checks that are tried in order.
-- Assumes nothing.
use Rattle.std.specs.Prelude.{Ok, Err, Option, None, Some}
use Prim.Native.Nat.{ℕ, ◌+◌}
use mathlib.Core.Path.{◌≡◌, refl, ap, ◌∙◌}
use mathlib.Core.List.{List, [], ◌∷◌, ◌++◌}
use Rattle.rules.specs.declared.Kind.{Kind}
use Rattle.rules.specs.Refusals.{Verdict}
use Rattle.rules.specs.declared.Reason.TheVariants.{BaseNeverSet}
use Rattle.rules.specs.Refusals.{batch_window, fault, tried, first_fault}
use Rattle.rules.specs.Windows.{Capture}
use Rattle.rules.specs.Structures.{Asked, structure_nowhere, structure_bit, structure_value, structure_checks, read_at, verdict_of}
use Rattle.rules.proofs.Trying.{stays_failed}
use Rattle.rules.proofs.Readings.{reading_says}
use Rattle.looks.specs.Looks.{or_else}
use Rattle.step.specs.Parts.{structural_of}

-- one check, and the next only where it passes
tried_or : {A : Type 0} (check : A → Verdict) (checks : List (A → Verdict)) (a : A)
    → tried (check ∷ checks) (Ok tt) a ≡ or_else (check a) (first_fault checks a)
unfolding tried
tried_or check checks a = by (check a)
  where
    by : (v : Verdict) → tried checks v a ≡ or_else v (first_fault checks a)
    by (Ok _) = refl
    by (Err f) = stays_failed checks f a

-- several checks, each only where those before it pass, and then what comes behind them
abbrev pub in_order : {A : Type 0} → List (A → Verdict) → A → Verdict → Verdict
in_order [] a behind = behind
in_order (check ∷ checks) a behind = or_else (check a) (in_order checks a behind)

pub tried_in_order : {A : Type 0} (checks more : List (A → Verdict)) (a : A)
    → first_fault (checks ++ more) a ≡ in_order checks a (first_fault more a)
tried_in_order [] more a = refl
tried_in_order (check ∷ checks) more a = tried_or check (checks ++ more) a ∙ ap (or_else (check a)) (tried_in_order checks more a)

-- the first fault of a structure's checks
structure_tried : (a : Asked) → first_fault structure_checks a ≡ or_else (structure_nowhere a) (or_else (structure_bit a) (structure_value a))
unfolding structure_checks tried
structure_tried a = tried_in_order (structure_nowhere ∷ structure_bit ∷ []) (structure_value ∷ []) a

-- the ways out of the checks of the structure
module _ (c : Capture) (place : ℕ) (p : Option (Kind × ℕ)) (base : Option ℕ) where
  pub unpointed : p ≡ None → Ok tt ≡ structural_of c place p base
  unfolding structural_of
  unpointed e = rw e

  pub unbased : {kind : Kind} {offset : ℕ} → p ≡ Some (kind, offset) → base ≡ None
      → Err (fault BaseNeverSet batch_window place) ≡ structural_of c place p base
  unfolding structural_of
  unbased e b = rw (e, b)

  pub read : {kind : Kind} {offset b : ℕ} → p ≡ Some (kind, offset) → base ≡ Some b
      → verdict_of (read_at c.batch c.batch_at c.state c.state_at kind (b + offset) place) ≡ structural_of c place p base
  unfolding structural_of read_at
  read {kind} {offset} {b} e s = rw (e, s, reading_says) (structure_tried _)
