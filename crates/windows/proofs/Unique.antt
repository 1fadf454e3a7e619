-- The promise of the public structure lookup admits one answer only.
-- Assumes nothing.
use Prim.Native.Nat.{ℕ}
use mathlib.Core.Path.{◌≡◌, sym, ◌∙◌}
use mathlib.Core.List.{List}
use lib.ListN.{length}
use Rattle.rules.specs.Windows.{lent, held_at, part_of}

-- what `windows::structure` promises of the part that it returns
abbrev Promised : List ℕ → ℕ → List ℕ → ℕ → ℕ → ℕ → List ℕ → Type 0
Promised batch batch_at state state_at address n part =
    part ≡ part_of batch state n (held_at (lent batch_at (length batch)) (lent state_at (length state)) address n)

pub one_structure : (batch : List ℕ) (batch_at : ℕ) (state : List ℕ) (state_at address n : ℕ) (p q : List ℕ)
    → Promised batch batch_at state state_at address n p → Promised batch batch_at state state_at address n q → p ≡ q
one_structure batch batch_at state state_at address n p q e f = e ∙ sym f
