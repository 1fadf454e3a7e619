-- The promise of a structure read admits one answer only.
-- Assumes nothing.
use Prim.Native.Nat.{ℕ}
use mathlib.Core.Path.{◌≡◌, sym, ◌∙◌}
use mathlib.Core.List.{List}
use Rattle.rules.specs.declared.Kind.{Kind}
use Rattle.rules.specs.declared.Reading.{Reading}
use Rattle.rules.specs.Structures.{StructureRead}

pub one_reading : {batch : List ℕ} {batch_at : ℕ} {state : List ℕ} {state_at : ℕ} {kind : Kind} {address pointer : ℕ} {p q : Reading}
    → StructureRead batch batch_at state state_at kind address pointer p → StructureRead batch batch_at state state_at kind address pointer q → p ≡ q
one_reading e f = e.answers ∙ sym f.answers
