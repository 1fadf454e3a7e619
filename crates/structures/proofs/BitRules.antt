-- 16: which dword of a structure has a bit that its masks do not allow.
-- Assumes nothing.
use Prim.Native.Nat.{ℕ, zero, suc}
use mathlib.Core.Path.{◌≡◌, refl, sym, ap}
use mathlib.Core.Bool.{Bool, not}
use mathlib.Core.List.{List, [], ◌∷◌}
use lib.ListN.{get_or}
use Rattle.rules.specs.Words.{allowed, first_of, in_group}
use Rattle.rules.specs.declared.Kind.{Kind}
use Rattle.rules.specs.Structures.{layout_of, structure_mask, structure_bit_wrong}
use Rattle.structures.specs.Table.{outside}

-- the code's table allows nothing past a group of one dword, and neither does the definition
spare : (lead mask j : ℕ) → get_or (lead ∷ mask ∷ 0 ∷ []) j 0 ≡ get_or (lead ∷ mask ∷ []) j 0
spare lead mask zero = refl
spare lead mask (suc zero) = refl
spare lead mask (suc (suc zero)) = refl
spare lead mask (suc (suc (suc j))) = refl

pub one_each : (kind : Kind) (lead mask : ℕ) → (layout_of kind).lead ≡ lead → (layout_of kind).group ≡ mask ∷ [] → (d : List ℕ) (n : ℕ)
    → first_of (outside (lead ∷ mask ∷ 0 ∷ []) 1 d) n ≡ first_of (structure_bit_wrong kind d) n
unfolding outside structure_mask structure_bit_wrong
one_each kind lead mask p q d n = ap (λ (bad : ℕ → Bool). first_of bad n) (λ i. λ k. same k i)
  where
    same : (k : ℕ) → outside (lead ∷ mask ∷ 0 ∷ []) 1 d k ≡ structure_bit_wrong kind d k
    same k = rw (p, q, spare lead mask (in_group 1 k))

-- what the code finds of a dword
pub bit_at : (masks : List ℕ) (size : ℕ) (d : List ℕ) (k : ℕ) {w j : ℕ} {v : Bool} → w ≡ get_or d k 0 → j ≡ in_group size k
    → v ≡ allowed w (get_or masks j 0) → outside masks size d k ≡ not v
unfolding outside
bit_at masks size d k {w} {j} {v} p q e = let h : allowed (get_or d k 0) (get_or masks (in_group size k) 0) ≡ v = rw (← p, ← q) (sym e) in ap not h
