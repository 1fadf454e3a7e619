-- Masks in a list, against as many dwords.
use Rattle.std.specs.Prelude.{ℕ, ◌+◌, cond, not, List, [], ◌∷◌, get_or, Option, Some, None}
use Rattle.rules.specs.Words.{allowed}

-- the first of the dwords from k on with a bit outside its mask, of as many as there are masks
unfoldable pub stray_from : List ℕ → ℕ → List ℕ → Option ℕ
stray_from d k [] = None
stray_from d k (m ∷ ms) = let later : Option ℕ = stray_from d (k + 1) ms in cond (not (allowed (get_or d k 0) m)) (Some k) later
