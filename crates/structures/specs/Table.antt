-- The search over a structure's dwords, by the masks that are lent to it.
use Rattle.std.specs.Prelude.{ℕ, Bool, not, List, get_or}
use Rattle.rules.specs.Words.{allowed, in_group}

-- the dword k has a bit that the masks, one of the leading dword and those of a group of so many, do not allow
unfoldable pub outside : List ℕ → ℕ → List ℕ → ℕ → Bool
outside masks size d k = not (allowed (get_or d k 0) (get_or masks (in_group size k) 0))
