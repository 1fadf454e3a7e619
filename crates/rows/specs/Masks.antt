-- "Allowed bits are kept as a table of rows, each row the masks of its dwords": the table as the code holds it.
use Rattle.std.specs.Prelude.{ℕ, zero, suc, ◌+◌, ◌-◌, List, [], ◌∷◌, ◌++◌, length, replicate}
use Rattle.rules.specs.Commands.{row_count}
use Rattle.rules.specs.Masks.{masks_of}

-- the masks of n rows from a row on, each row filled up to sixteen with what allows nothing
unfoldable pub mask_rows : ℕ → ℕ → List (List ℕ)
mask_rows r zero = []
mask_rows r (suc n) = (masks_of r ++ replicate (16 - length (masks_of r)) 0) ∷ mask_rows (r + 1) n

-- the table that the code lends: a row's number by a dword's number
unfoldable pub mask_table : List (List ℕ)
mask_table = mask_rows 0 row_count
