-- The dwords of a vertex element: where 10 finds nothing, the second keeps its mask.
-- Assumes nothing.
use Prim.Native.Nat.{ℕ, ◌+◌}
use native.Mathlib.Omega.{arith}
use mathlib.Core.Path.{◌≡◌, refl}
use mathlib.Core.Bool.{true}
use mathlib.Core.List.{List}
use lib.ListN.{get_or}
use Rattle.rules.specs.declared.Reason.TheVariants.{BitNotAllowed}
use Rattle.rules.specs.Words.{allowed}
use Rattle.rules.specs.Commands.{vertex_elements_row, rows, the_row, group_size}
use Rattle.rules.specs.Masks.{masks_of, bit_wrong}
use Rattle.rules.specs.Uses.{uses_by_row, access_of, used_high_of}
use Rattle.plain_shared.specs.Plain.{first_coded, GroupAt}
use Rattle.plain_shared.proofs.Coding.{no_fault}
use Rattle.plain_shared.proofs.Dwords.{spot_in, kept_at}

pub second_kept : (d : List ℕ) (k : ℕ) → GroupAt 2 d k → first_coded BitNotAllowed (bit_wrong vertex_elements_row d) k 2 ≡ 0
    → allowed (get_or d (k + 1) 0) 0x77770000 ≡ true
unfolding rows the_row group_size uses_by_row access_of used_high_of masks_of
second_kept d k g e =
    kept_at vertex_elements_row _ (k + 1) 2 (spot_in 2 k 1 g.0 g.2 (omega arith) refl) refl refl
    (no_fault _ _ k 2 e (k + 1) (omega arith) (omega arith))
