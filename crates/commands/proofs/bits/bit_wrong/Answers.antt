-- A dword that keeps its mask has no wrong bit, and of one that does not its use decides.
-- Assumes nothing.
use Prim.Native.Nat.{ℕ, ◌^◌, ◌<◌}
use mathlib.Core.Path.{◌≡◌, sym, ap, ◌∙◌}
use mathlib.Core.Bool.{Bool, not, ◌||◌, or-true, or-false}
use mathlib.Core.List.{List, []}
use lib.ListN.{get_or}
use Rattle.rules.specs.Words.{allowed}
use Rattle.rules.specs.Uses.{used_high_of}
use Rattle.rules.specs.Commands.{row_count}
use Rattle.rules.specs.Masks.{allowed_of}
use Rattle.rules.proofs.Used.{used_or_kept}
use Rattle.rows.specs.Masks.{mask_table}
use Rattle.rows.proofs.RowLaws.{table_mask}
use Rattle.commands.proofs.bits.bit_wrong.Goals as goal

-- the definition, by the masks that are lent
by_masks : (r : ℕ) (d masks : List ℕ) (k j : ℕ) → j < 16 → r < row_count → masks ≡ get_or mask_table r [] → get_or d k 0 < 2 ^ 32
    → not (used_high_of r d k j || allowed (get_or d k 0) (get_or masks j 0)) ≡ not (allowed (get_or d k 0) (allowed_of r d k j))
unfolding allowed_of
by_masks r d masks k j below row lent small =
    ap not
    (ap (λ (m : ℕ). used_high_of r d k j || allowed (get_or d k 0) m) (ap (λ (l : List ℕ). get_or l j 0) lent ∙ table_mask r j row below)
    ∙ sym (used_or_kept (used_high_of r d k j) _ _ small))

pub returns-then-not-allowed : goal.returns-then-not-allowed
returns-then-not-allowed c =
    let a = c.args in
    let p = c.requires in
    let used = used_high_of a.row a.command.now a.k a.j in
    ap not (c.high_used.ensures ∙ sym (ap (λ (k : Bool). used || k) (sym c.allowed.ensures ∙ c.if-not-allowed.true) ∙ or-false used))
    ∙ by_masks a.row a.command.now _ a.k a.j p.1 p.2 p.3 (c.type_inv.command a.k).fits

pub returns-else-not-allowed : goal.returns-else-not-allowed
returns-else-not-allowed c =
    let a = c.args in
    let p = c.requires in
    let used = used_high_of a.row a.command.now a.k a.j in
    ap not (c.if-not-allowed.false ∙ sym (ap (λ (k : Bool). used || k) (sym c.allowed.ensures ∙ c.if-not-allowed.false) ∙ or-true used))
    ∙ by_masks a.row a.command.now _ a.k a.j p.1 p.2 p.3 (c.type_inv.command a.k).fits
