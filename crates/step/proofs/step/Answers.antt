-- `step::step` meets its contract: one law of Ways for each way out, by what the look at the command tells.
use Rattle.std.proofs.Common.{rules}
use mathlib.Core.Path.{sym, ◌∙◌}
use native.Mathlib.Omega.{arith}
use Rattle.looks.proofs.LookLaws.{looked_whole}
use Rattle.step.proofs.Ways.{structural_is, taken_is, ran_off_lem, structure_fails, all_pass, own_passes, looked_wrong}
use Rattle.step.proofs.step.Goals as goal

pub returns-then-batch-at : goal.returns-then-batch-at
returns-then-batch-at g c = rw c.in_batch.ensures (ran_off_lem _ _ (search rules))

pub overflow_add-next : goal.overflow_add-next
overflow_add-next g c =
    let l = looked_whole _ c.args.batch.now c.args.s.at _ (sym c.looked.ensures ∙ c.in-Ok.is) in
    omega arith

pub slice_bounds-command-end : goal.slice_bounds-command-end
slice_bounds-command-end g c =
    let l = looked_whole _ c.args.batch.now c.args.s.at _ (sym c.looked.ensures ∙ c.in-Ok.is) in
    search rules

pub returns-in-Err-structure_fault : goal.returns-in-Err-structure_fault
returns-in-Err-structure_fault g c =
    let l = looked_whole _ c.args.batch.now c.args.s.at _ (sym c.looked.ensures ∙ c.in-Ok.is) in
    structure_fails _ _ (search rules) (own_passes c.args.s c.requires.0 l)
    (sym (structural_is c.args.s c.requires.0 l.named l.counted c.pointer_of-pointer.ensures) ∙ sym c.structure_fault.ensures ∙ c.in-Err-structure_fault.is)

pub returns-in-Err : goal.returns-in-Err
returns-in-Err g c = looked_wrong c.args.s c.requires.0 (search rules) (sym c.looked.ensures ∙ c.in-Err.is)

pub returns-in_default : goal.returns-in_default
returns-in_default g c =
    let l = looked_whole _ c.args.batch.now c.args.s.at _ (sym c.looked.ensures ∙ c.in-Ok.is) in
    rw (c.level_number.ensures, c.move_of-after.ensures, taken_is c.args.s c.requires.0 l.named l.counted)
    (all_pass _ _ (search rules) (own_passes c.args.s c.requires.0 l)
    (sym (structural_is c.args.s c.requires.0 l.named l.counted c.pointer_of-pointer.ensures) ∙ sym c.structure_fault.ensures ∙ c.in_default.is))
