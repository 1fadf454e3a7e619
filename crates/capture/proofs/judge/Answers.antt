-- `capture::judge` meets its promise: what `read` has filled in is checked, and a refusal of `read` is the answer.
use mathlib.Core.Path.{sym, ap}
use native.Mathlib.Omega.{arith}
use lib.Seq.{length-take-le}
use Rattle.rules.specs.File.{Trailer}
use Rattle.capture.proofs.Reading.{file_holds}
use Rattle.capture.proofs.Judging.{known, not_read, read_and_checked}
use Rattle.capture.proofs.judge.Goals as goal

pub of-scratch-requires : goal.of-scratch-requires
of-scratch-requires c = let h = file_holds _ _ _ (sym (known c.read.ensures c.in-Ok.is).answers) in omega arith

pub slice_bounds-check_from-end : goal.slice_bounds-check_from-end
slice_bounds-check_from-end c = let h = file_holds _ _ _ (sym (known c.read.ensures c.in-Ok.is).answers) in omega arith

pub slice_bounds-check_from-end-in-Ok : goal.slice_bounds-check_from-end-in-Ok
slice_bounds-check_from-end-in-Ok c =
    let h = file_holds _ _ _ (sym (known c.read.ensures c.in-Ok.is).answers) in sym (length-take-le _ _ (omega arith))

pub slice_bounds-check_from-end-in-Ok-2 : goal.slice_bounds-check_from-end-in-Ok-2
slice_bounds-check_from-end-in-Ok-2 c = let h = file_holds _ _ _ (sym (known c.read.ensures c.in-Ok.is).answers) in omega arith

pub slice_bounds-check_from-end-in-Ok-3 : goal.slice_bounds-check_from-end-in-Ok-3
slice_bounds-check_from-end-in-Ok-3 c =
    let h = file_holds _ _ _ (sym (known c.read.ensures c.in-Ok.is).answers) in sym (length-take-le _ _ (omega arith))

pub returns-in-Err : goal.returns-in-Err
returns-in-Err c = not_read (known c.read.ensures c.in-Err.is) (rw c.in_batch.ensures at c.refusal.ensures)

pub returns-in-Ok : goal.returns-in-Ok
returns-in-Ok c = read_and_checked c.args.choice (known c.read.ensures c.in-Ok.is) (ap (λ (t : Trailer). t.scratch_bytes) c.of-scratch.ensures) c.check_from.ensures
