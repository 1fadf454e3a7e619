-- `put_records` meets its contract: a line more in each turn, until the page is full or all are told.
use Rattle.std.proofs.Common.{arith, ◌≡◌, ◌/◌, length}
use Rattle.printout.proofs.Paging.{begins, one_more, page_full, all_told}
use Rattle.printout.proofs.put_records.Goals as goal

pub loop-i-init : goal.loop-i-init
loop-i-init c = begins _ _ c.requires

pub loop-i-preserved : goal.loop-i-preserved
loop-i-preserved c =
    let g = c.loop-i.invariant in
    one_more _ _ c.requires g (omega arith) (omega (arith, g.lines.as_long)) (rw c.command.ensures at c.put_command.ensures)

pub returns-then-room-lt-LINE_BYTES : goal.returns-then-room-lt-LINE_BYTES
returns-then-room-lt-LINE_BYTES c =
    let g = c.loop-i.invariant in
    record { same_reference = g.lines.same_reference; gathered = page_full _ _ c.requires g (omega (arith, g.lines.as_long)) }

pub returns : goal.returns
returns c =
    let g = c.loop-i.invariant in
    let all : c.loop-i.i ≡ length c.args.records.now / 2 = omega arith in
    record { same_reference = g.lines.same_reference; gathered = rw all at (all_told _ _ c.requires g (omega arith)) }
