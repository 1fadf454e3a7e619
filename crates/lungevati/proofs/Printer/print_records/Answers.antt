-- A page tells no more records than there are, and where one is left at least one.
use Rattle.std.proofs.Common.{rules}
use Rattle.printout.proofs.Paging.{few_told, some_told}
use Rattle.lungevati.proofs.Printer.print_records.Goals as goal

pub overflow_mul-rest : goal.overflow_mul-rest
overflow_mul-rest g c = let few = few_told c.record_lines-gathered.ensures in search rules

pub offset_bounds-rest-gathered : goal.offset_bounds-rest-gathered
offset_bounds-rest-gathered g c = let few = few_told c.record_lines-gathered.ensures in search rules

pub slice_bounds-rest-count : goal.slice_bounds-rest-count
slice_bounds-rest-count g c = let few = few_told c.record_lines-gathered.ensures in search rules

pub loop-rest-preserved : goal.loop-rest-preserved
loop-rest-preserved g c = let few = few_told c.record_lines-gathered.ensures in search rules

pub loop-rest-smaller : goal.loop-rest-smaller
loop-rest-smaller g c =
    let few = few_told c.record_lines-gathered.ensures in
    let some = some_told c.record_lines-gathered.ensures (search rules) (search rules) in search rules

pub slice_bounds-rest-start : goal.slice_bounds-rest-start
slice_bounds-rest-start g c = let few = few_told c.record_lines-gathered.ensures in search rules
