-- `capture::read` meets its contract: `examine` has answered before the first store, and what it held to be true gives both calls of `fill` their room.
use Rattle.std.proofs.Common.{rules, ◌≡◌, Result, Err}
use mathlib.Core.Path.{sym, ◌∙◌}
use native.Mathlib.Omega.{arith}
use Rattle.rules.specs.declared.Contents.{Contents}
use Rattle.rules.specs.declared.Reason.{Reason}
use Rattle.capture.proofs.Reading.{file_holds, left_alone, filled_in}
use Rattle.capture.proofs.read.Goals as goal

pub returns-in_err-contents : goal.returns-in_err-contents
returns-in_err-contents c =
    let stopped : ◌≡◌ {A = Result Contents Reason} c.from_residual.result (Err c.in_err-contents.field-0.0) = search rules in
    rw stopped (left_alone (sym c.examine.ensures ∙ c.in_err-contents.was))

pub fill-requires : goal.fill-requires
fill-requires c = let h = file_holds _ _ _ (sym c.examine.ensures ∙ c.in_ok-contents.was) in omega arith

pub overflow_mul-first : goal.overflow_mul-first
overflow_mul-first c = let h = file_holds _ _ _ (sym c.examine.ensures ∙ c.in_ok-contents.was) in omega arith

pub fill-requires-2 : goal.fill-requires-2
fill-requires-2 c = let h = file_holds _ _ _ (sym c.examine.ensures ∙ c.in_ok-contents.was) in omega arith

pub returns : goal.returns
returns c = filled_in (sym c.examine.ensures ∙ c.in_ok-contents.was) c.fill.ensures c.fill-2.ensures
