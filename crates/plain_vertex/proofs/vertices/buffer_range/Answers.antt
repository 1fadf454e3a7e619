-- `plain_vertex::vertices::buffer_range`: of the four dwords the second alone has a range.
use Rattle.std.proofs.Common.{sym, ◌∙◌}
use borrow.Author.Tests.{not-true, not-false}
use Rattle.rules.specs.Refusals.{number_of}
use Rattle.plain_vertex.proofs.BufferRanges.{range_fails, range_fits}
use Rattle.plain_vertex.proofs.vertices.buffer_range.Goals as goal

pub returns-then-not-buffer_fits : goal.returns-then-not-buffer_fits
unfolding number_of
returns-then-not-buffer_fits c = c.at.ensures ∙ sym (range_fails _ _ _ c.requires (not-false _ (sym c.if-not-buffer_fits.ensures)))

pub returns : goal.returns
returns c = sym (range_fits _ _ _ c.requires (not-true _ (sym c.if-not-buffer_fits.ensures)))
