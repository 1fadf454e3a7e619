-- `plain_vertex::vertices::buffer_used` meets its contract: by its flags, and by its size.
-- Assumes nothing.
use Prim.Native.Nat.{◌+◌}
use mathlib.Core.Path.{sym, ◌∙◌}
use lib.ListN.{get_or}
use borrow.Author.Rules.{rules}
use Rattle.rules.specs.declared.Access.TheVariants.{Unused}
use Rattle.rules.specs.Uses.{sized}
use Rattle.plain_vertex.proofs.IndexBuffers.{sized_used}
use Rattle.plain_vertex.proofs.BufferRanges.{with_address, without_address, used_is}
use Rattle.plain_vertex.proofs.vertices.buffer_used.Statement.{statement}
use Rattle.plain_vertex.proofs.vertices.buffer_used.Tie as tie

none : tie.Need-returns-then-d-k-ne2
none c = let a = c.args in sym (used_is a.d.now a.k {a = Unused} (rw (without_address _ c.if-d-k-ne2.true)))

by_size : tie.Need-returns
by_size c =
    let flags = c.before in
    let a = flags.args in
    let size = get_or a.d.now (a.k + 3) 0 in
    sym (used_is a.d.now a.k {a = sized size} (rw (with_address _ flags.if-d-k-ne2.false)) ∙ sized_used size)

pub buffer_used_spec : {M : Type 1} → statement M
buffer_used_spec =
    tie.close
    (tie.spec (λ c. search rules) (λ c. search rules) none (λ c. search rules) (λ c. search rules) (λ c. search rules) by_size)
