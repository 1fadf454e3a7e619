-- `plain_vertex::vertices::controls_good` meets its contract: it is the test of all four controls at once.
-- Assumes nothing.
use borrow.Author.Rules.{rules}
use native.Mathlib.Omega.{arith}
use mathlib.Core.Path.{◌≡◌, ◌∙◌}
use mathlib.Core.Bool.{true, false}
use borrow.Author.Tests.{eq-eqb, ne_eqb, le-leb, lt-leb}
use Rattle.controls.proofs.Controls.{at_once, at_most, at_once_lem}
use Rattle.plain_vertex.proofs.vertices.controls_good.Statement.{statement}
use Rattle.plain_vertex.proofs.vertices.controls_good.Tie as tie

over_fits : tie.Need-overflow_add-over
over_fits c = omega (arith, at_most c.args.word c.requires)

used_fits : tie.Need-overflow_add-used
used_fits c = omega (arith, at_most c.args.word c.requires)

all_used : tie.Need-returns-then-over-used
unfolding at_once
all_used c =
    let word = c.args.word in
    let e : true ≡ at_once word = rw (eq-eqb _ _ c.if-over-used.true) in
    e ∙ at_once_lem word c.requires

some_over : tie.Need-returns-then-over-ne0
unfolding at_once
some_over c =
    let start = c.before.before in
    let word = start.args.word in
    let e : false ≡ at_once word = rw (ne_eqb _ _ c.if-over-used.false, ne_eqb _ _ c.if-over-ne0.true) in
    e ∙ at_once_lem word start.requires

fewer : tie.Need-returns-then-some-ge2147483648
unfolding at_once
fewer c =
    let first = c.before in
    let start = first.before.before.before in
    let word = start.args.word in
    let e : c.allowed.result ≡ at_once word =
    rw (ne_eqb _ _ first.if-over-used.false, eq-eqb _ _ first.if-over-ne0.false, le-leb _ _ first.if-some-ge2147483648.true)
    c.allowed.ensures in
    e ∙ at_once_lem word start.requires

no_first : tie.Need-returns-else-some-ge2147483648
unfolding at_once
no_first c =
    let start = c.before.before.before in
    let word = start.args.word in
    let e : false ≡ at_once word =
    rw (ne_eqb _ _ c.if-over-used.false, eq-eqb _ _ c.if-over-ne0.false, lt-leb _ _ c.if-some-ge2147483648.false) in
    lt-leb _ _ c.if-some-ge2147483648.false ∙ e ∙ at_once_lem word start.requires

pub controls_good_spec : {M : Type 1} → statement M
controls_good_spec = tie.close (tie.spec over_fits used_fits all_used some_over (λ c κs. search rules) fewer no_first)
