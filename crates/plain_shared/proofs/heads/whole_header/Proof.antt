-- `plain_shared::heads::whole_header` meets its contract: one test after the other.
-- Assumes nothing.
use Prim.Native.Nat.{ℕ, ◌+◌, ◌%◌}
use mathlib.Core.Path.{◌≡◌, sym, ap, ◌∙◌}
use borrow.Author.Rules.{rules}
use borrow.Author.Tests.{eq-eqb, ne_eqb, lt-ltb, le-ltb}
use Rattle.rules.specs.Refusals.{number_of}
use Rattle.plain_shared.specs.Plain.{head_of, whole_header}
use Rattle.plain_shared.proofs.Lengths.{field_is}
use Rattle.plain_shared.proofs.heads.whole_header.Statement.{statement}
use Rattle.plain_shared.proofs.heads.whole_header.Tie as tie

-- the length that the code asks for
ends : (c : tie.After-length_by_field) → let start = c.before.before.before.before in start.args.header % 256 + 2 ≡ c.length_by_field.result
ends c = sym (c.length_by_field.ensures ∙ ap (λ (f : ℕ). f + 2) (field_is _))

pub whole_header_spec : {M : Type 1} → statement M
unfolding head_of whole_header number_of
whole_header_spec =
    tie.close
    (tie.spec (λ c. search rules) (λ c κs. search rules)
    (λ c. rw (ne_eqb _ _ c.if-rest-header.true) c.other_header.ensures)
    (λ c κs. search rules) (λ c κs. search rules)
    (λ c.
    let call = c.before.before in
    let same = call.if-rest-header.false in
    let past = lt-ltb _ _ c.if-rest-length_by_field.true in
    rw (eq-eqb _ _ (ap (λ (h : ℕ). h % 256) same), ends call, past) c.at.ensures)
    (λ c.
    let call = c.before in
    let same = call.if-rest-header.false in
    rw (eq-eqb _ _ (ap (λ (h : ℕ). h % 256) same), ends call, le-ltb _ _ c.if-rest-length_by_field.false, eq-eqb _ _ same)))
