-- `plain_shared::heads::groups_header` meets its contract: one test after the other.
-- Assumes nothing.
use Prim.Native.Nat.{ℕ, zero, suc, ◌+◌, ◌*◌, ◌/◌, ◌%◌, ◌≤◌, ◌<◌}
use native.Mathlib.Nat.{div-add-mod'}
use native.Mathlib.Omega.{arith}
use mathlib.Core.Path.{◌≡◌, sym, ap, ◌∙◌}
use mathlib.Core.Bool.{true, false, and-false}
use lib.ListN.{get_or}
use borrow.Author.Rules.{rules}
use borrow.Author.Tests.{eq-eqb, ne_eqb, le-leb, lt-leb, lt-ltb, le-ltb}
use Rattle.rules.specs.Commands.{groups, field_right}
use Rattle.rules.specs.Refusals.{number_of}
use Rattle.plain_shared.specs.Plain.{head_of, groups_header}
use Rattle.plain_shared.proofs.Lengths.{field_is}
use Rattle.plain_shared.proofs.heads.groups_header.Statement.{statement}
use Rattle.plain_shared.proofs.heads.groups_header.Tie as tie

-- a field that counts whole groups, not too many of them, and so one at least; or that does not
module _ (header size most : ℕ) where
  uneven : ((header % 256 + 1) % size ≡ 0 → ⊥) → field_right (groups most) size header ≡ false
  uneven n = rw (field_is header, ne_eqb _ _ n)

  too_many : most < (header % 256 + 1) / size → field_right (groups most) size header ≡ false
  too_many l = rw (field_is header, lt-leb _ _ l, and-false, and-false)

  counted : (header % 256 + 1) % size ≡ 0 → (header % 256 + 1) / size ≤ most → field_right (groups most) size header ≡ true
  counted e l = rw (field_is header, eq-eqb _ _ e, le-leb _ _ (at_least_one (header % 256) e), le-leb _ _ l)
    where
      at_least_one : (f : ℕ) → (f + 1) % size ≡ 0 → 1 ≤ (f + 1) / size
      at_least_one f z = by ((f + 1) / size) (div-add-mod' (f + 1) size)
        where
          by : (q : ℕ) → q * size + (f + 1) % size ≡ f + 1 → 1 ≤ q
          by zero p = absurd (omega arith)
          by (suc q) p = omega arith

-- the length that the code asks for
ends : (c : tie.After-length_by_field) → let start = c.before.before.before.before.before in
    get_or start.args.rest.now 0 0 % 256 + 2 ≡ c.length_by_field.result
ends c = sym (c.length_by_field.ensures ∙ ap (λ (f : ℕ). f + 2) (field_is _))

pub groups_header_spec : {M : Type 1} → statement M
unfolding head_of groups_header number_of
groups_header_spec =
    tie.close
    (tie.spec (λ c. search rules) (λ c. search rules) (λ c. search rules) (λ c κs. search rules)
    (λ c. let start = c.before.before.before.before in rw (uneven _ _ start.args.most c.if-field-size-ne0.true) c.at.ensures)
    (λ c. search rules) (λ c. search rules) (λ c κs. search rules)
    (λ c. let start = c.before.before.before.before.before in rw (too_many _ start.args.size _ c.if-most-field.true) c.at-then-most-field.ensures)
    (λ c κs. search rules) (λ c κs. search rules)
    (λ c.
    let call = c.before.before in
    rw (counted _ _ _ call.if-field-size-ne0.false call.if-most-field.false, ends call, lt-ltb _ _ c.if-rest-length_by_field.true) c.at-then-rest-length_by_field.ensures)
    (λ c. search rules) (λ c κs. search rules)
    (λ c.
    let inside = c.before.before in
    let call = inside.before in
    rw (
      counted _ _ _ call.if-field-size-ne0.false call.if-most-field.false,
      ends call,
      le-ltb _ _ inside.if-rest-length_by_field.false,
      ne_eqb _ _ c.if-header-field.true,
    ) c.at-then-header-field.ensures)
    (λ c.
    let inside = c.before in
    let call = inside.before in
    rw (
      counted _ _ _ call.if-field-size-ne0.false call.if-most-field.false,
      ends call,
      le-ltb _ _ inside.if-rest-length_by_field.false,
      eq-eqb _ _ c.if-header-field.false,
    )))
