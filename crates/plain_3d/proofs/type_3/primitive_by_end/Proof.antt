-- `plain_3d::type_3::primitive_by_end` meets its contract: one test after the other, where bit 9 of the first dword has the rule asked.
-- Assumes nothing.
use Prim.Native.Nat.{ℕ, ◌/◌, ◌%◌}
use mathlib.Core.Path.{◌≡◌, sym, ap, ◌∙◌}
use mathlib.Core.Bool.{not, or-false}
use mathlib.Core.List.{List, [], ◌∷◌}
use lib.Dec.{eqb}
use lib.ListN.{get_or, drop}
use borrow.Author.Rules.{rules}
use borrow.Author.Tests.{eq-eqb, ne_eqb}
use Rattle.rules.specs.declared.Reason.TheVariants.{ValueBroken}
use Rattle.rules.specs.Words.{in_group}
use Rattle.rules.specs.Refusals.{number_of}
use Rattle.rules.specs.Commands.{primitive_row, rows, the_row, group_size}
use Rattle.rules.specs.Values.{value_rules, rule_of, value_wrong, high_wrong, value_wrong_of}
use Rattle.rules.specs.Uses.{uses_by_row, access_of, used_high_of}
use Rattle.plain_shared.specs.Plain.{first_coded}
use Rattle.plain_shared.proofs.Tests.{Test, answered, tested, searched_last, refuses, passes, one_by_one}
use Rattle.plain_3d.proofs.type_3.primitive_by_end.Statement.{statement}
use Rattle.plain_3d.proofs.type_3.primitive_by_end.Tie as tie

abbrev tests : ℕ → List ℕ → List Test
tests header d =
    (eqb (header / 0x400 % 2) 1, 3073)
    ∷ (eqb (get_or d 1 0 / 0x100 % 2) 1, 3073)
    ∷ (not (eqb (get_or d 3 0) 0), 3075)
    ∷ (not (eqb (get_or d 5 0) 0), 3077)
    ∷ (not (eqb (get_or d 6 0) 0), 3078)
    ∷ []

-- the tests behind the first n of them decide
abbrev Left : tie.Start → ℕ → Type 0
Left s n = let d = s.args.rest.now in answered (drop n (tests s.args.header d)) 0 ≡ first_coded ValueBroken (value_wrong primitive_row d) 0 7

all_left : (s : tie.Start) → Left s 0
unfolding tested in_group rows the_row group_size uses_by_row access_of used_high_of high_wrong value_wrong_of value_wrong value_rules rule_of number_of
all_left s =
    sym
    (searched_last ValueBroken (value_wrong primitive_row s.args.rest.now) 0 7
    ∙ rw (s.requires.2, ← s.requires.1, or-false) (sym (one_by_one (eqb (s.args.header / 0x400 % 2) 1) _ 3073 (answered (drop 2 (tests s.args.header s.args.rest.now)) 0))))

-- where the function starts, and where the test before was passed: the header's, the first dword's, and the third's
abbrev start : tie.Else-header-eq1 → tie.Start
start c = c.before.before

abbrev header : tie.Else-rest-eq1 → tie.Else-header-eq1
header c = c.before.before

abbrev bit : tie.Else-rest-ne0 → tie.Else-rest-eq1
bit c = c.before.before

abbrev third : tie.Else-rest-ne0-2 → tie.Else-rest-ne0
third c = c.before.before

header_clear : (c : tie.Else-header-eq1) → Left (start c) 1
header_clear c = passes 3073 _ (ne_eqb _ _ c.if-header-eq1.false) (all_left (start c))

bit_clear : (c : tie.Else-rest-eq1) → Left (start (header c)) 2
bit_clear c = passes 3073 _ (ne_eqb _ _ c.if-rest-eq1.false) (header_clear (header c))

third_clear : (c : tie.Else-rest-ne0) → Left (start (header (bit c))) 3
third_clear c = passes 3075 _ (ap not (eq-eqb _ _ c.if-rest-ne0.false)) (bit_clear (bit c))

fifth_clear : (c : tie.Else-rest-ne0-2) → Left (start (header (bit (third c)))) 4
fifth_clear c = passes 3077 _ (ap not (eq-eqb _ _ c.if-rest-ne0-2.false)) (third_clear (third c))

pub primitive_by_end_spec : {M : Type 1} → statement M
unfolding number_of
primitive_by_end_spec =
    tie.close
    (tie.spec (λ c κs. search rules)
    (λ c. c.at.ensures ∙ refuses 3073 _ (eq-eqb _ _ c.if-header-eq1.true) (all_left c.before.before.before))
    (λ c. search rules) (λ c κs. search rules)
    (λ c. c.at-then-rest-eq1.ensures ∙ refuses 3073 _ (eq-eqb _ _ c.if-rest-eq1.true) (header_clear c.before.before.before))
    (λ c. search rules) (λ c κs. search rules)
    (λ c. c.at-then-rest-ne0.ensures ∙ refuses 3075 _ (ap not (ne_eqb _ _ c.if-rest-ne0.true)) (bit_clear c.before.before.before))
    (λ c. search rules) (λ c κs. search rules)
    (λ c. c.at-then-rest-ne0-2.ensures ∙ refuses 3077 _ (ap not (ne_eqb _ _ c.if-rest-ne0-2.true)) (third_clear c.before.before.before))
    (λ c. search rules) (λ c κs. search rules)
    (λ c. c.at-then-rest-ne0-3.ensures ∙ refuses 3078 _ (ap not (ne_eqb _ _ c.if-rest-ne0-3.true)) (fifth_clear c.before.before.before))
    (λ c. passes 3078 _ (ap not (eq-eqb _ _ c.if-rest-ne0-3.false)) (fifth_clear c.before.before)))
