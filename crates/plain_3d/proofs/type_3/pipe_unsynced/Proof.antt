-- `plain_3d::type_3::pipe_unsynced` meets its contract: one dword after the other.
-- Assumes nothing.
use borrow.Author.Rules.{rules}
use borrow.Author.Tests.{eq-eqb, ne_eqb}
use Rattle.rules.specs.Words.{in_group, first_from}
use Rattle.rules.specs.Refusals.{number_of}
use Rattle.rules.specs.Commands.{rows, the_row, group_size}
use Rattle.rules.specs.Uses.{uses_by_row, access_of, used_high_of}
use Rattle.rules.specs.Values.{value_rules, rule_of, high_wrong, value_wrong_of, value_wrong}
use Rattle.plain_shared.specs.Plain.{coded}
use Rattle.plain_3d.proofs.type_3.pipe_unsynced.Statement.{statement}
use Rattle.plain_3d.proofs.type_3.pipe_unsynced.Tie as tie

pub pipe_unsynced_spec : {M : Type 1} → statement M
unfolding coded first_from number_of in_group rows the_row group_size uses_by_row access_of used_high_of high_wrong value_wrong_of value_wrong value_rules rule_of
pipe_unsynced_spec =
    tie.close
    (tie.spec (λ c. search rules) (λ c κs. search rules)
    (λ c. let start = c.before.before.before.before in rw (start.requires.1, ne_eqb _ _ c.if-rest-ne0.true) c.at.ensures)
    (λ c. search rules) (λ c κs. search rules)
    (λ c.
    let second = c.before.before.before in
    rw (second.requires.1, eq-eqb _ _ second.if-rest-ne0.false, ne_eqb _ _ c.if-rest-ne0-2.true)
    c.at-then-rest-ne0-2.ensures)
    (λ c. search rules) (λ c κs. search rules)
    (λ c.
    let third = c.before.before.before in
    let second = third.before.before in
    rw (
      second.requires.1,
      eq-eqb _ _ second.if-rest-ne0.false,
      eq-eqb _ _ third.if-rest-ne0-2.false,
      ne_eqb _ _ c.if-rest-ne0-3.true,
    )
    c.at-then-rest-ne0-3.ensures)
    (λ c. search rules) (λ c κs. search rules)
    (λ c.
    let fourth = c.before.before.before in
    let third = fourth.before.before in
    let second = third.before.before in
    rw (
      second.requires.1,
      eq-eqb _ _ second.if-rest-ne0.false,
      eq-eqb _ _ third.if-rest-ne0-2.false,
      eq-eqb _ _ fourth.if-rest-ne0-3.false,
      ne_eqb _ _ c.if-rest-ne0-4.true,
    ) c.at-then-rest-ne0-4.ensures)
    (λ c.
    let fourth = c.before.before in
    let third = fourth.before.before in
    let second = third.before.before in
    rw (
      second.requires.1,
      eq-eqb _ _ second.if-rest-ne0.false,
      eq-eqb _ _ third.if-rest-ne0-2.false,
      eq-eqb _ _ fourth.if-rest-ne0-3.false,
      eq-eqb _ _ c.if-rest-ne0-4.false,
    )))
