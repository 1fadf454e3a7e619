-- `plain_mi::type_0::pair_value` meets its contract: the first dword of a pair is a register, the second has no rule.
-- Assumes nothing.
use Prim.Native.Nat.{◌+◌}
use native.Mathlib.Omega.{arith}
use mathlib.Core.Path.{◌≡◌, refl, ◌∙◌}
use mathlib.Core.Bool.{cond, not}
use lib.ListN.{get_or}
use borrow.Author.Rules.{rules}
use Rattle.rules.specs.declared.Reason.TheVariants.{ValueBroken}
use Rattle.rules.specs.Formats.{known_register}
use Rattle.rules.specs.Refusals.{number_of}
use Rattle.rules.specs.Commands.{set_registers_row, rows, the_row, group_size}
use Rattle.rules.specs.Uses.{uses_by_row, access_of, used_high_of}
use Rattle.rules.specs.Values.{value_rules, rule_of, value_wrong}
use Rattle.plain_shared.specs.Plain.{first_coded}
use Rattle.plain_shared.proofs.Tests.{asked, refuses, passes, in_two}
use Rattle.plain_shared.proofs.Dwords.{value_in}
use Rattle.plain_mi.proofs.type_0.pair_value.Statement.{statement}
use Rattle.plain_mi.proofs.type_0.pair_value.Tie as tie

decides : (s : tie.Start) → let k = s.args.k in let d = s.args.d.now in
    cond (not (known_register (get_or d k 0))) (3072 + k) 0 ≡ first_coded ValueBroken (value_wrong set_registers_row d) k 2
unfolding rows the_row group_size uses_by_row access_of used_high_of value_rules rule_of number_of
decides s =
    in_two _ _ s.args.k (value_in set_registers_row refl _ _ s.requires 0 (omega arith) (omega arith) refl)
    (value_in set_registers_row refl _ _ s.requires 1 (omega arith) refl refl)

pub pair_value_spec : {M : Type 1} → statement M
unfolding number_of
pair_value_spec =
    tie.close
    (tie.spec (λ c. search rules) (λ c. search rules) (λ c κs. search rules) (λ c κs. search rules)
    (λ c.
    let test = c.before.before in
    c.at.ensures ∙ refuses _ _ (asked test.known_register.ensures c.if-not-known_register.true-raw) (decides test.before.before.before))
    (λ c. let test = c.before in passes _ _ (asked test.known_register.ensures c.if-not-known_register.false-raw) (decides test.before.before.before)))
