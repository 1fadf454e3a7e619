-- `plain_mi::type_0::pair_bit` meets its contract: the first dword of a pair has a mask, the second is free.
-- Assumes nothing.
use Prim.Native.Nat.{◌+◌}
use native.Mathlib.Omega.{arith}
use mathlib.Core.Path.{◌≡◌, refl, ◌∙◌}
use mathlib.Core.Bool.{cond, not}
use lib.ListN.{get_or}
use borrow.Author.Rules.{rules}
use Rattle.rules.specs.declared.Reason.TheVariants.{BitNotAllowed}
use Rattle.rules.specs.Words.{allowed}
use Rattle.rules.specs.Refusals.{number_of}
use Rattle.rules.specs.Commands.{set_registers_row, rows, the_row, group_size}
use Rattle.rules.specs.Uses.{uses_by_row, access_of, used_high_of}
use Rattle.rules.specs.Masks.{masks_of, bit_wrong}
use Rattle.plain_shared.specs.Plain.{first_coded}
use Rattle.plain_shared.proofs.Tests.{asked, refuses, passes, in_two}
use Rattle.plain_shared.proofs.Dwords.{bit_in, free_in}
use Rattle.plain_mi.proofs.type_0.pair_bit.Statement.{statement}
use Rattle.plain_mi.proofs.type_0.pair_bit.Tie as tie

decides : (c : tie.After-shared_slice_known-1) → let s = c.before in let k = s.args.k in let d = s.args.d.now in
    cond (not (allowed (get_or d k 0) 0x007FFFFC)) (2560 + k) 0 ≡ first_coded BitNotAllowed (bit_wrong set_registers_row d) k 2
unfolding rows the_row group_size uses_by_row access_of used_high_of masks_of number_of
decides c =
    let s = c.before in
    let k = s.args.k in
    in_two _ _ k (bit_in set_registers_row refl _ _ s.requires 0 (omega arith) (omega arith) refl refl)
    (free_in set_registers_row refl _ _ s.requires 1 (omega arith) refl refl refl (c.shared_slice_known-1.given (k + 1)).fits)

pub pair_bit_spec : {M : Type 1} → statement M
unfolding number_of
pair_bit_spec =
    tie.close
    (tie.spec (λ c. search rules) (λ c. search rules) (λ c κs. search rules) (λ c κs. search rules)
    (λ c. let test = c.before.before in c.at.ensures ∙ refuses _ _ (asked test.allowed.ensures c.if-not-allowed.true-raw) (decides test.before.before))
    (λ c. let test = c.before in passes _ _ (asked test.allowed.ensures c.if-not-allowed.false-raw) (decides test.before.before)))
