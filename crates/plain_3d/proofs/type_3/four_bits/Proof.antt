-- `plain_3d::type_3::four_bits` meets its contract: first-kept dword after the other.
-- Assumes nothing.
use Prim.Native.Nat.{◌+◌}
use native.Mathlib.Omega.{arith}
use mathlib.Core.Path.{◌≡◌}
use borrow.Author.Rules.{rules}
use Rattle.rules.specs.Refusals.{number_of}
use Rattle.plain_shared.specs.Plain.{coded}
use Rattle.plain_3d.specs.Stray.{stray_from}
use Rattle.plain_shared.proofs.Tests.{asked}
use Rattle.plain_3d.proofs.type_3.four_bits.Statement.{statement}
use Rattle.plain_3d.proofs.type_3.four_bits.Tie as tie

abbrev start : tie.Else-not-allowed → tie.Start
start c = c.before.before.before.before

first : tie.Need-returns-then-not-allowed
unfolding coded number_of stray_from
first c = rw (asked c.allowed.ensures c.if-not-allowed.true-raw) (omega arith)

second : tie.Need-returns-then-not-allowed-2
unfolding coded number_of stray_from
second c =
    let called = c.before.before in
    let first_kept = called.before.before in
    rw (asked first_kept.allowed.ensures first_kept.if-not-allowed.false-raw, asked called.allowed-2.ensures c.if-not-allowed-2.true-raw)
    (omega arith)

third : tie.Need-returns-then-not-allowed-3
unfolding coded number_of stray_from
third c =
    let called = c.before.before in
    let second_kept = called.before.before in
    let first_kept = second_kept.before.before.before in
    let k = (start first_kept).args.k in
    let p : k + 1 + 1 ≡ k + 2 = omega arith in
    rw (
      asked first_kept.allowed.ensures first_kept.if-not-allowed.false-raw,
      asked second_kept.allowed-2.ensures second_kept.if-not-allowed-2.false-raw,
      p,
      asked called.allowed-3.ensures c.if-not-allowed-3.true-raw,
    ) (omega arith)

fourth : tie.Need-returns-then-not-allowed-4
unfolding coded number_of stray_from
fourth c =
    let called = c.before.before in
    let third_kept = called.before.before in
    let second_kept = third_kept.before.before.before in
    let first_kept = second_kept.before.before.before in
    let k = (start first_kept).args.k in
    let p : k + 1 + 1 ≡ k + 2 = omega arith in
    let q : k + 2 + 1 ≡ k + 3 = omega arith in
    rw (
      asked first_kept.allowed.ensures first_kept.if-not-allowed.false-raw,
      asked second_kept.allowed-2.ensures second_kept.if-not-allowed-2.false-raw,
      p,
      asked third_kept.allowed-3.ensures third_kept.if-not-allowed-3.false-raw,
      q,
      asked called.allowed-4.ensures c.if-not-allowed-4.true-raw,
    ) (omega arith)

none : tie.Need-returns
unfolding coded number_of stray_from
none c =
    let called = c.before in
    let third_kept = called.before.before in
    let second_kept = third_kept.before.before.before in
    let first_kept = second_kept.before.before.before in
    let k = (start first_kept).args.k in
    let p : k + 1 + 1 ≡ k + 2 = omega arith in
    let q : k + 2 + 1 ≡ k + 3 = omega arith in
    rw (
      asked first_kept.allowed.ensures first_kept.if-not-allowed.false-raw,
      asked second_kept.allowed-2.ensures second_kept.if-not-allowed-2.false-raw,
      p,
      asked third_kept.allowed-3.ensures third_kept.if-not-allowed-3.false-raw,
      q,
      asked called.allowed-4.ensures c.if-not-allowed-4.false-raw,
    )

pub four_bits_spec : {M : Type 1} → statement M
four_bits_spec =
    tie.close
    (tie.spec (λ c. search rules) (λ c. search rules) (λ c κs. search rules) (λ c κs. search rules) first
    (λ c. search rules) (λ c. search rules) (λ c. search rules) (λ c κs. search rules) (λ c. search rules)
    (λ c κs. search rules) second
    (λ c. search rules) (λ c. search rules) (λ c. search rules) (λ c κs. search rules) (λ c. search rules)
    (λ c κs. search rules) third
    (λ c. search rules) (λ c. search rules) (λ c. search rules) (λ c κs. search rules) (λ c. search rules)
    (λ c κs. search rules) fourth none)
