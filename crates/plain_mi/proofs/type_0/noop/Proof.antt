-- `plain_mi::type_0::noop` meets its contract: its header's bits decide.
-- Assumes nothing.
use mathlib.Core.Path.{refl}
use lib.Dec.{lit≤}
use borrow.Author.Rules.{rules}
use Rattle.rules.specs.declared.Level.TheVariants.{First}
use Rattle.rules.specs.Commands.{noop_row, rows, the_row}
use Rattle.rules.specs.Uses.{uses_by_row, access_of}
use Rattle.rules.specs.Values.{value_rules, rule_of}
use Rattle.rules.specs.Refusals.{number_of}
use Rattle.plain_shared.specs.Plain.{no_windows}
use Rattle.rules.proofs.Used.{header_bits}
use Rattle.plain_shared.proofs.Headers.{one_dword}
use Rattle.plain_mi.proofs.type_0.noop.Statement.{statement}
use Rattle.plain_mi.proofs.type_0.noop.Tie as tie

wrong_bit : tie.Need-returns-then-not-allowed
unfolding rows the_row uses_by_row access_of value_rules rule_of number_of
wrong_bit c =
    let kept = c.before.before in
    rw (
      one_dword no_windows noop_row _ First refl refl refl refl (lit≤ tt),
      header_bits noop_row _,
      ← kept.allowed.ensures,
      c.if-not-allowed.true-raw,
    ) c.at.ensures

nothing : tie.Need-returns
unfolding rows the_row uses_by_row access_of value_rules rule_of
nothing c =
    let kept = c.before in
    rw (one_dword no_windows noop_row _ First refl refl refl refl (lit≤ tt), header_bits noop_row _, ← kept.allowed.ensures, c.if-not-allowed.false-raw)

pub noop_spec : {M : Type 1} → statement M
noop_spec = tie.close (tie.spec (λ c κs. search rules) (λ c κs. search rules) wrong_bit nothing)
