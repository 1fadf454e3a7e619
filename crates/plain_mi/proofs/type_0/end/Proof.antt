-- `plain_mi::type_0::end` meets its contract: a header in this row that keeps its mask is the row's key.
-- Assumes nothing.
use mathlib.Core.Path.{refl}
use lib.Dec.{lit≤}
use borrow.Author.Rules.{rules}
use Rattle.rules.specs.declared.Level.TheVariants.{First}
use Rattle.rules.specs.Words.{allowed}
use Rattle.rules.specs.Commands.{end_row, rows, the_row}
use Rattle.rules.specs.Uses.{uses_by_row, access_of}
use Rattle.rules.specs.Values.{value_rules, rule_of}
use Rattle.rules.specs.Refusals.{number_of}
use Rattle.plain_shared.specs.Plain.{no_windows}
use Rattle.rules.proofs.Used.{header_bits}
use Rattle.plain_shared.proofs.Headers.{other_key, one_dword}
use Rattle.plain_mi.proofs.type_0.end.Statement.{statement}
use Rattle.plain_mi.proofs.type_0.end.Tie as tie

wrong_bit : tie.Need-returns-then-header-ne83886080
unfolding rows the_row uses_by_row access_of value_rules rule_of number_of
wrong_bit c =
    rw (
      one_dword no_windows end_row _ First refl refl refl refl (lit≤ tt),
      other_key end_row _ (lit≤ tt) refl refl c.requires c.if-header-ne83886080.true,
    ) c.at.ensures

nothing : tie.Need-returns
unfolding rows the_row uses_by_row access_of value_rules rule_of allowed
nothing c = rw (one_dword no_windows end_row _ First refl refl refl refl (lit≤ tt), header_bits end_row _, c.if-header-ne83886080.false)

pub end_spec : {M : Type 1} → statement M
end_spec = tie.close (tie.spec (λ c κs. search rules) wrong_bit nothing)
