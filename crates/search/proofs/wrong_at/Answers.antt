-- `search::wrong_at` meets its contract, by what is looked for. A dword without a value rule breaks none, and is not asked.
use Rattle.std.proofs.Common.{get_or, ap, List, ℕ}
use native.Mathlib.Omega.{arith}
use mathlib.Core.Path.{sym, ◌∙◌}
use mathlib.Core.List.{[]}
use Rattle.commands.proofs.RuledLaws.{unruled}
use Rattle.search.specs.Search.{wrong_at}
use Rattle.rows.proofs.RowLaws.{size_small}
use Rattle.search.proofs.wrong_at.Goals as goal

pub bit_wrong-requires : goal.bit_wrong-requires
bit_wrong-requires c = (
  c.requires.0,
  omega (arith, size_small _ c.requires.2),
  c.requires.2,
  ap (λ (rows : List (List ℕ)). get_or rows c.args.row []) c.mask_table.ensures,
)

pub has_rule-requires : goal.has_rule-requires
has_rule-requires c = (c.requires.2, omega (arith, size_small _ c.requires.2))

pub returns-in-Bits : goal.returns-in-Bits
unfolding wrong_at
returns-in-Bits c = rw c.in-Bits.is c.bit_wrong.ensures

pub returns-then-has_rule : goal.returns-then-has_rule
unfolding wrong_at
returns-then-has_rule c = rw c.in-Values.is c.value_wrong.ensures

pub returns-else-has_rule : goal.returns-else-has_rule
unfolding wrong_at
returns-else-has_rule c =
    let never = unruled _ _ _ _ c.requires.2 c.requires.1 (sym c.has_rule.ensures ∙ c.if-has_rule.false) in
    rw c.in-Values.is (c.if-has_rule.false ∙ sym never)

pub returns-in-Ranges : goal.returns-in-Ranges
unfolding wrong_at
returns-in-Ranges c = rw (c.in-Ranges.is, ← c.address_at.ensures, ← c.access_of-access.ensures) c.access_wrong.ensures
