-- Laws of the value rules, one for each way out that a rule's tests alone do not close.
-- Assumes nothing.
use Prim.Native.Nat.{ℕ, ◌≤◌}
use mathlib.Core.Path.{◌≡◌}
use mathlib.Core.Bool.{false, not, not-not}
use mathlib.Core.List.{List}
use lib.ListN.{get_or, get_or-eq_default}
use lib.Dec.{eqb}
use Rattle.rules.specs.Formats.{surface_formats, format_bits}
use Rattle.rules.specs.Commands.{row_count}
use Rattle.rules.specs.Values.{Rule, no_rule, value_rules, rule_of}

-- an element's format, of the table as it is lent
pub unknown_format : (table : List ℕ) (code : ℕ) → table ≡ surface_formats
    → not (not (eqb (get_or table code 0) 0)) ≡ eqb (format_bits code) 0
unfolding format_bits
unknown_format table code e = rw (e, not-not)

-- past the table's end there is no rule
pub no_rule_lem : (r : ℕ) (d : List ℕ) (k j w : ℕ) → row_count ≤ r → false ≡ rule_of r d k j w
unfolding rule_of value_rules
no_rule_lem r d k j w h = rw (get_or-eq_default {A = Rule} value_rules no_rule h)
