-- Document 01, "Address rules (13)": the refusal 13.
use Rattle.std.specs.Prelude.{ℕ, Bool, false, not, List}
use Rattle.rules.specs.declared.Windows.{Windows}
use Rattle.rules.specs.declared.Access.{Access}
use Rattle.rules.specs.declared.Access.TheVariants.{Unused, Reaches, NoRange}
use Rattle.rules.specs.Windows.{fits}
use Rattle.rules.specs.Uses.{address_at, access_at}

-- "an address range does not fit": one that is used, and asked
abbrev pub access_wrong : Windows → ℕ → Access → Bool
access_wrong windows address Unused = false
access_wrong windows address NoRange = false
access_wrong windows address (Reaches bytes allowed) = not (fits windows allowed address bytes)

-- 13: "an address range does not fit"
unfoldable pub range_wrong : Windows → ℕ → List ℕ → ℕ → Bool
range_wrong windows r dwords k = access_wrong windows (address_at dwords k) (access_at r dwords k)
