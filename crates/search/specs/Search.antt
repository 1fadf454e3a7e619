-- What the one search over a command's dwords looks for.
use Rattle.std.specs.Prelude.{ℕ, ◌-◌, ◌%◌, ◌≤◌, Bool, true, not, ◌||◌, ◌≡◌, List, get_or, eqb, Option, Some, None}
use Rattle.rules.specs.declared.Windows.{Windows}
use Rattle.rules.specs.Words.{allowed}
use Rattle.rules.specs.Commands.{store_row, group_size, spot}
use Rattle.rules.specs.Uses.{access_of, address_at}
use Rattle.rules.specs.Masks.{allowed_of}
use Rattle.rules.specs.Values.{value_wrong_of}
use Rattle.rules.specs.Addresses.{access_wrong}
use Rattle.search.specs.declared.Sought.{Sought}
use Rattle.search.specs.declared.Sought.TheVariants.{Bits, Values, Ranges}

-- the dword k of a command, dword j of its group, is at fault
unfoldable pub wrong_at : Sought → Windows → ℕ → List ℕ → ℕ → ℕ → Bool
wrong_at Bits w r d k j = not (allowed (get_or d k 0) (allowed_of r d k j))
wrong_at Values w r d k j = value_wrong_of r d k j
wrong_at Ranges w r d k j = access_wrong w (address_at d k) (access_of r d k j (get_or d k 0))

-- the same, of the dword k by its number alone
unfoldable pub wrong : Sought → Windows → ℕ → List ℕ → ℕ → Bool
wrong what w r d k = wrong_at what w r d k (spot r k)

-- the place of what a search finds among n dwords, or n where it finds nothing
unfoldable pub place_of : Option ℕ → ℕ → ℕ
place_of (Some k) n = k
place_of None n = n

-- a command of n dwords has a header and whole groups; only a store may end inside its group
pub record Whole (r n : ℕ) : Type 0 where
  pub header : 1 ≤ n
  pub groups : (eqb r store_row || eqb ((n - 1) % group_size r) 0) ≡ true
