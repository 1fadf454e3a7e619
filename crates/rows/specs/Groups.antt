-- The rule of a length field that tells a number of groups, as document 01 has it: "field 2n-1", "field 4n-1", n from 1 on.
use Rattle.std.specs.Prelude.{ℕ, ◌+◌, ◌/◌, ◌%◌, Bool, ◌&&◌, leb, eqb}

-- a field that tells n groups of so many dwords, n from 1 to the most
unfoldable pub groups_right : ℕ → ℕ → ℕ → Bool
groups_right field size most = eqb ((field + 1) % size) 0 && (leb 1 ((field + 1) / size) && leb ((field + 1) / size) most)
