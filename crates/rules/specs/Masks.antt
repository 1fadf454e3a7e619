-- Document 01, "Commands": "Allowed bits, by dword", and the refusal 10.
use Rattle.std.specs.Prelude.{ℕ, ◌+◌, Bool, cond, not, List, ◌∷◌, get_or}
use Rattle.rules.specs.Words.{allowed}
use Rattle.rules.specs.Commands.{Length, no_field, exactly, by_bit, groups, Row, any_dword, the_row, spot}
use Rattle.rules.specs.Uses.{used_high_of}

-- "the field in bits 7:0": these bits, of a header that has a field
abbrev pub field_bits : Length → ℕ
field_bits no_field = 0
field_bits (exactly f) = 0xFF
field_bits (by_bit b f g) = 0xFF
field_bits (groups n) = 0xFF

-- the table's column "Header": the bits that a header may have, which are those that it is known by, its free bits and its field, three parts
-- that share no bit. Of the first a header in this row can have no others set than the key's own.
abbrev pub header_mask : Row → ℕ
header_mask r = r.key + (r.free + field_bits r.total)

-- "a table of rows, each row the masks of its dwords": the header first
unfoldable pub masks_of : ℕ → List ℕ
masks_of r = header_mask (the_row r) ∷ (the_row r).masks

-- "Allowed bits, by dword": those of the dword k of a command, the dword j of its group. Request 3: of the high dword of an address that is used every
-- bit, since what is wrong with it "is 12 at that dword instead of 10"; "high dwords of addresses not used .. are as before"
unfoldable pub allowed_of : ℕ → List ℕ → ℕ → ℕ → ℕ
allowed_of r dwords k j = cond (used_high_of r dwords k j) any_dword (get_or (masks_of r) j 0)

-- "Allowed bits, by dword": by the dword's own number
unfoldable pub allowed_at : ℕ → List ℕ → ℕ → ℕ
allowed_at r dwords k = allowed_of r dwords k (spot r k)

-- 10: "a bit set that the table does not allow"
unfoldable pub bit_wrong : ℕ → List ℕ → ℕ → Bool
bit_wrong r dwords k = not (allowed (get_or dwords k 0) (allowed_at r dwords k))
