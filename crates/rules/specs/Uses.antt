-- Document 01, "Address rules (13)", and request 3: what an address is, and which addresses a command uses, in one definition, before all that asks it.
use Rattle.std.specs.Prelude.{ℕ, ◌+◌, ◌-◌, ◌*◌, ◌%◌, ◌^◌, ◌≡◌, refl, Bool, true, false, cond, not, ◌&&◌, List, [], ◌∷◌, length, get_or, eqb}
use Rattle.rules.specs.declared.Within.TheVariants.{BatchOnly, ScratchOnly, AnyWindow}
use Rattle.rules.specs.declared.Access.{Access}
use Rattle.rules.specs.declared.Access.TheVariants.{Unused, Reaches, NoRange}
use Rattle.rules.specs.Words.{bit, field, some}
use Rattle.rules.specs.Commands.{row_count, spot}

-- "An address takes two dwords"; request 3: "the address is its low 48 bits", so of the high dword the low sixteen
abbrev pub pair_address : ℕ → ℕ → ℕ
pair_address low high = low + 2 ^ 32 * (high % 2 ^ 16)

-- "An address takes two dwords": the one whose low dword is dword k
unfoldable pub address_at : List ℕ → ℕ → ℕ
address_at dwords k = pair_address (get_or dwords k 0) (get_or dwords (k + 1) 0)

-- request 3: "canonical form: bits 63:48 repeat bit 47", of an address by its high dword
unfoldable pub canonical : ℕ → Bool
canonical high = eqb (field high 31 16) (cond (bit high 15) 0xFFFF 0)

-- whether a store of row 4 is one of eight bytes: "bit 21 and field 3 go together"
abbrev pub eight_bytes : List ℕ → Bool
eight_bytes d = bit (get_or d 0 0) 21

-- "post-sync is dword 1 bits 15:14"
abbrev pub post_sync : List ℕ → ℕ
post_sync d = field (get_or d 1 0) 15 14

-- "Address rules (13)", place "its low dword": a use is asked of each dword of a command. It is given the command's dwords, the dword's own number,
-- which dword of its group it is (the header is 0), and the dword itself, and answers whether an address that the command uses has its low
-- dword there.
abbrev pub Uses : Type 0
Uses = List ℕ → ℕ → ℕ → ℕ → Access

-- "Address rules (13)" names no address of rows 0, 1, 3, 8, 11 and 13 to 16, and request 1 none of row 17
abbrev pub no_use : Uses
no_use d k j w = Unused

-- "its low dword": it is the dword `low` of its group
abbrev pub low_at : ℕ → ℕ → Access → Access
low_at low j a = cond (eqb j low) a Unused

-- "row 2 target (4 bytes) in the batch window"
abbrev pub start_use : Uses
start_use d k j w = low_at 1 j (Reaches 4 BatchOnly)

-- "rows 4 (4 or 8 bytes) .. in scratch"
abbrev pub store_use : Uses
store_use d k j w = low_at 1 j (Reaches (cond (eight_bytes d) 8 4) ScratchOnly)

-- "5 (4) .. in scratch"
abbrev pub store_register_use : Uses
store_register_use d k j w = low_at 2 j (Reaches 4 ScratchOnly)

-- "row 6 (4) in any window"
abbrev pub load_register_use : Uses
load_register_use d k j w = low_at 2 j (Reaches 4 AnyWindow)

-- "7 with post-sync (8) in scratch"
abbrev pub pipe_use : Uses
pipe_use d k j w = low_at 2 j (cond (eqb (post_sync d) 0) Unused (Reaches 8 ScratchOnly))

-- a range of so many bytes, "with size not 0"; the size stands two dwords behind the low one
abbrev pub sized : ℕ → Access
sized size = cond (eqb size 0) Unused (Reaches size AnyWindow)

-- request 3: "The base addresses in STATE_BASE_ADDRESS are included where their modify bit is set", bit 0 of the low dword; 13 asks no range of them
abbrev pub base_use : Uses
base_use d k j w = cond (some (eqb j) (1 ∷ 4 ∷ 6 ∷ 8 ∷ 10 ∷ []) && bit w 0) NoRange Unused

-- "Row 10 with bit 13 clear, bit 14 set and size not 0: the range in one window"
abbrev pub vertex_buffer_use : Uses
vertex_buffer_use d k j w =
    low_at 2 j (cond (not (bit (get_or d (k - 1) 0) 13) && bit (get_or d (k - 1) 0) 14) (sized (get_or d (k + 2) 0)) Unused)

-- "row 12 likewise with size not 0"
abbrev pub index_buffer_use : Uses
index_buffer_use d k j w = low_at 2 j (sized (get_or d (k + 2) 0))

-- "Address rules (13)", by row
unfoldable pub uses_by_row : List Uses
uses_by_row =
    -- 0 MI_NOOP, 1 MI_BATCH_BUFFER_END, 2 MI_BATCH_BUFFER_START
    no_use ∷ no_use ∷ start_use
    -- 3 MI_LOAD_REGISTER_IMM, 4 MI_STORE_DATA_IMM, 5 MI_STORE_REGISTER_MEM, 6 MI_LOAD_REGISTER_MEM
    ∷ no_use ∷ store_use ∷ store_register_use ∷ load_register_use
    -- 7 PIPE_CONTROL, 8 PIPELINE_SELECT, 9 STATE_BASE_ADDRESS
    ∷ pipe_use ∷ no_use ∷ base_use
    -- 10 3DSTATE_VERTEX_BUFFERS, 11 3DSTATE_VERTEX_ELEMENTS, 12 3DSTATE_INDEX_BUFFER
    ∷ vertex_buffer_use ∷ no_use ∷ index_buffer_use
    -- 13 to 17 use none
    ∷ no_use ∷ no_use ∷ no_use ∷ no_use ∷ no_use ∷ []

-- a line for each row of the table
pub a_use_a_row : length uses_by_row ≡ row_count
unfolding uses_by_row
a_use_a_row = refl

-- "row 2 target", "row 6": the uses of a row
unfoldable pub access_of : ℕ → Uses
access_of r = get_or uses_by_row r no_use

-- "its low dword": the address that the command uses with its low dword at k, if it does
unfoldable pub access_at : ℕ → List ℕ → ℕ → Access
access_at r dwords k = access_of r dwords k (spot r k) (get_or dwords k 0)

-- request 3: "every address that is used"
abbrev pub is_used : Access → Bool
is_used Unused = false
is_used (Reaches bytes allowed) = true
is_used NoRange = true

-- request 3: "the high dword of every address that is used": the dword before the dword k, the dword j of its group, is the low dword of one
unfoldable pub used_high_of : ℕ → List ℕ → ℕ → ℕ → Bool
used_high_of r dwords k j = is_used (access_of r dwords (k - 1) (j - 1) (get_or dwords (k - 1) 0))

-- the same by the dword's own number
unfoldable pub used_high : ℕ → List ℕ → ℕ → Bool
used_high r dwords k = used_high_of r dwords k (spot r k)
