-- Document 01, "Commands": the table of rows, as data, and what is read off it.
use Rattle.std.specs.Prelude.{ℕ, suc, ◌+◌, ◌-◌, ◌/◌, ◌%◌, ◌^◌, ◌≡◌, refl, Bool, true, cond, ◌&&◌, List, [], ◌∷◌, length, get_or, leb, eqb}
use Rattle.rules.specs.Words.{bit, field, cleared, in_group}

-- "0|MI_NOOP"
abbrev pub noop_row : ℕ
noop_row = 0

-- "1|MI_BATCH_BUFFER_END"
abbrev pub end_row : ℕ
end_row = 1

-- "2|MI_BATCH_BUFFER_START"
abbrev pub start_row : ℕ
start_row = 2

-- "3|MI_LOAD_REGISTER_IMM"
abbrev pub set_registers_row : ℕ
set_registers_row = 3

-- "4|MI_STORE_DATA_IMM"
abbrev pub store_row : ℕ
store_row = 4

-- "5|MI_STORE_REGISTER_MEM"
abbrev pub store_register_row : ℕ
store_register_row = 5

-- "6|MI_LOAD_REGISTER_MEM"
abbrev pub load_register_row : ℕ
load_register_row = 6

-- "7|PIPE_CONTROL"
abbrev pub pipe_row : ℕ
pipe_row = 7

-- "8|PIPELINE_SELECT"
abbrev pub select_row : ℕ
select_row = 8

-- "9|STATE_BASE_ADDRESS"
abbrev pub base_row : ℕ
base_row = 9

-- "10|3DSTATE_VERTEX_BUFFERS"
abbrev pub vertex_buffers_row : ℕ
vertex_buffers_row = 10

-- "11|3DSTATE_VERTEX_ELEMENTS"
abbrev pub vertex_elements_row : ℕ
vertex_elements_row = 11

-- "12|3DSTATE_INDEX_BUFFER"
abbrev pub index_buffer_row : ℕ
index_buffer_row = 12

-- "13|3DSTATE_VF_TOPOLOGY"
abbrev pub topology_row : ℕ
topology_row = 13

-- "14|3DSTATE_VIEWPORT_STATE_POINTERS_CC"
abbrev pub viewport_row : ℕ
viewport_row = 14

-- "15|3DSTATE_CC_STATE_POINTERS"
abbrev pub colour_row : ℕ
colour_row = 15

-- "16|3DPRIMITIVE"
abbrev pub primitive_row : ℕ
primitive_row = 16

-- request 1: "3DSTATE_BLEND_STATE_POINTERS .. Make it row 17"
abbrev pub blend_row : ℕ
blend_row = 17

-- the table's column "Row", with row 17 of request 1: how many there are
abbrev pub row_count : ℕ
row_count = 18

-- the table's column "Header", what it says of the length: "the field in bits 7:0"
pub data Length : Type 0 where
  -- "1 in rows 0, 1 and 8, which have no field"
  no_field : Length
  -- the field's one value
  exactly : ℕ → Length
  -- the field's value where a header bit is clear, and where it is set
  by_bit : ℕ → ℕ → ℕ → Length
  -- n groups, n from 1 to a largest number
  groups : ℕ → Length

-- a row: what its header is known by, the header bits that are free, its length, and the allowed bits of its dwords, "repeating groups give one group"
pub record Row : Type 0 where
  pub key : ℕ
  pub free : ℕ
  pub total : Length
  pub masks : List ℕ

-- a line of the table, in the order of its columns "Header" and "Allowed bits, by dword"
abbrev row : ℕ → ℕ → Length → List ℕ → Row
row key free total masks = record { key = key; free = free; total = total; masks = masks }

-- "+ bits 21:0", "+ bits 10:8": the header bits high:low
abbrev bits : ℕ → ℕ → ℕ
bits high low = 2 ^ (high + 1) - 2 ^ low

-- "Free" "means any dword"
abbrev pub any_dword : ℕ
any_dword = 0xFFFFFFFF

-- "An address takes two dwords; the high one allows 0000FFFFh"
abbrev pub high_dword : ℕ
high_dword = 0x0000FFFF

-- the table of "Commands": "Row", "Command", "Header", "Allowed bits, by dword"
unfoldable pub rows : List Row
rows =
    -- 0 MI_NOOP
    row 0x00000000 (bits 21 0) no_field []
    -- 1 MI_BATCH_BUFFER_END
    ∷ row 0x05000000 0 no_field []
    -- 2 MI_BATCH_BUFFER_START
    ∷ row 0x18800000 (bits 22 22 + bits 8 8) (exactly 1) (0xFFFFFFFC ∷ high_dword ∷ [])
    -- 3 MI_LOAD_REGISTER_IMM
    ∷ row 0x11000000 0 (groups 64) (0x007FFFFC ∷ any_dword ∷ [])
    -- 4 MI_STORE_DATA_IMM
    ∷ row 0x10000000 (bits 21 21) (by_bit 21 2 3) (0xFFFFFFFC ∷ high_dword ∷ any_dword ∷ any_dword ∷ [])
    -- 5 MI_STORE_REGISTER_MEM
    ∷ row 0x12000000 0 (exactly 2) (0x007FFFFC ∷ 0xFFFFFFFC ∷ high_dword ∷ [])
    -- 6 MI_LOAD_REGISTER_MEM
    ∷ row 0x14800000 0 (exactly 2) (0x007FFFFC ∷ 0xFFFFFFFC ∷ high_dword ∷ [])
    -- 7 PIPE_CONTROL
    ∷ row 0x7A000000 0 (exactly 4) (0x0010FCBF ∷ 0xFFFFFFFC ∷ high_dword ∷ any_dword ∷ any_dword ∷ [])
    -- 8 PIPELINE_SELECT
    ∷ row 0x69040000 0 no_field []
    -- 9 STATE_BASE_ADDRESS: dwords 1 to 15
    ∷ row 0x61010000 0 (exactly 0x0E)
    (0xFFFFF7F1 ∷ high_dword ∷ 0x007F0000 ∷ 0xFFFFF7F1 ∷ high_dword ∷ 0xFFFFF7F1 ∷ high_dword ∷ 0xFFFFF7F1 ∷ high_dword ∷ 0xFFFFF7F1 ∷ high_dword
    ∷ 0xFFFFF001 ∷ 0xFFFFF001 ∷ 0xFFFFF001 ∷ 0xFFFFF001 ∷ [])
    -- 10 3DSTATE_VERTEX_BUFFERS
    ∷ row 0x78080000 0 (groups 33) (0xFC7F6FFF ∷ any_dword ∷ high_dword ∷ any_dword ∷ [])
    -- 11 3DSTATE_VERTEX_ELEMENTS
    ∷ row 0x78090000 0 (groups 34) (0xFFFF8FFF ∷ 0x77770000 ∷ [])
    -- 12 3DSTATE_INDEX_BUFFER
    ∷ row 0x780A0000 0 (exactly 3) (0x0000037F ∷ any_dword ∷ high_dword ∷ any_dword ∷ [])
    -- 13 3DSTATE_VF_TOPOLOGY
    ∷ row 0x784B0000 0 (exactly 0) (0x0000003F ∷ [])
    -- 14 3DSTATE_VIEWPORT_STATE_POINTERS_CC
    ∷ row 0x78230000 0 (exactly 0) (0xFFFFFFE0 ∷ [])
    -- 15 3DSTATE_CC_STATE_POINTERS
    ∷ row 0x780E0000 0 (exactly 0) (0xFFFFFFC1 ∷ [])
    -- 16 3DPRIMITIVE
    ∷ row 0x7B000000 (bits 10 8) (exactly 5) (0x0000033F ∷ any_dword ∷ any_dword ∷ any_dword ∷ any_dword ∷ any_dword ∷ [])
    -- 17 3DSTATE_BLEND_STATE_POINTERS: "header 78240000h, one dword allowing FFFFFFC1h"
    ∷ row 0x78240000 0 (exactly 0) (0xFFFFFFC1 ∷ [])
    ∷ []

-- the rows are as many as they are said to be
pub rows_counted : length rows ≡ row_count
unfolding rows
rows_counted = refl

-- "header not in the table": a number that is no row has a row that allows nothing
abbrev no_row : Row
no_row = row 0 0 no_field []

-- the table's column "Row": what stands in a row, by its number
unfoldable pub the_row : ℕ → Row
unfolding rows
the_row r = get_or rows r no_row

-- "Type is bits 31:29. Type 0 is known by bits 28:23, type 3 by 31:16."
unfoldable pub key_of : ℕ → ℕ
key_of header = cond (eqb (field header 31 29) 0) (cleared header 23) (cleared header 16)

-- "is known by": the row with a key, or the number of rows where none has it
unfoldable pub row_from : ℕ → List Row → ℕ
row_from key [] = 0
row_from key (r ∷ rs) = cond (eqb key r.key) 0 (suc (row_from key rs))

-- "Type 0 is known by bits 28:23, type 3 by 31:16": the row of a header
unfoldable pub row_of : ℕ → ℕ
unfolding rows key_of row_from
row_of header = row_from (key_of header) rows

-- "Total length is the field in bits 7:0 plus 2, or 1 in rows 0, 1 and 8, which have no field."
abbrev pub dword_count : Length → ℕ → ℕ
dword_count no_field header = 1
dword_count (exactly f) header = field header 7 0 + 2
dword_count (by_bit b f g) header = field header 7 0 + 2
dword_count (groups n) header = field header 7 0 + 2

-- "Total length": of a header in a row
unfoldable pub length_of : ℕ → ℕ → ℕ
length_of r header = dword_count (the_row r).total header

-- "field 2n-1, n 1..64", "10000002h, or 10200003h": the field is one that the row has; `size` is the dwords of a group
abbrev pub field_right : Length → ℕ → ℕ → Bool
field_right no_field size header = true
field_right (exactly f) size header = eqb (field header 7 0) f
field_right (by_bit b f g) size header = eqb (field header 7 0) (cond (bit header b) g f)
field_right (groups n) size header =
    eqb ((field header 7 0 + 1) % size) 0 && (leb 1 ((field header 7 0 + 1) / size) && leb ((field header 7 0 + 1) / size) n)

-- "repeating groups give one group": how many dwords it has; a row without groups is one group of all its dwords
unfoldable pub group_size : ℕ → ℕ
group_size r = length (the_row r).masks

-- the length field is right; 8, "length field wrong", is its negation
unfoldable pub length_right : ℕ → ℕ → Bool
length_right r header = field_right (the_row r).total (group_size r) header

-- "row number by dword within the command or group": which dword of its group the dword k of a command is, the header being 0
abbrev pub spot : ℕ → ℕ → ℕ
spot r k = in_group (group_size r) k
