-- Which dwords have a value rule (12): the table that says of which dwords the table engine asks one.
use Rattle.std.specs.Prelude.{ℕ, ◌+◌, ◌^◌, ◌≡◌, refl, Bool, List, [], ◌∷◌, length, get_or, eqb}
use Rattle.rules.specs.Words.{some}
use Rattle.rules.specs.Commands.{row_count}

-- the dwords of its group that have a value rule, by row, the high dwords of addresses among them (request 3); 0 is the header
unfoldable pub ruled_dwords : List (List ℕ)
ruled_dwords =
    -- 0 MI_NOOP
    []
    -- 1 MI_BATCH_BUFFER_END
    ∷ []
    -- 2 MI_BATCH_BUFFER_START
    ∷ (0 ∷ 2 ∷ [])
    -- 3 MI_LOAD_REGISTER_IMM
    ∷ (1 ∷ [])
    -- 4 MI_STORE_DATA_IMM
    ∷ (1 ∷ 2 ∷ [])
    -- 5 MI_STORE_REGISTER_MEM
    ∷ (1 ∷ 3 ∷ [])
    -- 6 MI_LOAD_REGISTER_MEM
    ∷ (1 ∷ 3 ∷ [])
    -- 7 PIPE_CONTROL
    ∷ (2 ∷ 3 ∷ 4 ∷ 5 ∷ [])
    -- 8 PIPELINE_SELECT
    ∷ []
    -- 9 STATE_BASE_ADDRESS
    ∷ (2 ∷ 5 ∷ 7 ∷ 9 ∷ 11 ∷ [])
    -- 10 3DSTATE_VERTEX_BUFFERS
    ∷ (1 ∷ 3 ∷ [])
    -- 11 3DSTATE_VERTEX_ELEMENTS
    ∷ (1 ∷ 2 ∷ [])
    -- 12 3DSTATE_INDEX_BUFFER
    ∷ (1 ∷ 3 ∷ [])
    -- 13 3DSTATE_VF_TOPOLOGY
    ∷ (1 ∷ [])
    -- 14 3DSTATE_VIEWPORT_STATE_POINTERS_CC
    ∷ []
    -- 15 3DSTATE_CC_STATE_POINTERS
    ∷ []
    -- 16 3DPRIMITIVE
    ∷ (1 ∷ 3 ∷ 5 ∷ 6 ∷ [])
    -- 17 3DSTATE_BLEND_STATE_POINTERS
    ∷ []
    ∷ []

-- a line for each row of the table
pub ruled_rows_counted : length ruled_dwords ≡ row_count
unfolding ruled_dwords
ruled_rows_counted = refl

-- the dword j of a group has a value rule in its row
unfoldable pub ruled : ℕ → ℕ → Bool
ruled r j = some (eqb j) (get_or ruled_dwords r [])

-- dwords as a word with a bit for each
unfoldable pub as_bits : List ℕ → ℕ
as_bits [] = 0
as_bits (j ∷ js) = 2 ^ j + as_bits js

-- the row's dwords that have a value rule, as such a word
unfoldable pub ruled_bits : ℕ → ℕ
ruled_bits r = as_bits (get_or ruled_dwords r [])
