-- Document 01, "Value rules (12)", and request 3.
use Rattle.std.specs.Prelude.{ℕ, ◌%◌, ◌≡◌, refl, Bool, false, cond, not, ◌&&◌, ◌||◌, List, [], ◌∷◌, length, get_or, leb, ltb, eqb}
use Rattle.rules.specs.Words.{bit, field, some}
use Rattle.rules.specs.Formats.{format_bits, known_topology, known_register}
use Rattle.rules.specs.Commands.{row_count, spot}
use Rattle.rules.specs.Uses.{eight_bytes, post_sync, canonical, used_high_of}

-- "Value rules (12)", "first such dword": a rule is asked of each dword of a command. It is given what a use is given (`Uses`), the command's dwords,
-- the dword's own number, which dword of its group it is, and the dword itself, and answers whether the rule is broken there.
abbrev pub Rule : Type 0
Rule = List ℕ → ℕ → ℕ → ℕ → Bool

-- "Value rules (12)" has no line for rows 0, 1, 8, 9, 14 and 15, and request 1 has none for row 17
abbrev pub no_rule : Rule
no_rule d k j w = false

-- "Row 2: bit 8 set."
abbrev pub start_rule : Rule
start_rule d k j w = eqb j 0 && not (bit w 8)

-- "Rows 3, 5, 6: register is .."
abbrev pub register_rule : Rule
register_rule d k j w = eqb j 1 && not (known_register w)

-- "Row 4: ..; an eight-byte store address is a multiple of 8."
abbrev pub store_rule : Rule
store_rule d k j w = eqb j 1 && (eight_bytes d && not (eqb (w % 8) 0))

-- "Row 7: .. If 0, dwords 2 to 5 are zero; else the address is a multiple of 8."
abbrev pub pipe_rule : Rule
pipe_rule d k j w = cond (eqb (post_sync d) 0) (leb 2 j && not (eqb w 0)) (eqb j 2 && not (eqb (w % 8) 0))

-- "Row 10: index (31:26) at most 32, pitch (11:0) at most 2,048."
abbrev pub vertex_buffer_rule : Rule
vertex_buffer_rule d k j w = eqb j 1 && (ltb 32 (field w 31 26) || ltb 2048 (field w 11 0))

-- "component controls, in bits 30:28, 26:24, 22:20, 18:16"
abbrev pub components : ℕ → List ℕ
components w = field w 30 28 ∷ field w 26 24 ∷ field w 22 20 ∷ field w 18 16 ∷ []

-- "after a 0 only 0", broken
abbrev pub after_zero : List ℕ → Bool
after_zero [] = false
after_zero (x ∷ xs) = (eqb x 0 && some (ltb 0) xs) || after_zero xs

-- "each at most 4, component 0 not 0, and after a 0 only 0", broken
unfoldable pub components_wrong : ℕ → Bool
components_wrong w = some (ltb 4) (components w) || (eqb (field w 30 28) 0 || after_zero (components w))

-- "Row 11: index at most 32; format (24:16) with an entry above 0 in SURFACE_FORMAT; component controls .."
abbrev pub vertex_element_rule : Rule
vertex_element_rule d k j w =
    (eqb j 1 && (ltb 32 (field w 31 26) || eqb (format_bits (field w 24 16)) 0)) || (eqb j 2 && components_wrong w)

-- "Row 12: format (9:8) not 3."
abbrev pub index_buffer_rule : Rule
index_buffer_rule d k j w = eqb j 1 && eqb (field w 9 8) 3

-- "Row 13: 01h..14h, 16h, 20h..3Fh (000)."
abbrev pub topology_rule : Rule
topology_rule d k j w = eqb j 1 && not (known_topology w)

-- "Row 16: dword 1 bit 9 not with header bit 10 (place dword 1); with bit 9, dword 1 bit 8 is 0 and dwords 3, 5, 6 are 0.
-- Its topology field is ignored": no rule looks at it.
abbrev pub primitive_rule : Rule
primitive_rule d k j w =
    bit (get_or d 1 0) 9
    && ((eqb j 1 && (bit (get_or d 0 0) 10 || bit w 8)) || ((eqb j 3 || (eqb j 5 || eqb j 6)) && not (eqb w 0)))

-- "Value rules (12)", by row
unfoldable pub value_rules : List Rule
value_rules =
    -- 0 MI_NOOP, 1 MI_BATCH_BUFFER_END, 2 MI_BATCH_BUFFER_START
    no_rule ∷ no_rule ∷ start_rule
    -- 3 MI_LOAD_REGISTER_IMM, 4 MI_STORE_DATA_IMM, 5 MI_STORE_REGISTER_MEM, 6 MI_LOAD_REGISTER_MEM
    ∷ register_rule ∷ store_rule ∷ register_rule ∷ register_rule
    -- 7 PIPE_CONTROL, 8 PIPELINE_SELECT, 9 STATE_BASE_ADDRESS
    ∷ pipe_rule ∷ no_rule ∷ no_rule
    -- 10 3DSTATE_VERTEX_BUFFERS, 11 3DSTATE_VERTEX_ELEMENTS, 12 3DSTATE_INDEX_BUFFER, 13 3DSTATE_VF_TOPOLOGY
    ∷ vertex_buffer_rule ∷ vertex_element_rule ∷ index_buffer_rule ∷ topology_rule
    -- 14 3DSTATE_VIEWPORT_STATE_POINTERS_CC, 15 3DSTATE_CC_STATE_POINTERS, 16 3DPRIMITIVE, 17 3DSTATE_BLEND_STATE_POINTERS
    ∷ no_rule ∷ no_rule ∷ primitive_rule ∷ no_rule ∷ []

-- a line for each row of the table
pub a_rule_a_row : length value_rules ≡ row_count
unfolding value_rules
a_rule_a_row = refl

-- "Row 2:", "Rows 3, 5, 6:": the rule of a row
unfoldable pub rule_of : ℕ → Rule
rule_of r = get_or value_rules r no_rule

-- request 3: "the high dword of every address that is used must be canonical", broken by the dword k, the dword j of its group
unfoldable pub high_wrong : ℕ → List ℕ → ℕ → ℕ → Bool
high_wrong r dwords k j = used_high_of r dwords k j && not (canonical (get_or dwords k 0))

-- 12: by the dword k, the dword j of its group: "a used, non-canonical high dword is 12 at that dword" (request 3), or "a value rule broken"
unfoldable pub value_wrong_of : ℕ → List ℕ → ℕ → ℕ → Bool
value_wrong_of r dwords k j = high_wrong r dwords k j || rule_of r dwords k j (get_or dwords k 0)

-- 12: "a value rule broken", by the dword's own number
unfoldable pub value_wrong : ℕ → List ℕ → ℕ → Bool
value_wrong r dwords k = value_wrong_of r dwords k (spot r k)
