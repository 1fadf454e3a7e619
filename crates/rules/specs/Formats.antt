-- What is known of codes: document 01's lists of formats, topologies and registers, and document 000's blend factors and functions.
use Rattle.std.specs.Prelude.{ℕ, ◌%◌, Bool, true, cond, ◌&&◌, ◌||◌, List, [], ◌∷◌, get_or, leb, ltb, eqb}
use Rattle.rules.specs.Words.{some}

-- "SURFACE_FORMAT is a table of 512 entries, one for each 9-bit code: bits per element as 000 lists it, 0 where unlisted or unreadable."
-- Sixteen to a line; the line's first code is behind it.
unfoldable pub surface_formats : List ℕ
surface_formats =
    128 ∷ 128 ∷ 128 ∷ 128 ∷ 128 ∷ 128 ∷ 128 ∷ 128 ∷ 128 ∷ 0 ∷ 0 ∷ 0 ∷ 0 ∷ 0 ∷ 0 ∷ 0  -- 000h
    ∷ 0 ∷ 0 ∷ 0 ∷ 0 ∷ 0 ∷ 0 ∷ 0 ∷ 0 ∷ 0 ∷ 0 ∷ 0 ∷ 0 ∷ 0 ∷ 0 ∷ 0 ∷ 0  -- 010h
    ∷ 128 ∷ 128 ∷ 0 ∷ 0 ∷ 0 ∷ 0 ∷ 0 ∷ 0 ∷ 0 ∷ 0 ∷ 0 ∷ 0 ∷ 0 ∷ 0 ∷ 0 ∷ 0  -- 020h
    ∷ 0 ∷ 0 ∷ 0 ∷ 0 ∷ 0 ∷ 0 ∷ 0 ∷ 0 ∷ 0 ∷ 0 ∷ 0 ∷ 0 ∷ 0 ∷ 0 ∷ 0 ∷ 0  -- 030h
    ∷ 96 ∷ 96 ∷ 96 ∷ 96 ∷ 96 ∷ 96 ∷ 96 ∷ 0 ∷ 0 ∷ 0 ∷ 0 ∷ 0 ∷ 0 ∷ 0 ∷ 0 ∷ 0  -- 040h
    ∷ 96 ∷ 0 ∷ 0 ∷ 0 ∷ 0 ∷ 0 ∷ 0 ∷ 0 ∷ 0 ∷ 0 ∷ 0 ∷ 0 ∷ 0 ∷ 0 ∷ 0 ∷ 0  -- 050h
    ∷ 0 ∷ 0 ∷ 0 ∷ 0 ∷ 0 ∷ 0 ∷ 0 ∷ 0 ∷ 0 ∷ 0 ∷ 0 ∷ 0 ∷ 0 ∷ 0 ∷ 0 ∷ 0  -- 060h
    ∷ 0 ∷ 0 ∷ 0 ∷ 0 ∷ 0 ∷ 0 ∷ 0 ∷ 0 ∷ 0 ∷ 0 ∷ 0 ∷ 0 ∷ 0 ∷ 0 ∷ 0 ∷ 0  -- 070h
    ∷ 64 ∷ 64 ∷ 64 ∷ 64 ∷ 64 ∷ 64 ∷ 64 ∷ 64 ∷ 64 ∷ 64 ∷ 64 ∷ 64 ∷ 64 ∷ 64 ∷ 64 ∷ 64  -- 080h
    ∷ 64 ∷ 64 ∷ 64 ∷ 64 ∷ 64 ∷ 64 ∷ 64 ∷ 0 ∷ 0 ∷ 0 ∷ 0 ∷ 0 ∷ 0 ∷ 0 ∷ 0 ∷ 0  -- 090h
    ∷ 64 ∷ 64 ∷ 0 ∷ 0 ∷ 0 ∷ 0 ∷ 0 ∷ 0 ∷ 0 ∷ 0 ∷ 0 ∷ 0 ∷ 0 ∷ 0 ∷ 0 ∷ 0  -- 0A0h
    ∷ 0 ∷ 0 ∷ 0 ∷ 0 ∷ 0 ∷ 0 ∷ 0 ∷ 0 ∷ 0 ∷ 0 ∷ 0 ∷ 0 ∷ 0 ∷ 0 ∷ 0 ∷ 0  -- 0B0h
    ∷ 32 ∷ 32 ∷ 32 ∷ 32 ∷ 32 ∷ 32 ∷ 0 ∷ 32 ∷ 32 ∷ 32 ∷ 32 ∷ 32 ∷ 32 ∷ 32 ∷ 32 ∷ 32  -- 0C0h
    ∷ 32 ∷ 32 ∷ 32 ∷ 32 ∷ 0 ∷ 0 ∷ 32 ∷ 32 ∷ 32 ∷ 32 ∷ 32 ∷ 0 ∷ 0 ∷ 32 ∷ 32 ∷ 32  -- 0D0h
    ∷ 32 ∷ 32 ∷ 32 ∷ 32 ∷ 32 ∷ 32 ∷ 32 ∷ 32 ∷ 32 ∷ 32 ∷ 32 ∷ 32 ∷ 32 ∷ 32 ∷ 32 ∷ 0  -- 0E0h
    ∷ 32 ∷ 32 ∷ 32 ∷ 32 ∷ 32 ∷ 32 ∷ 32 ∷ 32 ∷ 32 ∷ 32 ∷ 0 ∷ 0 ∷ 0 ∷ 0 ∷ 0 ∷ 0  -- 0F0h
    ∷ 16 ∷ 16 ∷ 16 ∷ 16 ∷ 16 ∷ 16 ∷ 16 ∷ 16 ∷ 16 ∷ 16 ∷ 16 ∷ 16 ∷ 16 ∷ 16 ∷ 16 ∷ 16  -- 100h
    ∷ 16 ∷ 16 ∷ 16 ∷ 16 ∷ 16 ∷ 16 ∷ 16 ∷ 16 ∷ 16 ∷ 16 ∷ 16 ∷ 16 ∷ 16 ∷ 16 ∷ 16 ∷ 16  -- 110h
    ∷ 0 ∷ 0 ∷ 16 ∷ 16 ∷ 16 ∷ 16 ∷ 16 ∷ 16 ∷ 0 ∷ 0 ∷ 0 ∷ 0 ∷ 0 ∷ 0 ∷ 0 ∷ 0  -- 120h
    ∷ 0 ∷ 0 ∷ 0 ∷ 0 ∷ 0 ∷ 0 ∷ 0 ∷ 0 ∷ 0 ∷ 0 ∷ 0 ∷ 0 ∷ 0 ∷ 0 ∷ 0 ∷ 0  -- 130h
    ∷ 8 ∷ 8 ∷ 8 ∷ 8 ∷ 8 ∷ 8 ∷ 8 ∷ 8 ∷ 8 ∷ 8 ∷ 8 ∷ 8 ∷ 8 ∷ 8 ∷ 8 ∷ 8  -- 140h
    ∷ 8 ∷ 0 ∷ 8 ∷ 8 ∷ 8 ∷ 8 ∷ 0 ∷ 0 ∷ 0 ∷ 0 ∷ 0 ∷ 0 ∷ 0 ∷ 0 ∷ 0 ∷ 0  -- 150h
    ∷ 0 ∷ 0 ∷ 0 ∷ 0 ∷ 0 ∷ 0 ∷ 0 ∷ 0 ∷ 0 ∷ 0 ∷ 0 ∷ 0 ∷ 0 ∷ 0 ∷ 0 ∷ 0  -- 160h
    ∷ 0 ∷ 0 ∷ 0 ∷ 0 ∷ 0 ∷ 0 ∷ 0 ∷ 0 ∷ 0 ∷ 0 ∷ 0 ∷ 0 ∷ 0 ∷ 0 ∷ 0 ∷ 0  -- 170h
    ∷ 0 ∷ 1 ∷ 0 ∷ 0 ∷ 2 ∷ 2 ∷ 0 ∷ 0 ∷ 0 ∷ 0 ∷ 0 ∷ 0 ∷ 0 ∷ 0 ∷ 1 ∷ 0  -- 180h
    ∷ 0 ∷ 0 ∷ 0 ∷ 24 ∷ 24 ∷ 24 ∷ 24 ∷ 256 ∷ 192 ∷ 0 ∷ 0 ∷ 48 ∷ 48 ∷ 48 ∷ 48 ∷ 48  -- 190h
    ∷ 0 ∷ 0 ∷ 0 ∷ 0 ∷ 0 ∷ 0 ∷ 0 ∷ 0 ∷ 24 ∷ 0 ∷ 0 ∷ 0 ∷ 0 ∷ 0 ∷ 0 ∷ 0  -- 1A0h
    ∷ 48 ∷ 48 ∷ 32 ∷ 32 ∷ 32 ∷ 32 ∷ 32 ∷ 32 ∷ 32 ∷ 32 ∷ 32 ∷ 32 ∷ 256 ∷ 192 ∷ 0 ∷ 0  -- 1B0h
    ∷ 0 ∷ 0 ∷ 0 ∷ 0 ∷ 0 ∷ 0 ∷ 0 ∷ 0 ∷ 24 ∷ 24 ∷ 0 ∷ 0 ∷ 0 ∷ 0 ∷ 0 ∷ 0  -- 1C0h
    ∷ 0 ∷ 0 ∷ 0 ∷ 0 ∷ 0 ∷ 0 ∷ 0 ∷ 0 ∷ 0 ∷ 0 ∷ 0 ∷ 0 ∷ 0 ∷ 0 ∷ 0 ∷ 0  -- 1D0h
    ∷ 0 ∷ 0 ∷ 0 ∷ 0 ∷ 0 ∷ 0 ∷ 0 ∷ 0 ∷ 0 ∷ 0 ∷ 0 ∷ 0 ∷ 0 ∷ 0 ∷ 0 ∷ 0  -- 1E0h
    ∷ 0 ∷ 0 ∷ 0 ∷ 0 ∷ 0 ∷ 0 ∷ 0 ∷ 0 ∷ 0 ∷ 0 ∷ 0 ∷ 0 ∷ 0 ∷ 0 ∷ 0 ∷ 0  -- 1F0h
    ∷ []

-- "bits per element", of a 9-bit code
unfoldable pub format_bits : ℕ → ℕ
format_bits code = get_or surface_formats code 0

-- "000h..008h", "01h..14h": low to high, both included
abbrev pub between : ℕ → ℕ → ℕ → Bool
between low high n = leb low n && leb n high

-- "128 exactly at 000h..008h, 020h, 021h; 96 at 040h..046h, 050h; 64 at 080h..096h, 0A0h, 0A1h; else 0"
abbrev pub block_bits : ℕ → ℕ
block_bits code =
    cond (between 0x000 0x008 code || between 0x020 0x021 code) 128
    (cond (between 0x040 0x046 code || eqb code 0x050) 96
    (cond (between 0x080 0x096 code || between 0x0A0 0x0A1 code) 64 0))

-- "Rule over the whole table: each entry is at most 256; below 0C0h it is" as above
abbrev pub block_rule : ℕ → ℕ → Bool
block_rule code entry = leb entry 256 && cond (ltb code 0x0C0) (eqb entry (block_bits code)) true

-- "Row 13: 01h..14h, 16h, 20h..3Fh"
unfoldable pub known_topology : ℕ → Bool
known_topology code = between 0x01 0x14 code || (eqb code 0x16 || between 0x20 0x3F code)

-- "register is 2400h, 2404h, 2408h, 240Ch, 2420h, 2430h, 2434h, 2438h, 243Ch, 2440h, or a multiple of 4 in 2600h..267Ch"
abbrev pub registers : List ℕ
registers = 0x2400 ∷ 0x2404 ∷ 0x2408 ∷ 0x240C ∷ 0x2420 ∷ 0x2430 ∷ 0x2434 ∷ 0x2438 ∷ 0x243C ∷ 0x2440 ∷ []

-- "register is .., or a multiple of 4 in 2600h..267Ch": asked of an offset
unfoldable pub known_register : ℕ → Bool
known_register r = some (eqb r) registers || (eqb (r % 4) 0 && between 0x2600 0x267C r)

-- request 1: "each blend factor .. must be a named code in document 000", 3D_Color_Buffer_Blend_Factor; each code with its line there. What that page
-- calls Reserved, and what it does not list, is not named.
unfoldable pub blend_factors : List ℕ
blend_factors =
    0x01  -- 000:93 01h BLENDFACTOR_ONE
    ∷ 0x02  -- 000:94 02h BLENDFACTOR_SRC_COLOR
    ∷ 0x03  -- 000:95 03h BLENDFACTOR_SRC_ALPHA
    ∷ 0x04  -- 000:96 04h BLENDFACTOR_DST_ALPHA
    ∷ 0x05  -- 000:97 05h BLENDFACTOR_DST_COLOR
    ∷ 0x06  -- 000:98 06h BLENDFACTOR_SRC_ALPHA_SATURATE
    ∷ 0x07  -- 000:99 07h BLENDFACTOR_CONST_COLOR
    ∷ 0x08  -- 000:100 08h BLENDFACTOR_CONST_ALPHA
    ∷ 0x09  -- 000:101 09h BLENDFACTOR_SRC1_COLOR
    ∷ 0x0A  -- 000:102 0Ah BLENDFACTOR_SRC1_ALPHA
    ∷ 0x11  -- 000:104 11h BLENDFACTOR_ZERO
    ∷ 0x12  -- 000:105 12h BLENDFACTOR_INV_SRC_COLOR
    ∷ 0x13  -- 000:106 13h BLENDFACTOR_INV_SRC_ALPHA
    ∷ 0x14  -- 000:107 14h BLENDFACTOR_INV_DST_ALPHA
    ∷ 0x15  -- 000:108 15h BLENDFACTOR_INV_DST_COLOR
    ∷ 0x17  -- 000:110 17h BLENDFACTOR_INV_CONST_COLOR
    ∷ 0x18  -- 000:111 18h BLENDFACTOR_INV_CONST_ALPHA
    ∷ 0x19  -- 000:112 19h BLENDFACTOR_INV_SRC1_COLOR
    ∷ 0x1A  -- 000:113 1Ah BLENDFACTOR_INV_SRC1_ALPHA
    ∷ []

-- request 1: "each blend factor and function must be a named code in document 000", 3D_Color_Buffer_Blend_Function; each code with its line there
unfoldable pub blend_functions : List ℕ
blend_functions =
    0  -- 000:120 0 BLENDFUNCTION_ADD
    ∷ 1  -- 000:121 1 BLENDFUNCTION_SUBTRACT
    ∷ 2  -- 000:122 2 BLENDFUNCTION_REVERSE_SUBTRACT
    ∷ 3  -- 000:123 3 BLENDFUNCTION_MIN
    ∷ 4  -- 000:124 4 BLENDFUNCTION_MAX
    ∷ []

-- "a named code", of a factor
unfoldable pub named_factor : ℕ → Bool
named_factor code = some (eqb code) blend_factors

-- "a named code", of a function
unfoldable pub named_function : ℕ → Bool
named_function code = some (eqb code) blend_functions
