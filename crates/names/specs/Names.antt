-- A name as it is shown on one line: characters that can be read stand as they are, every other byte is written out.
use Rattle.std.specs.Prelude.{ℕ, ◌-◌, Bool, cond, ◌&&◌, List, [], ◌∷◌, ◌++◌, get_or, eqb}
use Rattle.rules.specs.Formats.{between}
use Rattle.rules.specs.Printout.{bytes}
use Rattle.lines.specs.Hexadecimal.{hex_digits}

-- what stands past the end of a name: it is no byte, and lies only in the range of a byte that a row does not ask for
abbrev pub no_byte : ℕ
no_byte = 256

-- a row for characters of one, two, three and four bytes: how many of them stand, then the lowest and the highest that each byte may be
abbrev one_byte_row : ℕ → ℕ → ℕ → List ℕ
one_byte_row n low high = n ∷ low ∷ high ∷ 0 ∷ no_byte ∷ 0 ∷ no_byte ∷ 0 ∷ no_byte ∷ []

abbrev two_byte_row : ℕ → ℕ → ℕ → ℕ → ℕ → List ℕ
two_byte_row n low high low' high' = n ∷ low ∷ high ∷ low' ∷ high' ∷ 0 ∷ no_byte ∷ 0 ∷ no_byte ∷ []

abbrev three_byte_row : ℕ → ℕ → ℕ → ℕ → ℕ → ℕ → ℕ → List ℕ
three_byte_row n low high low' high' low'' high'' = n ∷ low ∷ high ∷ low' ∷ high' ∷ low'' ∷ high'' ∷ 0 ∷ no_byte ∷ []

abbrev four_byte_row : ℕ → ℕ → ℕ → ℕ → ℕ → List ℕ
four_byte_row n low high low' high' = n ∷ low ∷ high ∷ low' ∷ high' ∷ 0x80 ∷ 0xBF ∷ 0x80 ∷ 0xBF ∷ []

-- the first row that a character fits says how many bytes of it stand; of one that fits none, none do
unfoldable pub characters : List (List ℕ)
characters =
    -- 20h to 7Eh, but for the backslash
    one_byte_row 1 0x20 0x5B
    ∷ one_byte_row 1 0x5D 0x7E
    -- invisible, or turns a line's direction: U+200B to U+200F, U+2028 to U+202E, U+2060 to U+206F, U+FEFF
    ∷ three_byte_row 0 0xE2 0xE2 0x80 0x80 0x8B 0x8F
    ∷ three_byte_row 0 0xE2 0xE2 0x80 0x80 0xA8 0xAE
    ∷ three_byte_row 0 0xE2 0xE2 0x81 0x81 0xA0 0xAF
    ∷ three_byte_row 0 0xEF 0xEF 0xBB 0xBB 0xBF 0xBF
    -- Unicode's table 3-7, "Well-Formed UTF-8 Byte Sequences", from U+00A0 on
    ∷ two_byte_row 2 0xC2 0xC2 0xA0 0xBF
    ∷ two_byte_row 2 0xC3 0xDF 0x80 0xBF
    ∷ three_byte_row 3 0xE0 0xE0 0xA0 0xBF 0x80 0xBF
    ∷ three_byte_row 3 0xE1 0xEC 0x80 0xBF 0x80 0xBF
    ∷ three_byte_row 3 0xED 0xED 0x80 0x9F 0x80 0xBF
    ∷ three_byte_row 3 0xEE 0xEF 0x80 0xBF 0x80 0xBF
    ∷ four_byte_row 4 0xF0 0xF0 0x90 0xBF
    ∷ four_byte_row 4 0xF1 0xF3 0x80 0xBF
    ∷ four_byte_row 4 0xF4 0xF4 0x80 0x8F
    ∷ []

-- whether the bytes at the front of a name lie in the ranges of a row
unfoldable pub fits : List ℕ → ℕ → ℕ → ℕ → ℕ → Bool
fits row a b c d =
    between (get_or row 1 0) (get_or row 2 0) a && (between (get_or row 3 0) (get_or row 4 0) b
    && (between (get_or row 5 0) (get_or row 6 0) c && between (get_or row 7 0) (get_or row 8 0) d))

-- what the first row says that four bytes fit
unfoldable pub first_fit : List (List ℕ) → ℕ → ℕ → ℕ → ℕ → ℕ
first_fit [] a b c d = 0
first_fit (row ∷ rows) a b c d = cond (fits row a b c d) (get_or row 0 0) (first_fit rows a b c d)

-- how many bytes the character at the front of a name has, if it stands as it is; 0 if it does not
unfoldable pub standing : List ℕ → ℕ
standing name = first_fit characters (get_or name 0 no_byte) (get_or name 1 no_byte) (get_or name 2 no_byte) (get_or name 3 no_byte)

-- a byte that does not stand as it is: `\\` for the backslash, `\xNN` for any other
unfoldable pub written_out : ℕ → List ℕ
written_out byte = cond (eqb byte 0x5C) (bytes "\\\\") (bytes "\\x" ++ hex_digits 2 byte)

-- a byte, where so many from it on stand as they are
unfoldable pub shown_byte : ℕ → ℕ → List ℕ
shown_byte stands byte = cond (eqb stands 0) (written_out byte) (byte ∷ [])

-- how many bytes from the front on stand as they are, where so many are left of a character that has begun
unfoldable pub standing_on : ℕ → List ℕ → ℕ
standing_on left name = cond (eqb left 0) (standing name) left

-- a name from some byte on, where so many bytes are left of a character that has begun
unfoldable pub shown_on : ℕ → List ℕ → List ℕ
shown_on left [] = []
shown_on left (byte ∷ rest) =
    let stands : ℕ = standing_on left (byte ∷ rest) in shown_byte stands byte ++ shown_on (stands - 1) rest

-- THE TEXT of a name
abbrev pub shown_name : List ℕ → List ℕ
shown_name name = shown_on 0 name
