-- Names of each kind and their texts, by computation.
use Rattle.std.specs.Prelude.{ℕ, ◌≡◌, refl, List, [], ◌∷◌, ◌++◌}
use Prim.Native.String.{String}
use Rattle.rules.specs.Printout.{bytes}
use Rattle.lines.specs.Hexadecimal.{hex_digit, hex_digits}
use Rattle.names.specs.Names.{characters, fits, first_fit, standing, written_out, shown_byte, standing_on, shown_on, shown_name}

abbrev Stands : List ℕ → Type 0
Stands name = shown_name name ≡ name

abbrev Gives : List ℕ → String → Type 0
Gives name text = shown_name name ≡ bytes text

-- what can be read
pub standing_names : Stands (bytes "a shelf/plain ~name.capture")
    -- é, U+00A0, U+07FF
    × Stands (bytes "caf" ++ (0xC3 ∷ 0xA9 ∷ []))
    × Stands (0xC2 ∷ 0xA0 ∷ 0xDF ∷ 0xBF ∷ [])
    -- U+0800, U+200A, U+2010, U+2027, U+202F, U+205F, U+2070, U+D7FF, U+E000, U+FEFE, U+FFFF
    × Stands (0xE0 ∷ 0xA0 ∷ 0x80 ∷ 0xE2 ∷ 0x80 ∷ 0x8A ∷ 0xE2 ∷ 0x80 ∷ 0x90 ∷ 0xE2 ∷ 0x80 ∷ 0xA7 ∷ [])
    × Stands (0xE2 ∷ 0x80 ∷ 0xAF ∷ 0xE2 ∷ 0x81 ∷ 0x9F ∷ 0xE2 ∷ 0x81 ∷ 0xB0 ∷ 0xED ∷ 0x9F ∷ 0xBF ∷ [])
    × Stands (0xEE ∷ 0x80 ∷ 0x80 ∷ 0xEF ∷ 0xBB ∷ 0xBE ∷ 0xEF ∷ 0xBF ∷ 0xBF ∷ [])
    -- U+10000, an emoji (U+1F600), U+10FFFF
    × Stands (0xF0 ∷ 0x90 ∷ 0x80 ∷ 0x80 ∷ 0xF0 ∷ 0x9F ∷ 0x98 ∷ 0x80 ∷ 0xF4 ∷ 0x8F ∷ 0xBF ∷ 0xBF ∷ [])
unfolding hex_digit hex_digits characters fits first_fit standing written_out shown_byte standing_on shown_on
standing_names = (refl, refl, refl, refl, refl, refl, refl)

-- what cannot be seen, or moves the cursor, or turns the line
pub written_out_names : Gives (bytes "a\\b") "a\\\\b"
    × Gives (bytes "two\nlines") "two\\x0Alines"
    × Gives (0x7F ∷ []) "\\x7F"
    -- U+0080, U+009F
    × Gives (0xC2 ∷ 0x80 ∷ 0xC2 ∷ 0x9F ∷ []) "\\xC2\\x80\\xC2\\x9F"
    -- U+200B, U+200F, U+2028, U+2029, U+202E, U+2060, U+2066, U+206F, U+FEFF
    × Gives (0xE2 ∷ 0x80 ∷ 0x8B ∷ 0xE2 ∷ 0x80 ∷ 0x8F ∷ []) "\\xE2\\x80\\x8B\\xE2\\x80\\x8F"
    × Gives (0xE2 ∷ 0x80 ∷ 0xA8 ∷ 0xE2 ∷ 0x80 ∷ 0xA9 ∷ 0xE2 ∷ 0x80 ∷ 0xAE ∷ []) "\\xE2\\x80\\xA8\\xE2\\x80\\xA9\\xE2\\x80\\xAE"
    × Gives (0xE2 ∷ 0x81 ∷ 0xA0 ∷ 0xE2 ∷ 0x81 ∷ 0xA6 ∷ 0xE2 ∷ 0x81 ∷ 0xAF ∷ []) "\\xE2\\x81\\xA0\\xE2\\x81\\xA6\\xE2\\x81\\xAF"
    × Gives (0xEF ∷ 0xBB ∷ 0xBF ∷ []) "\\xEF\\xBB\\xBF"
unfolding hex_digit hex_digits characters fits first_fit standing written_out shown_byte standing_on shown_on
written_out_names = (refl, refl, refl, refl, refl, refl, refl, refl)

-- what is no UTF-8: each byte is written out, and the next is looked at afresh
pub ill_formed_names : Gives (0xC0 ∷ 0xAF ∷ []) "\\xC0\\xAF"
    -- a slash in three bytes, a surrogate, above U+10FFFF
    × Gives (0xE0 ∷ 0x80 ∷ 0xAF ∷ []) "\\xE0\\x80\\xAF"
    × Gives (0xED ∷ 0xA0 ∷ 0x80 ∷ []) "\\xED\\xA0\\x80"
    × Gives (0xF4 ∷ 0x90 ∷ 0x80 ∷ 0x80 ∷ []) "\\xF4\\x90\\x80\\x80"
    -- cut by the end, and by another character
    × Gives (bytes "caf" ++ (0xC3 ∷ [])) "caf\\xC3"
    × Gives (0xF0 ∷ 0x9F ∷ 0x98 ∷ []) "\\xF0\\x9F\\x98"
    × Gives (0xE2 ∷ 0x82 ∷ 0x41 ∷ 0xFF ∷ []) "\\xE2\\x82A\\xFF"
unfolding hex_digit hex_digits characters fits first_fit standing written_out shown_byte standing_on shown_on
ill_formed_names = (refl, refl, refl, refl, refl, refl, refl)
