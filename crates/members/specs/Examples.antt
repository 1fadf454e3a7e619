-- The text of some strings, by computation.
use Rattle.std.specs.Prelude.{◌≡◌, refl, [], ◌∷◌, ◌++◌}
use Rattle.rules.specs.Printout.{bytes}
use Rattle.lines.specs.Hexadecimal.{hex_digit, hex_digits}
use Rattle.members.specs.Strings.{quoted_byte, quoted}

pub strings : (quoted (bytes "say \"a\\b\"") ≡ bytes "say \\\"a\\\\b\\\"")
    × (quoted (bytes "two\nlines") ≡ bytes "two\\u000Alines")
    × (quoted (0x1F ∷ 0x20 ∷ 0x7F ∷ 0xC3 ∷ 0xA9 ∷ []) ≡ bytes "\\u001F " ++ (0x7F ∷ 0xC3 ∷ 0xA9 ∷ []))
unfolding hex_digit hex_digits quoted_byte quoted
strings = (refl, refl, refl)
