-- The text of a JSON string.
use Rattle.std.specs.Prelude.{ℕ, cond, ◌||◌, List, [], ◌∷◌, ◌++◌, eqb, ltb}
use Rattle.rules.specs.Printout.{bytes}
use Rattle.lines.specs.Hexadecimal.{hex_digits}

-- a byte: `\u00NN` for a control byte, a backslash in front of a quotation mark and of a backslash; any other stands as it is
unfoldable pub quoted_byte : ℕ → List ℕ
quoted_byte byte =
    cond (ltb byte 0x20) (bytes "\\u00" ++ hex_digits 2 byte)
    (cond (eqb byte 0x22 || eqb byte 0x5C) (0x5C ∷ byte ∷ []) (byte ∷ []))

-- what stands between the quotation marks
unfoldable pub quoted : List ℕ → List ℕ
quoted [] = []
quoted (byte ∷ rest) = quoted_byte byte ++ quoted rest
