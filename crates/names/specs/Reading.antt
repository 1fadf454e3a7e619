-- What is promised of every shown name: it can be read back, and no byte of it moves the cursor.
use Rattle.std.specs.Prelude.{ℕ, ◌+◌, ◌-◌, ◌*◌, ◌<◌, Bool, true, cond, not, ◌&&◌, List, [], ◌∷◌, get_or, leb, ltb, eqb}

-- how far a reader of a shown name is
pub data Reading : Type 0 where
  plain : Reading
  after_backslash : Reading
  first_digit : Reading
  second_digit : ℕ → Reading

-- what a hexadecimal digit counts
unfoldable pub digit_value : ℕ → ℕ
digit_value digit = cond (ltb digit 58) (digit - 48) (digit - 55)

-- the bytes that a shown name was made of
unfoldable pub read_on : Reading → List ℕ → List ℕ
read_on how [] = []
read_on plain (byte ∷ rest) = cond (eqb byte 0x5C) (read_on after_backslash rest) (byte ∷ read_on plain rest)
read_on after_backslash (byte ∷ rest) = cond (eqb byte 0x5C) (0x5C ∷ read_on plain rest) (read_on first_digit rest)
read_on first_digit (byte ∷ rest) = read_on (second_digit (digit_value byte)) rest
read_on (second_digit high) (byte ∷ rest) = (16 * high + digit_value byte) ∷ read_on plain rest

abbrev pub read_back : List ℕ → List ℕ
read_back text = read_on plain text

-- a list of bytes
abbrev pub Bytes : List ℕ → Type 0
Bytes name = (k : ℕ) → get_or name k 0 < 256

-- no control byte of ASCII: none below 20h, and not 7Fh
unfoldable pub printing : List ℕ → Bool
printing [] = true
printing (byte ∷ rest) = (leb 0x20 byte && not (eqb byte 0x7F)) && printing rest
