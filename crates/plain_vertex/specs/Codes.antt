-- The formats that an element can have, as words with a bit for each code.
use Rattle.std.specs.Prelude.{ℕ, zero, suc, ◌+◌, ◌*◌, cond, eqb}
use Rattle.rules.specs.Formats.{format_bits}

-- the codes from c on that an element can have, n of them, a bit each
unfoldable pub known_from : ℕ → ℕ → ℕ
known_from c zero = 0
known_from c (suc n) = cond (eqb (format_bits c) 0) 0 1 + 2 * known_from (c + 1) n

-- the word n of them, 64 codes to a word
abbrev pub known_in : ℕ → ℕ
known_in n = known_from (64 * n) 64
