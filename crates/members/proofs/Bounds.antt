-- How long a text is in quotation marks: any text, and a name as `names::shown` shows it.
-- Assumes nothing.
use Prim.Native.Nat.{ℕ, zero, suc, ◌+◌, ◌-◌, ◌*◌, ◌/◌, ◌%◌, ◌<◌, ◌≤◌}
use native.Mathlib.Omega.{arith}
use mathlib.Core.Path.{◌≡◌, refl, ap}
use mathlib.Core.Bool.{Bool, true, false, cond, ◌||◌}
use mathlib.Core.List.{List, [], ◌∷◌, ◌++◌, append_assoc}
use mathlib.Core.Logic.{⊎_elim}
use lib.ListN.{length, take, length-append}
use lib.Dec.{ltb, eqb, eqb-suc-zero}
use borrow.Author.Tests.{ltb-true, le-ltb, ne_eqb}
use Rattle.rules.proofs.Searching.{either}
use Rattle.lines.specs.Hexadecimal.{hex_digit, hex_digits}
use Rattle.lines.specs.Lines.{Line}
use Rattle.lines.proofs.Putting.{line_front}
use Rattle.names.specs.Names.{written_out, shown_byte, standing_on, shown_on, shown_name}
use Rattle.names.proofs.Plainness.{Plain, PlainFront, standing_plain, rest_plain}
use Rattle.members.specs.Strings.{quoted_byte, quoted}

quoted_both : (text more : List ℕ) → quoted (text ++ more) ≡ quoted text ++ quoted more
unfolding quoted
quoted_both [] more = refl
quoted_both (byte ∷ rest) more = rw (quoted_both rest more, append_assoc)

escaped : (mark : Bool) (byte : ℕ) → length (cond mark (0x5C ∷ byte ∷ []) (byte ∷ [])) ≤ 2
escaped true byte = omega arith
escaped false byte = omega arith

byte_quoted : (byte : ℕ) → 0x20 ≤ byte → length (quoted_byte byte) ≤ 2
unfolding quoted_byte
byte_quoted byte h = rw (le-ltb byte 0x20 h) (escaped (eqb byte 0x22 || eqb byte 0x5C) byte)

any_quoted : (byte : ℕ) → length (quoted_byte byte) ≤ 6
unfolding quoted_byte hex_digits
any_quoted byte =
    ⊎_elim (λ e. rw e (omega arith)) (λ e. rw e (omega (arith, escaped (eqb byte 0x22 || eqb byte 0x5C) byte))) (either (ltb byte 0x20))

-- six bytes for each at most
pub text_quoted : (text : List ℕ) → length (quoted text) ≤ 6 * length text
unfolding quoted
text_quoted [] = omega arith
text_quoted (byte ∷ rest) = omega (arith, length-append (quoted_byte byte) (quoted rest), any_quoted byte, text_quoted rest)

-- a hexadecimal digit stands as it is
digit_quoted : (n : ℕ) → n < 16 → quoted_byte (hex_digit n) ≡ hex_digit n ∷ []
unfolding hex_digit quoted_byte
digit_quoted n h =
    ⊎_elim
    (λ e.
    let l = ltb-true n 10 e in
    rw (e, le-ltb (48 + n) 0x20 (omega arith), ne_eqb (48 + n) 0x22 (λ d. omega arith), ne_eqb (48 + n) 0x5C (λ d. omega arith)))
    (λ e. rw (e, le-ltb (55 + n) 0x20 (omega arith), ne_eqb (55 + n) 0x22 (λ d. omega arith), ne_eqb (55 + n) 0x5C (λ d. omega arith)))
    (either (ltb n 10))

-- a byte of a name gives five at most: `\xNN` has its backslash doubled
shown_byte_quoted : (stands byte : ℕ) → (0 < stands → Plain byte) → length (quoted (shown_byte stands byte)) ≤ 5
unfolding written_out shown_byte hex_digits quoted_byte quoted
shown_byte_quoted zero byte p =
    ⊎_elim (λ e. rw e (omega arith))
    (λ e. rw (e, digit_quoted (byte / 16 % 16) (omega arith), digit_quoted (byte % 16) (omega arith)) (omega arith))
    (either (eqb byte 0x5C))
shown_byte_quoted (suc more) byte p =
    rw (eqb-suc-zero more) (omega (arith, length-append (quoted_byte byte) [], byte_quoted byte (p (omega arith)).low))

shown_on_quoted : (left : ℕ) (name : List ℕ) → PlainFront left name → length (quoted (shown_on left name)) ≤ 5 * length name
unfolding quoted shown_on
shown_on_quoted left [] f = omega arith
shown_on_quoted left (byte ∷ rest) f =
    let stands = standing_on left (byte ∷ rest) in
    let front = standing_plain left (byte ∷ rest) f in
    let both = ap length (quoted_both (shown_byte stands byte) (shown_on (stands - 1) rest)) in
    let sum = length-append (quoted (shown_byte stands byte)) (quoted (shown_on (stands - 1) rest)) in
    let later = shown_on_quoted (stands - 1) rest (rest_plain stands byte rest front) in
    omega (arith, both, sum, later, shown_byte_quoted stands byte (front 0))

-- a name of n bytes, shown and then quoted, takes 5 n at most
pub name_quoted : (name : List ℕ) → length (quoted (shown_name name)) ≤ 5 * length name
name_quoted name = shown_on_quoted 0 name (λ k h. absurd (omega arith))

-- what `file_line` asks of a name, from what `names::shown` promises of its text
pub shown_fits : (name : List ℕ) {old new : List ℕ} {r : ℕ} → Line (shown_name name) old r new → length name ≤ 4096
    → length (quoted (take r new)) ≤ 20480
shown_fits name l h = rw (line_front l) (omega (arith, name_quoted name))
