-- THE PROMISES of a shown name: it can be read back, so that two names never give the same text; and no byte of it is a control byte.
-- Assumes nothing.
use Prim.Native.Nat.{ℕ, zero, suc, ◌+◌, ◌-◌, ◌*◌, ◌/◌, ◌%◌, ◌<◌}
use native.Mathlib.Omega.{arith}
use mathlib.Core.Path.{◌≡◌, refl, sym, ap, ◌∙◌}
use mathlib.Core.Bool.{true, not, ◌&&◌, and_assoc}
use mathlib.Core.List.{List, [], ◌∷◌, ◌++◌}
use mathlib.Core.Logic.{⊎_elim}
use lib.Dec.{leb, ltb, eqb, eqb-suc-zero}
use borrow.Author.Tests.{lt-ltb, le-ltb, ltb-true, ltb-false, eqb-true, ne_eqb, le-leb}
use Rattle.rules.proofs.Searching.{either}
use Rattle.lines.specs.Hexadecimal.{hex_digit, hex_digits}
use Rattle.names.specs.Names.{written_out, shown_byte, standing_on, shown_on, shown_name}
use Rattle.names.specs.Reading.{plain, digit_value, read_on, read_back, Bytes, printing}
use Rattle.names.proofs.Plainness.{Plain, PlainFront, standing_plain, rest_plain}

-- a hexadecimal digit, read
digit_read : (n : ℕ) → n < 16 → digit_value (hex_digit n) ≡ n
unfolding digit_value hex_digit
digit_read n h =
    ⊎_elim (λ e. rw (e, lt-ltb (48 + n) 58 (omega (arith, ltb-true n 10 e))) (omega arith))
    (λ e. rw (e, le-ltb (55 + n) 58 (omega (arith, ltb-false n 10 e))) (omega arith)) (either (ltb n 10))

-- both digits of a byte, read
digits_read : (byte : ℕ) → byte < 256 → 16 * digit_value (hex_digit (byte / 16 % 16)) + digit_value (hex_digit (byte % 16)) ≡ byte
digits_read byte h = rw (digit_read (byte / 16 % 16) (omega arith), digit_read (byte % 16) (omega arith)) (omega arith)

module _ (text : List ℕ) where
  written_out_read : (byte : ℕ) → byte < 256 → read_on plain (written_out byte ++ text) ≡ byte ∷ read_on plain text
  unfolding written_out hex_digits read_on
  written_out_read byte h =
      ⊎_elim (λ e. rw (eqb-true byte 0x5C e)) (λ e. rw e (ap (λ b. b ∷ read_on plain text) (digits_read byte h))) (either (eqb byte 0x5C))

  byte_read : (stands byte : ℕ) → byte < 256 → (0 < stands → Plain byte) → read_on plain (shown_byte stands byte ++ text) ≡ byte ∷ read_on plain text
  unfolding shown_byte read_on
  byte_read zero byte h p = written_out_read byte h
  byte_read (suc more) byte h p = rw (eqb-suc-zero more, ne_eqb byte 0x5C (p (omega arith)).no_backslash)

read_on_lem : (left : ℕ) (name : List ℕ) → Bytes name → PlainFront left name → read_back (shown_on left name) ≡ name
unfolding shown_on read_on
read_on_lem left [] b f = refl
read_on_lem left (byte ∷ rest) b f =
    let stands = standing_on left (byte ∷ rest) in
    let front = standing_plain left (byte ∷ rest) f in
    byte_read (shown_on (stands - 1) rest) stands byte (b 0) (front 0)
    ∙ ap (λ t. byte ∷ t) (read_on_lem (stands - 1) rest (λ k. b (suc k)) (rest_plain stands byte rest front))

-- a shown name, read back, is the name
pub read_back_lem : (name : List ℕ) → Bytes name → read_back (shown_name name) ≡ name
read_back_lem name b = read_on_lem 0 name b (λ k h. absurd (omega arith))

-- TWO NAMES NEVER GIVE THE SAME TEXT
pub one_name : (name name' : List ℕ) → Bytes name → Bytes name' → shown_name name ≡ shown_name name' → name ≡ name'
one_name name name' b b' e = sym (read_back_lem name b) ∙ ap read_back e ∙ read_back_lem name' b'

printing_both : (text more : List ℕ) → printing (text ++ more) ≡ (printing text && printing more)
unfolding printing
printing_both [] more = refl
printing_both (byte ∷ rest) more =
    let this = leb 0x20 byte && not (eqb byte 0x7F) in
    ap (λ t. this && t) (printing_both rest more) ∙ sym (and_assoc this (printing rest) (printing more))

digit_prints : (n : ℕ) → n < 16 → (leb 0x20 (hex_digit n) && not (eqb (hex_digit n) 0x7F)) ≡ true
unfolding hex_digit
digit_prints n h =
    ⊎_elim
    (λ e.
    let l = ltb-true n 10 e in rw (e, le-leb 0x20 (48 + n) (omega arith), ne_eqb (48 + n) 0x7F (λ d. omega arith)))
    (λ e. rw (e, le-leb 0x20 (55 + n) (omega arith), ne_eqb (55 + n) 0x7F (λ d. omega arith))) (either (ltb n 10))

byte_prints : (stands byte : ℕ) → (0 < stands → Plain byte) → printing (shown_byte stands byte) ≡ true
unfolding written_out shown_byte hex_digits printing
byte_prints zero byte p =
    ⊎_elim (λ e. rw e)
    (λ e. rw (e, digit_prints (byte / 16 % 16) (omega arith), digit_prints (byte % 16) (omega arith))) (either (eqb byte 0x5C))
byte_prints (suc more) byte p =
    let q = p (omega arith) in
    rw (eqb-suc-zero more, le-leb 0x20 byte q.low, ne_eqb byte 0x7F q.no_delete)

prints_on : (left : ℕ) (name : List ℕ) → PlainFront left name → printing (shown_on left name) ≡ true
unfolding shown_on printing
prints_on left [] f = refl
prints_on left (byte ∷ rest) f =
    let stands = standing_on left (byte ∷ rest) in
    let front = standing_plain left (byte ∷ rest) f in
    printing_both (shown_byte stands byte) (shown_on (stands - 1) rest)
    ∙ rw (byte_prints stands byte (front 0), prints_on (stands - 1) rest (rest_plain stands byte rest front))

-- NO BYTE OF THE TEXT IS BELOW 20h OR 7Fh
pub text_prints : (name : List ℕ) → printing (shown_name name) ≡ true
text_prints name = prints_on 0 name (λ k h. absurd (omega arith))
