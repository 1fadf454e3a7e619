-- Laws of the words of formats: a code's bit in its word.
-- Assumes nothing.
use Prim.Native.Nat.{ℕ, zero, suc, ◌+◌, ◌*◌, ◌/◌, ◌%◌, ◌^◌, ◌≤◌, ◌<◌}
use native.Mathlib.Nat.{div-div-eq-div-mul}
use native.Mathlib.Omega.{arith}
use mathlib.Core.Path.{◌≡◌, refl, sym, ap, ◌∙◌}
use mathlib.Core.Bool.{Bool, true, false, cond, not}
use lib.Bits.{bit_and, and_mask}
use lib.Dec.{eqb}
use Rattle.rules.specs.Formats.{format_bits}
use Rattle.plain_vertex.specs.Codes.{known_from, known_in}

-- a number that is not the least of those that are left is above it
pub above : {n k : ℕ} → k ≤ n → (n ≡ k → ⊥) → k + 1 ≤ n
above l e = omega arith

low_bit : (t : Bool) (n : ℕ) → (cond t 0 1 + 2 * n) % 2 ≡ cond t 0 1
low_bit true n = omega arith
low_bit false n = omega arith

half : (t : Bool) (n : ℕ) → (cond t 0 1 + 2 * n) / 2 ≡ n
half true n = omega arith
half false n = omega arith

bit_from : (c n i : ℕ) → i < n → known_from c n / 2 ^ i % 2 ≡ cond (eqb (format_bits (c + i)) 0) 0 1
unfolding known_from
bit_from c zero i h = absurd (omega arith)
bit_from c (suc n) zero h =
    let p : c + 0 ≡ c = omega arith in
    let q : (cond (eqb (format_bits c) 0) 0 1 + 2 * known_from (c + 1) n) / 1 ≡ cond (eqb (format_bits c) 0) 0 1 + 2 * known_from (c + 1) n = omega arith in
    rw (p, q) (low_bit (eqb (format_bits c) 0) (known_from (c + 1) n))
bit_from c (suc n) (suc i) h =
    let p : c + 1 + i ≡ c + suc i = omega arith in
    let e : 2 ^ suc i ≡ 2 * 2 ^ i = omega arith in
    ap (λ (k : ℕ). k % 2)
    (ap (λ (k : ℕ). (cond (eqb (format_bits c) 0) 0 1 + 2 * known_from (c + 1) n) / k) e
    ∙ sym (div-div-eq-div-mul (cond (eqb (format_bits c) 0) 0 1 + 2 * known_from (c + 1) n) 2 (2 ^ i))
    ∙ ap (λ (k : ℕ). k / 2 ^ i) (half (eqb (format_bits c) 0) (known_from (c + 1) n)))
    ∙ bit_from (c + 1) n i (omega arith)
    ∙ ap (λ (k : ℕ). cond (eqb (format_bits k) 0) 0 1) p

pub bit_known : (code : ℕ) {word : ℕ} → word ≡ known_in (code / 64)
    → eqb (bit_and (word / 2 ^ (code % 64)) 1) 1 ≡ not (eqb (format_bits code) 0)
bit_known code {word} e =
    let p : 64 * (code / 64) + code % 64 ≡ code = omega arith in
    ap (λ (k : ℕ). eqb k 1)
    (and_mask (word / 2 ^ (code % 64)) 1
    ∙ ap (λ (k : ℕ). k / 2 ^ (code % 64) % 2) e
    ∙ bit_from (64 * (code / 64)) 64 (code % 64) (omega arith)
    ∙ ap (λ (k : ℕ). cond (eqb (format_bits k) 0) 0 1) p)
    ∙ as_number (eqb (format_bits code) 0)
  where
    as_number : (t : Bool) → eqb (cond t 0 1) 1 ≡ not t
    as_number true = refl
    as_number false = refl
