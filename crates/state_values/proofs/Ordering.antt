-- Single-precision values are in the order of their bits, taken as sign and magnitude, with -0 equal to +0.
-- Assumes nothing.
use Prim.Native.Nat.{ℕ, zero, suc, ◌+◌, ◌-◌, ◌*◌, ◌/◌, ◌%◌, ◌^◌, ◌≤◌, ◌<◌}
use mathlib.Core.Path.{◌≡◌, refl, sym, ap, ◌∙◌, subst}
use mathlib.Core.Bool.{Bool, true, false, not, ◌&&◌, ◌||◌, cond, and-false}
use mathlib.Core.Logic.{inl, inr}
use native.Mathlib.Nat.{le_of_lt, eq-or-lt_of_le, lt_of_lt_of_le}
use native.Mathlib.Nat.{zero-add, zero-mul, mul-one, mul-pos, mul-lt-mul_of_pos_right}
use native.Mathlib.Omega.{arith}
use borrow.Author.Tests.{lt-ltb, le-ltb, le-leb, lt-leb, eq-eqb, ne_eqb, leb-true, leb-false, eqb-true, eqb-false, not-false}
use lib.Dec.{leb, ltb, eqb, leb-suc-zero, eqb-zero-suc, eqb-suc-zero}
use lib.IntN.{ℤ}
use lib.Pow.{pow_pos, pow_mono}
use lib.Ieee.{Float, nan, inf, fin, binary32, up, down, below, level, le, odd, of_fields, of_bits, nan_bits}
use lib.Ieee.Exact.{HasValue, odd_sign}
use lib.Ieee.Fits.{down_pos}
use Rattle.rules.specs.Structures.{single, is_nan, at_most}

-- a test that says of two numbers what `leb` says
as_leb : (t : Bool) (a b : ℕ) → (t ≡ true → a ≤ b) → (t ≡ false → b < a) → t ≡ leb a b
as_leb true a b h k = sym (le-leb a b (h refl))
as_leb false a b h k = sym (lt-leb a b (k refl))

-- ±a is at most ±b: by their magnitudes, and by their signs, true for minus
abbrev signed : Bool → ℕ → Bool → ℕ → Bool
signed false a false b = leb a b
signed false a true b = leb a 0 && leb b 0
signed true a false b = true
signed true a true b = leb b a

-- ---- that is what the library's two tests say together: ±a is below ±b, or level with it
below_or_level : (a b : ℕ) {e : Bool} → (a ≡ b → e ≡ true) → ((a ≡ b → ⊥) → e ≡ false) → (ltb a b || (e && true)) ≡ leb a b
below_or_level a b {e} same apart = go (leb a b) refl
  where
    go : (t : Bool) → leb a b ≡ t → (ltb a b || (e && true)) ≡ t
    go true h =
        elim (eq-or-lt_of_le (leb-true a b h)) [ inl q ↦ simp (le-ltb a b (omega arith), same q) | inr l ↦ simp (lt-ltb a b l) ]
    go false h = let l = leb-false a b h in simp (le-ltb a b (omega arith), apart (omega arith))

level_at_zero : (a b : ℕ) → (eqb a b && eqb a 0) ≡ (leb a 0 && leb b 0)
level_at_zero zero zero = refl
level_at_zero zero (suc b) = simp (eqb-zero-suc, leb-suc-zero)
level_at_zero (suc a) b = simp (eqb-suc-zero, leb-suc-zero, and-false)

minus_below_plus : (a b : ℕ) → (ltb 0 (a + b) || (eqb a b && eqb a 0)) ≡ true
minus_below_plus zero zero = refl
minus_below_plus zero (suc b) = simp (lt-ltb 0 (0 + suc b) (omega arith))
minus_below_plus (suc a) b = simp (lt-ltb 0 (suc a + b) (omega arith))

together : (s t : Bool) (a b : ℕ) → (below s a t b || level s a t b) ≡ signed s a t b
together false false a b = below_or_level a b (eq-eqb a b) (ne_eqb a b)
together false true a b = level_at_zero a b
together true false a b = minus_below_plus a b
together true true a b = below_or_level b a (λ q. eq-eqb a b (sym q)) (λ n. ne_eqb a b (λ q. n (sym q)))

-- ---- magnitudes may be exchanged for others that are in the same order
module _ (f : ℕ → ℕ) (rises : (a b : ℕ) → a < b → f a < f b) (from_zero : f 0 ≡ 0) where
  same_order : (a b : ℕ) → leb (f a) (f b) ≡ leb a b
  same_order a b =
      sym (as_leb (leb a b) (f a) (f b)
      (λ e. elim (eq-or-lt_of_le (leb-true a b e)) [ inl q ↦ omega (arith, ap f q) | inr l ↦ omega (arith, rises a b l) ])
      (λ e. rises b a (leb-false a b e)))

  same_zero : (a : ℕ) → leb (f a) 0 ≡ leb a 0
  same_zero a = ap (leb (f a)) (sym from_zero) ∙ same_order a 0

  exchanged : (s t : Bool) (a b : ℕ) → signed s (f a) t (f b) ≡ signed s a t b
  exchanged false false a b = same_order a b
  exchanged false true a b = simp (same_zero a, same_zero b)
  exchanged true false a b = refl
  exchanged true true a b = same_order b a

-- ---- a magnitude's bits are the exponent's field, which counts in steps, and the digits below. They weigh so many smallest values
abbrev step : ℕ
step = 0x800000

abbrev weight_of : ℕ → ℕ → ℕ
weight_of zero t = t
weight_of (suc x) t = (step + t) * 2 ^ x

abbrev weight : ℕ → ℕ
weight r = weight_of (r / step) (r % step)

-- all digits weigh less than the next field
ends_below : (x t : ℕ) → t < step → weight_of x t < step * 2 ^ x
ends_below zero t l = l
ends_below (suc x) t l = omega (arith, mul-lt-mul_of_pos_right l (pow_pos x))

starts_above : (x y t : ℕ) → x < y → step * 2 ^ x ≤ weight_of y t
starts_above x zero t l = absurd (omega arith)
starts_above x (suc y) t l = let m : 2 ^ x ≤ 2 ^ y = pow_mono (omega arith) in omega arith

more_digits : (x t u : ℕ) → t < u → weight_of x t < weight_of x u
more_digits zero t u l = l
more_digits (suc x) t u l = mul-lt-mul_of_pos_right (omega arith) (pow_pos x)

heavier : (a b : ℕ) → a < b → weight a < weight b
heavier a b l =
    let k : a / step ≤ b / step = omega arith in
    elim (eq-or-lt_of_le k) [
      | inl q ↦ rw q (more_digits (b / step) (a % step) (b % step) (omega arith))
      | inr m ↦ lt_of_lt_of_le (ends_below (a / step) (a % step) (omega arith)) (starts_above (a / step) (b / step) (b % step) m)
    ]

-- ---- finite values m * 2 ^ e that are weight / unit are in the order of their weights. The library compares them over the product of both
-- divisors, so each as its weight times that product
module _ (s t : Bool) (m n a b unit : ℕ) (e d : ℤ) (some : 0 < unit) where
  finite_order : m * up e * unit ≡ weight a * down e → n * up d * unit ≡ weight b * down d
      → le (fin s m e) (fin t n d) ≡ signed s a t b
  unfolding le
  finite_order p q =
      let x = m * up e * down d in
      let y = n * up d * down e in
      let k = down e * down d in
      let xk : x * unit ≡ weight a * k = omega (arith, ap (λ (w : ℕ). w * down d) p) in
      let yk : y * unit ≡ weight b * k = omega (arith, ap (λ (w : ℕ). w * down e) q) in
      together s t x y
      ∙ sym (exchanged (λ r. r * unit) (λ v w l. mul-lt-mul_of_pos_right l some) (zero-mul unit) s t x y)
      ∙ rw (xk, yk)
      (exchanged (λ r. weight r * k) (λ v w l. mul-lt-mul_of_pos_right (heavier v w l) (mul-pos (down_pos e) (down_pos d)))
      (zero-mul k) s t a b)

-- ---- what a sign and a magnitude's bits are read as: the infinity, or below it as many smallest values as they weigh
abbrev infinite : ℕ
infinite = 0x7F800000

data Reads : Float → Bool → ℕ → Type 0 where
  unbounded : {s : Bool} → Reads (inf s) s infinite
  bounded : {s : Bool} {m : ℕ} {e : ℤ} {r : ℕ} → m * up e * 2 ^ 149 ≡ weight r * down e → r < infinite → Reads (fin s m e) s r

in_order_lem : (s t : Bool) {x y : Float} {a b : ℕ} → Reads x s a → Reads y t b → le x y ≡ signed s a t b
unfolding le
in_order_lem s t (bounded {e = e} p l) (bounded {e = d} q k) = finite_order s t _ _ _ _ (2 ^ 149) e d (pow_pos 149) p q
in_order_lem false false (bounded p l) unbounded = sym (le-leb _ infinite (le_of_lt l))
in_order_lem false true (bounded p l) unbounded = simp and-false
in_order_lem true false (bounded p l) unbounded = refl
in_order_lem true true (bounded p l) unbounded = sym (lt-leb infinite _ l)
in_order_lem false false unbounded (bounded q k) = sym (lt-leb infinite _ k)
in_order_lem false true unbounded (bounded q k) = refl
in_order_lem true false unbounded (bounded q k) = refl
in_order_lem true true unbounded (bounded q k) = sym (le-leb _ infinite (le_of_lt k))
in_order_lem false false unbounded unbounded = refl
in_order_lem false true unbounded unbounded = refl
in_order_lem true false unbounded unbounded = refl
in_order_lem true true unbounded unbounded = refl

of_value : (v : Float) (s : Bool) (r : ℕ) → r < infinite → HasValue v s (weight r) (2 ^ 149) → Reads v s r
of_value nan s r l v = elim v [ ]
of_value (inf _) s r l v = elim v [ ]
of_value (fin t m e) s r l v = subst (λ (k : Bool). Reads (fin t m e) k r) v.0 (bounded v.1 l)

-- the sign's bit
abbrev sign : ℕ
sign = 0x80000000

of_fields_lem : (s : Bool) (x t r : ℕ) → r / step ≡ x → r % step ≡ t → r < sign → (eqb x 255 && not (eqb t 0)) ≡ false
    → Reads (of_fields binary32 s x t) s r
unfolding of_fields
of_fields_lem s zero t r p q l n = of_value _ s r (omega arith) (rw (p, q) (rw mul-one at (odd_sign 24 s t 0 149)))
of_fields_lem s (suc x) t r p q l n = go (eqb (suc x) 255) refl
  where
    go : (b : Bool) → eqb (suc x) 255 ≡ b → Reads (cond b (cond (eqb t 0) (inf s) nan) (odd 24 s (step + t) x 149)) s r
    go true e =
        let z : eqb t 0 ≡ true = not-false (eqb t 0) (rw e at n) in
        let i : infinite ≡ r = omega (arith, eqb-true) in
        rw z (subst (Reads (inf s) s) i unbounded)
    go false e = of_value _ s r (omega (arith, eqb-false (suc x) 255 e)) (rw (p, q) (odd_sign 24 s (step + t) x 149))

of_bits_lem : (w : ℕ) → is_nan w ≡ false → Reads (single w) (leb sign w) (w % sign)
unfolding of_bits nan_bits
of_bits_lem w n = of_fields_lem _ (w % sign / step) (w % step) (w % sign) refl (omega arith) (omega arith) n

-- ---- so values are in the order of their ranks: 2 ^ 31 up or down by the magnitude
abbrev rank_of : Bool → ℕ → ℕ
rank_of s w = cond s (2 ^ 32 - w) (sign + w)

none_of_both : (a b : ℕ) → leb (a + b) 0 ≡ (leb a 0 && leb b 0)
none_of_both zero b = rw zero-add
none_of_both (suc a) b = simp (lt-leb (suc a + b) 0 (omega arith), leb-suc-zero)

module _ (v w : ℕ) (v32 : v < 2 ^ 32) (w32 : w < 2 ^ 32) where
  by_sign : (s t : Bool) → leb sign v ≡ s → leb sign w ≡ t → leb (rank_of s v) (rank_of t w) ≡ signed s (v % sign) t (w % sign)
  by_sign false false p q =
      as_leb _ (v % sign) (w % sign) (λ e. omega (arith, leb-true, leb-false)) (λ e. omega (arith, leb-true, leb-false))
  by_sign false true p q =
      as_leb _ (v % sign + w % sign) 0 (λ e. omega (arith, leb-true, leb-false)) (λ e. omega (arith, leb-true, leb-false))
      ∙ none_of_both (v % sign) (w % sign)
  by_sign true false p q = le-leb (2 ^ 32 - v) (sign + w) (omega (arith, leb-true, leb-false))
  by_sign true true p q =
      as_leb _ (w % sign) (v % sign) (λ e. omega (arith, leb-true, leb-false)) (λ e. omega (arith, leb-true, leb-false))

  pub in_rank : is_nan v ≡ false → is_nan w ≡ false → leb (rank_of (leb sign v) v) (rank_of (leb sign w) w) ≡ at_most v w
  in_rank n k = by_sign _ _ refl refl ∙ sym (in_order_lem _ _ (of_bits_lem v n) (of_bits_lem w k))

at_most_itself : (v : ℕ) → v < 2 ^ 32 → is_nan v ≡ false → at_most v v ≡ true
at_most_itself v v32 n = let r : ℕ = rank_of (leb sign v) v in sym (in_rank v v v32 v32 n n) ∙ le-leb r r (omega arith)

-- and bits that are the same need no rank
pub same_bits : (v w : ℕ) → w < 2 ^ 32 → is_nan w ≡ false → v ≡ w → eqb v w ≡ at_most v w
same_bits v w w32 n e = rw e (eq-eqb w w refl ∙ sym (at_most_itself w w32 n))
