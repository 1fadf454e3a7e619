-- The component controls of an element whose word keeps its mask: such a word is four controls of three bits, and nothing else.
-- The test of all four at once is right where it is right for each of these 4,096 words, which antt computes.
-- Assumes nothing.
use Prim.Native.Nat.{ℕ, ◌+◌, ◌*◌, ◌/◌, ◌%◌, ◌^◌, ◌≤◌, ◌<◌}
use native.Mathlib.Nat.{div-div-eq-div-mul}
use native.Mathlib.Omega.{arith}
use mathlib.Core.Path.{◌≡◌, refl, sym, ap, ◌∙◌}
use mathlib.Core.Bool.{Bool, true, false, cond, not, ◌&&◌}
use lib.Bits.{bit_and, bit_xor, and_shr, and_mod, and_le_r}
use lib.Dec.{eqb, leb}
use borrow.Author.Tests.{eqb-true}
use Rattle.rules.specs.Words.{allowed, some}
use Rattle.rules.specs.Values.{components_wrong}
use Rattle.rules.proofs.Tables.{each, at_each}

-- the test of all four at once
unfoldable pub at_once : ℕ → Bool
at_once w =
    cond (eqb (bit_and (bit_xor (w + 0x33330000) (w + 0x77770000)) 0x88880000) 0x88880000) true
    (cond (eqb (bit_and (w + 0x33330000) 0x88880000) 0)
    (leb 0x80000000 (bit_and (w + 0x77770000) 0x88880000)
    && allowed (bit_and (w + 0x77770000) 0x88880000 % 0x80000000) (bit_and (w + 0x77770000) 0x88880000 / 16)) false)

same : Bool → Bool → Bool
same true b = b
same false b = not b

word : ℕ → ℕ → ℕ → ℕ → ℕ
word a b c d = 0x10000000 * a + 0x1000000 * b + 0x100000 * c + 0x10000 * d

test : ℕ → ℕ → ℕ → ℕ → Bool
test a b c d = same (at_once (word a b c d)) (not (components_wrong (word a b c d)))

test_last : ℕ → ℕ → ℕ → Bool
test_last a b c = each (test a b c) 8

test_third : ℕ → ℕ → Bool
test_third a b = each (test_last a b) 8

test_second : ℕ → Bool
test_second a = each (test_third a) 8

tested : each test_second 8 ≡ true
unfolding each same word test test_last test_third test_second at_once allowed some components_wrong
tested = refl

right_of : (a b c d : ℕ) → a < 8 → b < 8 → c < 8 → d < 8 → at_once (word a b c d) ≡ not (components_wrong (word a b c d))
unfolding same test test_last test_third test_second
right_of a b c d k l m n =
    as_said _ _
    (at_each (test a b c) 8 (at_each (test_last a b) 8 (at_each (test_third a) 8 (at_each test_second 8 tested a k) b l) c m) d n)
  where
    as_said : (x y : Bool) → same x y ≡ true → x ≡ y
    as_said true y e = sym e
    as_said false true e = e
    as_said false false e = refl

-- a bit that the mask does not have is clear
bit_off : (w m k : ℕ) → bit_and w m ≡ w → m / 2 ^ k % 2 ^ 1 ≡ 0 → w / 2 ^ k % 2 ^ 1 ≡ 0
bit_off w m k q z =
    let e : w / 2 ^ k % 2 ^ 1 ≡ bit_and (w / 2 ^ k % 2 ^ 1) (m / 2 ^ k % 2 ^ 1) =
    ap (λ (n : ℕ). n / 2 ^ k % 2 ^ 1) (sym q) ∙ ap (λ (n : ℕ). n % 2 ^ 1) (and_shr w m k) ∙ and_mod (w / 2 ^ k) (m / 2 ^ k) 1 in
    omega (arith, e, and_le_r (w / 2 ^ k % 2 ^ 1) (m / 2 ^ k % 2 ^ 1))

half : (x : ℕ) → x / 8 % 2 ≡ 0 → x ≡ 16 * (x / 16) + x % 8
half x z = omega arith

parted : (w n : ℕ) → w / (n * 8) % 2 ≡ 0 → w / n ≡ 16 * (w / (n * 16)) + w / n % 8
parted w n z =
    half (w / n) (ap (λ (i : ℕ). i % 2) (div-div-eq-div-mul w n 8) ∙ z) ∙ ap
    (λ (i : ℕ). 16 * i + w / n % 8) (div-div-eq-div-mul w n 16)

put_together : (w x y z v a b c d : ℕ) → w ≡ 0x10000 * v → v ≡ 16 * z + d → z ≡ 16 * y + c → y ≡ 16 * x + b → x ≡ a
    → w ≡ 0x10000000 * a + 0x1000000 * b + 0x100000 * c + 0x10000 * d
put_together w x y z v a b c d e f g h i = omega arith

remains : (x : ℕ) → x % 8 < 8
remains x = omega arith

module _ (w : ℕ) (e : allowed w 0x77770000 ≡ true) where
  kept : bit_and w 0x77770000 ≡ w
  unfolding allowed
  kept = eqb-true _ _ e

  pub at_most : w ≤ 0x77770000
  at_most = let l = and_le_r w 0x77770000 in omega (arith, l, kept)

  nothing_below : w % 2 ^ 16 ≡ 0
  nothing_below =
      let q : w % 2 ^ 16 ≡ bit_and (w % 2 ^ 16) 0 = ap (λ (n : ℕ). n % 2 ^ 16) (sym kept) ∙ and_mod w 0x77770000 16 in
      omega (arith, q, and_le_r (w % 2 ^ 16) 0)

  as_controls : w ≡ word (w / 0x10000000 % 8) (w / 0x1000000 % 8) (w / 0x100000 % 8) (w / 0x10000 % 8)
  unfolding word
  as_controls =
      let r : w / 0x8000000 % 2 ≡ 0 = bit_off w 0x77770000 27 kept refl in
      let s : w / 0x800000 % 2 ≡ 0 = bit_off w 0x77770000 23 kept refl in
      let t : w / 0x80000 % 2 ≡ 0 = bit_off w 0x77770000 19 kept refl in
      put_together w _ _ _ _ _ _ _ _ (whole w nothing_below) (parted w 0x10000 t) (parted w 0x100000 s) (parted w 0x1000000 r) (own w at_most)
    where
      whole : (w : ℕ) → w % 2 ^ 16 ≡ 0 → w ≡ 0x10000 * (w / 0x10000)
      whole w e = omega arith

      own : (w : ℕ) → w ≤ 0x77770000 → w / 0x10000000 ≡ w / 0x10000000 % 8
      own w l = omega arith

  -- the test is the rule
  pub at_once_lem : at_once w ≡ not (components_wrong w)
  at_once_lem =
      ap at_once as_controls
      ∙ right_of _ _ _ _ (remains _) (remains _) (remains _) (remains _)
      ∙ ap (λ (n : ℕ). not (components_wrong n)) (sym as_controls)
