-- Canonical addresses (request 3): which high dwords they have, and that each number below 2^48 is the address of exactly one canonical pair of dwords.
-- Assumes nothing.
use Prim.Native.Nat.{ℕ, ◌+◌, ◌*◌, ◌/◌, ◌%◌, ◌^◌, ◌≤◌, ◌<◌}
use native.Mathlib.Nat.{div-div-eq-div-mul, mod-eq_of_lt}
use native.Mathlib.Omega.{arith}
use mathlib.Core.Path.{◌≡◌, refl, sym, ◌∙◌}
use mathlib.Core.Bool.{Bool, true, false, cond, ◌||◌}
use mathlib.Core.Logic.{◌⊎◌, inl, inr}
use lib.Dec.{leb, eqb}
use borrow.Author.Tests.{eqb-true, eqb-false, ne_eqb, le-leb, lt-leb, leb-true, leb-false}
use Rattle.rules.specs.Words.{bit, field}
use Rattle.rules.specs.Uses.{pair_address, canonical}

-- a high dword of at most 7FFFh, or of at least FFFF8000h
pub canonical_ranges : (high : ℕ) → high < 2 ^ 32 → canonical high ≡ (leb high 0x7FFF || leb 0xFFFF8000 high)
unfolding canonical
canonical_ranges high h = by (bit high 15) refl (leb high 0x7FFF) refl (leb 0xFFFF8000 high) refl
  where
    small : high < 4294967296
    small = h

    set : bit high 15 ≡ true → high / 32768 % 2 ≡ 1
    set b = eqb-true (high / 32768 % 2) 1 b

    clear : bit high 15 ≡ false → high / 32768 % 2 ≡ 1 → ⊥
    clear b = eqb-false (high / 32768 % 2) 1 b

    kept : high / 65536 % 65536 ≡ high / 65536
    kept = mod-eq_of_lt (omega (arith, small))

    halved : high / 32768 / 2 ≡ high / 65536
    halved = div-div-eq-div-mul high 32768 2

    by : (b : Bool) → bit high 15 ≡ b → (l : Bool) → leb high 0x7FFF ≡ l → (u : Bool) → leb 0xFFFF8000 high ≡ u
        → eqb (field high 31 16) (cond b 0xFFFF 0) ≡ (l || u)
    by true b true l u t = absurd (omega (arith, leb-true high 0x7FFF l, set b))
    by true b false l true t =
        let q : high / 65536 ≡ 65535 = omega (arith, leb-true 0xFFFF8000 high t, small) in
        rw q
    by true b false l false t = ne_eqb (high / 65536 % 65536) 65535 (λ e. omega (arith, leb-false 0xFFFF8000 high t, set b, halved, kept, e))
    by false b true l u t =
        let q : high / 65536 ≡ 0 = omega (arith, leb-true high 0x7FFF l) in
        rw q
    by false b false l true t = absurd (clear b (omega (arith, leb-true 0xFFFF8000 high t, small)))
    by false b false l false t = ne_eqb (high / 65536 % 65536) 0 (λ e. clear b (omega (arith, leb-false high 0x7FFF l, halved, kept, e)))

-- two dwords that are the canonical form of an address
pub record CanonicalPair (address low high : ℕ) : Type 0 where
  pub low_dword : low < 2 ^ 32
  pub high_dword_lem : high < 2 ^ 32
  pub repeats : canonical high ≡ true
  pub makes : pair_address low high ≡ address

-- what the ranges leave of a canonical high dword
either : (high : ℕ) → high < 2 ^ 32 → canonical high ≡ true → (high ≤ 0x7FFF) ⊎ (0xFFFF8000 ≤ high)
either high h e = by (leb high 0x7FFF) refl (sym (canonical_ranges high h) ∙ e)
  where
    by : (l : Bool) → leb high 0x7FFF ≡ l → (l || leb 0xFFFF8000 high) ≡ true → (high ≤ 0x7FFF) ⊎ (0xFFFF8000 ≤ high)
    by true l u = inl (leb-true high 0x7FFF l)
    by false l u = inr (leb-true 0xFFFF8000 high u)

-- EACH NUMBER BELOW 2^48 IS THE ADDRESS OF EXACTLY ONE CANONICAL PAIR OF DWORDS: there is one,
pub a_canonical_pair : (address : ℕ) → address < 2 ^ 48 → (low : ℕ) × (high : ℕ) × CanonicalPair address low high
a_canonical_pair address h = by (leb (address / 4294967296) 0x7FFF) refl
  where
    small : address < 281474976710656
    small = h

    by : (l : Bool) → leb (address / 4294967296) 0x7FFF ≡ l → (low : ℕ) × (high : ℕ) × CanonicalPair address low high
    by true l = (
      address % 4294967296,
      address / 4294967296,
      record {
        low_dword = omega arith;
        high_dword_lem = omega (arith, small);
        repeats = canonical_ranges (address / 4294967296) (omega (arith, small)) ∙ rw l;
        makes = omega (arith, small);
      },
    )
    by false l = (
      address % 4294967296,
      0xFFFF0000 + address / 4294967296,
      record {
        low_dword = omega arith;
        high_dword_lem = omega (arith, small);
        repeats =
            canonical_ranges (0xFFFF0000 + address / 4294967296) (omega (arith, small))
            ∙ rw (lt-leb (0xFFFF0000 + address / 4294967296) 0x7FFF (omega arith), le-leb 0xFFFF8000 (0xFFFF0000 + address / 4294967296) (omega (arith, leb-false (address / 4294967296) 0x7FFF l)));
        makes = omega (arith, small);
      },
    )

-- and no other
pub one_canonical_pair : {address low high low' high' : ℕ} → CanonicalPair address low high → CanonicalPair address low' high' → (low ≡ low') × (high ≡ high')
one_canonical_pair {address} {low} {high} {low'} {high'} p q =
    by (either high p.high_dword_lem p.repeats) (either high' q.high_dword_lem q.repeats)
  where
    l : low < 4294967296
    l = p.low_dword

    l' : low' < 4294967296
    l' = q.low_dword

    h : high < 4294967296
    h = p.high_dword_lem

    h' : high' < 4294967296
    h' = q.high_dword_lem

    same : low + 4294967296 * (high % 65536) ≡ low' + 4294967296 * (high' % 65536)
    same = p.makes ∙ sym q.makes

    by : (high ≤ 0x7FFF) ⊎ (0xFFFF8000 ≤ high) → (high' ≤ 0x7FFF) ⊎ (0xFFFF8000 ≤ high') → (low ≡ low') × (high ≡ high')
    by (inl a) (inl b) = (omega (arith, l, l', same), omega (arith, l, l', same))
    by (inl a) (inr b) = absurd (omega (arith, l, l', h', same))
    by (inr a) (inl b) = absurd (omega (arith, l, l', h, same))
    by (inr a) (inr b) = (omega (arith, l, l', h, h', same), omega (arith, l, l', h, h', same))
