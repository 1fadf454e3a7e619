-- A buffer filled dword by dword from its first word on.
-- Assumes nothing.
use Prim.Native.Nat.{ℕ, zero, suc, ◌+◌, ◌-◌, ◌*◌, ◌<◌, ◌≤◌}
use native.Mathlib.Nat.{sub-zero, zero-add}
use native.Mathlib.Numerals.{add-one}
use native.Mathlib.Omega.{arith}
use mathlib.Core.Path.{◌≡◌, refl, ap, ◌∙◌}
use mathlib.Core.List.{List}
use lib.ListN.{length, set, length-set}
use lib.Seq.{sets, sets-eq}
use Rattle.rules.specs.File.{word, dwords_from, filled}

pub length_dwords : (file : List ℕ) (at n : ℕ) → length (dwords_from file at n) ≡ n
unfolding dwords_from
length_dwords file at zero = refl
length_dwords file at (suc n) = ap suc (length_dwords file (at + 4) n)

-- the stores that are left, made on what is there, give the whole buffer
pub record Filling (file : List ℕ) (from n : ℕ) (old new : List ℕ) (i : ℕ) : Type 0 where
  pub within : i ≤ n
  pub same : length new ≡ length old
  pub rest : sets new i (dwords_from file (from + 4 * i) (n - i)) ≡ sets old 0 (dwords_from file from n)

module _ {file : List ℕ} {from n : ℕ} {old : List ℕ} where
  pub fill_starts : Filling file from n old old 0
  fill_starts =
      let e : from + 4 * 0 ≡ from = omega arith in
      record { within = omega arith; same = refl; rest = rw (e, sub-zero) }

  pub fill_goes_on : {new : List ℕ} {i w : ℕ} → Filling file from n old new i → i < n → w ≡ word file (from + 4 * i)
      → Filling file from n old (set new i w) (i + 1)
  unfolding dwords_from
  fill_goes_on {new} {i} f h e =
      let left : n - i ≡ suc (n - (i + 1)) = omega arith in
      let next : from + 4 * (i + 1) ≡ from + 4 * i + 4 = omega arith in
      record {
        within = omega arith;
        same = simp length-set f.same;
        rest = rw (e, next, add-one i) (rw (left, add-one i) at f.rest);
      }

  pub fill_ends : {new : List ℕ} {i : ℕ} → Filling file from n old new i → n ≤ i → n ≤ length old
      → new ≡ filled (dwords_from file from n) old
  unfolding dwords_from
  fill_ends {new} {i} f h room =
      let none : n - i ≡ 0 = omega arith in
      rw none at f.rest ∙ sets-eq (dwords_from file from n) old 0 (omega (arith, length_dwords file from n)) ∙ rw zero-add
