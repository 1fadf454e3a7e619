-- Words that keep their mask because of what else they are: multiples of four, and with them the registers that are known.
-- Assumes nothing.
use Prim.Native.Nat.{ℕ, ◌%◌, ◌^◌, ◌<◌}
use native.Mathlib.Omega.{arith}
use mathlib.Core.Path.{◌≡◌, refl, ◌∙◌}
use mathlib.Core.Bool.{Bool, true, false, not, ◌&&◌}
use mathlib.Core.List.{List, [], ◌∷◌}
use mathlib.Core.Logic.{⊎_elim}
use lib.Bits.{and_high}
use lib.Dec.{eqb, leb, ltb}
use borrow.Author.Tests.{eqb-true, ltb-true, leb-true, eq-eqb, not-false}
use Rattle.rules.specs.Words.{some, allowed}
use Rattle.rules.specs.Formats.{registers, between, known_register}
use Rattle.rules.proofs.Searching.{never_both, some_left, some_right, or_cases, and_left, and_right}

-- a multiple of four has neither of bits 1:0
pub low_kept : (x : ℕ) → x % 4 ≡ 0 → x < 2 ^ 32 → allowed x 0xFFFFFFFC ≡ true
unfolding allowed
low_kept x e h = eq-eqb _ _ (and_high x 30 2 ∙ omega arith)

register_kept : (x : ℕ) → x % 4 ≡ 0 → x < 2 ^ 23 → allowed x 0x007FFFFC ≡ true
unfolding allowed
register_kept x e h = eq-eqb _ _ (and_high x 21 2 ∙ omega arith)

-- what holds of all that a list has holds of one that it has
of_listed : (p : ℕ → Bool) (x : ℕ) (l : List ℕ) → some (λ k. not (p k)) l ≡ false → some (eqb x) l ≡ true → p x ≡ true
unfolding some
of_listed p x [] t e = absurd (never_both e refl)
of_listed p x (k ∷ l) t e =
    ⊎_elim (λ q. rw (eqb-true x k q) (not-false (p k) (some_left (not (p k)) _ t))) (of_listed p x l (some_right (not (p k)) _ t))
    (or_cases (eqb x k) _ e)

-- all that are known are multiples of four, and small
abbrev small_fours : ℕ → Bool
small_fours x = eqb (x % 4) 0 && ltb x (2 ^ 23)

pub known_kept : (x : ℕ) → known_register x ≡ true → allowed x 0x007FFFFC ≡ true
unfolding known_register some
known_kept x e = ⊎_elim of_list of_range (or_cases (some (eqb x) registers) _ e)
  where
    of_list : some (eqb x) registers ≡ true → allowed x 0x007FFFFC ≡ true
    of_list q =
        let s = of_listed small_fours x registers refl q in
        register_kept x (eqb-true _ _ (and_left (eqb (x % 4) 0) _ s)) (ltb-true _ _ (and_right (eqb (x % 4) 0) _ s))

    of_range : (eqb (x % 4) 0 && between 0x2600 0x267C x) ≡ true → allowed x 0x007FFFFC ≡ true
    of_range q =
        let most = leb-true x 0x267C (and_right (leb 0x2600 x) (leb x 0x267C) (and_right (eqb (x % 4) 0) (between 0x2600 0x267C x) q)) in
        register_kept x (eqb-true _ _ (and_left (eqb (x % 4) 0) _ q)) (omega arith)
