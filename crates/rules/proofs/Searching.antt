-- What the searches of specs/Words find: the first place that a test finds, or that it finds none.
-- Assumes nothing.
use Rattle.std.specs.Prelude.{Some, None}
use Prim.Native.Nat.{ℕ, zero, suc, ◌+◌, ◌≤◌, ◌<◌}
use native.Mathlib.Omega.{arith}
use native.Mathlib.Nat.{eq-or-lt_of_le}
use mathlib.Core.Path.{◌≡◌, refl, sym, ap, ◌∙◌}
use mathlib.Core.Bool.{Bool, true, false, ◌||◌, ◌&&◌}
use mathlib.Core.Logic.{◌⊎◌, inl, inr, ⊎_elim}
use Rattle.rules.specs.Words.{first_from}

-- a test's two cases, with the equation
pub either : (b : Bool) → (b ≡ true) ⊎ (b ≡ false)
either true = inl refl
either false = inr refl

pub never_both : {b : Bool} → b ≡ true → b ≡ false → ⊥
never_both p q = let z : ◌≡◌ {A = ℕ} 0 1 = cc in omega arith

-- a first place: it is one of the n from k on, the test finds it, and finds none before it
pub record FirstAt (bad : ℕ → Bool) (k n i : ℕ) : Type 0 where
  pub from : k ≤ i
  pub below : i < k + n
  pub found : bad i ≡ true
  pub before : (j : ℕ) → k ≤ j → j < i → bad j ≡ false

pub search_passes : (bad : ℕ → Bool) (k n : ℕ) → bad k ≡ false → first_from bad k (suc n) ≡ first_from bad (k + 1) n
unfolding first_from
search_passes bad k n e = rw e

pub search_stops : (bad : ℕ → Bool) (k n : ℕ) → bad k ≡ true → first_from bad k (suc n) ≡ Some k
unfolding first_from
search_stops bad k n e = rw e

unlike : {k : ℕ} → Some k ≡ None → ⊥
unlike e = let z : ◌≡◌ {A = ℕ} 0 1 = cc in omega arith

same_place : {k i : ℕ} → Some k ≡ Some i → k ≡ i
same_place e = cc

-- a search that finds nothing finds nothing at any place
pub none_found : (bad : ℕ → Bool) (k n : ℕ) → first_from bad k n ≡ None → (i : ℕ) → k ≤ i → i < k + n → bad i ≡ false
none_found bad k zero e i h l = absurd (omega arith)
none_found bad k (suc n) e i h l =
    ⊎_elim (λ p. absurd (unlike (sym (search_stops bad k n p) ∙ e)))
    (λ p.
    ⊎_elim (λ q. ap bad (sym q) ∙ p)
    (λ m. none_found bad (k + 1) n (sym (search_passes bad k n p) ∙ e) i (omega arith) (omega arith)) (eq-or-lt_of_le h)) (either (bad k))

-- and a search that finds a place finds the first
pub first_found : (bad : ℕ → Bool) (k n : ℕ) {i : ℕ} → first_from bad k n ≡ Some i → FirstAt bad k n i
unfolding first_from
first_found bad k zero e = absurd (unlike (sym e))
first_found bad k (suc n) {i} e =
    ⊎_elim
    (λ p.
    let q : k ≡ i = same_place (sym (search_stops bad k n p) ∙ e) in
    record { from = omega arith; below = omega arith; found = ap bad (sym q) ∙ p; before = λ j a b. absurd (omega arith) })
    (λ p.
    let r = first_found bad (k + 1) n (sym (search_passes bad k n p) ∙ e) in
    record {
      from = omega (arith, r.from);
      below = omega (arith, r.below);
      found = r.found;
      before = λ j a b. ⊎_elim (λ q. ap bad (sym q) ∙ p) (λ m. r.before j (omega arith) b) (eq-or-lt_of_le a);
    }) (either (bad k))

-- and where the test finds no place of them, the search finds nothing
pub finds_none : (bad : ℕ → Bool) (k n : ℕ) → ((i : ℕ) → k ≤ i → i < k + n → bad i ≡ false) → first_from bad k n ≡ None
unfolding first_from
finds_none bad k zero h = refl
finds_none bad k (suc n) h =
    search_passes bad k n (h k (omega arith) (omega arith)) ∙ finds_none bad (k + 1) n (λ i a b. h i (omega arith) (omega arith))

-- `some` finds an element, or passes all of them
pub some_left : (a b : Bool) → (a || b) ≡ false → a ≡ false
some_left true b e = e
some_left false b e = refl

pub some_right : (a b : Bool) → (a || b) ≡ false → b ≡ false
some_right true b e = absurd (never_both refl e)
some_right false b e = e

pub or_cases : (a b : Bool) → (a || b) ≡ true → (a ≡ true) ⊎ (b ≡ true)
or_cases true b e = inl refl
or_cases false b e = inr e

pub and_left : (a b : Bool) → (a && b) ≡ true → a ≡ true
and_left true b e = refl
and_left false b e = e

pub and_right : (a b : Bool) → (a && b) ≡ true → b ≡ true
and_right true b e = e
and_right false b e = absurd (never_both e refl)
