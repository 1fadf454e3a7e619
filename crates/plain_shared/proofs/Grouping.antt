-- Laws of a loop over whole groups, for any size, any test, and both kinds of answer: a yes or no, and the first fault's number.
-- Assumes nothing.
use Prim.Native.Nat.{ℕ, zero, suc, ◌+◌, ◌-◌, ◌*◌, ◌/◌, ◌%◌, ◌≤◌, ◌<◌}
use native.Mathlib.Nat.{lt_of_mul-lt-mul_right, mul-le-mul_right, mul-add-mod_self_right, mod_self, div-add-mod', add-zero}
use native.Mathlib.Omega.{arith}
use mathlib.Core.Path.{◌≡◌, refl, sym, ap, ◌∙◌}
use mathlib.Core.Bool.{Bool, true, false}
use mathlib.Core.List.{List}
use mathlib.Core.Logic.{⊎_elim}
use Rattle.rules.specs.declared.Reason.{Reason}
use Rattle.rules.specs.declared.Reason.TheVariants.{BitNotAllowed, ValueBroken, RangeOutside}
use Rattle.rules.specs.declared.Windows.{Windows}
use Rattle.rules.specs.Masks.{bit_wrong}
use Rattle.rules.specs.Values.{value_wrong}
use Rattle.rules.specs.Addresses.{range_wrong}
use Rattle.rules.proofs.Searching.{either}
use Rattle.rules.proofs.Unique.{above_zero}
use Rattle.plain_shared.specs.Plain.{first_coded, first_by, free_from}
use Rattle.plain_shared.proofs.Coding.{is_first, not_first, none_left}

-- an answer about the n dwords from k on: what the first of them say, unless they pass
pub record InOrder {A : Type 0} (pass : A) (said : ℕ → ℕ → A) : Type 0 where
  pub of_none : (k : ℕ) → said k 0 ≡ pass
  pub behind : (k m n : ℕ) → said k m ≡ pass → said k (m + n) ≡ said (k + m) n
  pub ahead : (k m n : ℕ) → (said k m ≡ pass → ⊥) → said k (m + n) ≡ said k m

-- such an answer, of dwords and of those behind them, from the answers of the two parts
module _ {A : Type 0} {pass : A} {said : ℕ → ℕ → A} (o : InOrder pass said) (k m n : ℕ) {x : A} (e : x ≡ said k m) where
  pub former_says : (x ≡ pass → ⊥) → x ≡ said k (m + n)
  former_says stops = e ∙ sym (o.ahead k m n (λ z. stops (e ∙ z)))

  pub latter_says : x ≡ pass → {y : A} → y ≡ said (k + m) n → y ≡ said k (m + n)
  latter_says z f = f ∙ sym (o.behind k m n (sym e ∙ z))

one_more : (m n : ℕ) → suc m + n ≡ suc (m + n)
one_more m n = omega arith

next_one : (k m : ℕ) → k + 1 + m ≡ k + suc m
next_one k m = omega arith

-- the number of the first fault
module _ (reason : Reason) (bad : ℕ → Bool) where
  first_behind : (k m n : ℕ) → first_coded reason bad k m ≡ 0 → first_coded reason bad k (m + n) ≡ first_coded reason bad (k + m) n
  first_behind k zero n e =
      let p : 0 + n ≡ n = omega arith in
      let q : k + 0 ≡ k = omega arith in
      rw (p, q)
  first_behind k (suc m) n e =
      ⊎_elim (λ p. absurd (let q = sym (is_first reason bad k m p) ∙ e in omega (arith, above_zero reason)))
      (λ p.
      ap (first_coded reason bad k) (one_more m n)
      ∙ not_first reason bad k (m + n) p
      ∙ first_behind (k + 1) m n (sym (not_first reason bad k m p) ∙ e)
      ∙ ap (λ (i : ℕ). first_coded reason bad i n) (next_one k m)) (either (bad k))

  first_ahead : (k m n : ℕ) → (first_coded reason bad k m ≡ 0 → ⊥) → first_coded reason bad k (m + n) ≡ first_coded reason bad k m
  first_ahead k zero n e = absurd (e (none_left reason bad k))
  first_ahead k (suc m) n e =
      ap (first_coded reason bad k) (one_more m n)
      ∙ ⊎_elim (λ p. is_first reason bad k (m + n) p ∙ sym (is_first reason bad k m p))
      (λ p.
      not_first reason bad k (m + n) p
      ∙ first_ahead (k + 1) m n (λ z. e (not_first reason bad k m p ∙ z))
      ∙ sym (not_first reason bad k m p)) (either (bad k))

  pub first_in_order : InOrder 0 (first_coded reason bad)
  first_in_order = record { of_none = none_left reason bad; behind = first_behind; ahead = first_ahead }

-- the same by the check's reason: 10, 12, and 13 for any other
pub by_reason : (w : Windows) (r : ℕ) (d : List ℕ) (reason : Reason) → InOrder 0 (first_by w r d reason)
unfolding first_by
by_reason w r d BitNotAllowed = first_in_order BitNotAllowed (bit_wrong r d)
by_reason w r d ValueBroken = first_in_order ValueBroken (value_wrong r d)
by_reason w r d other = first_in_order RangeOutside (range_wrong w r d)

-- a yes or no
module _ (bad : ℕ → Bool) where
  free_passes : (k n : ℕ) → bad k ≡ false → free_from bad k (suc n) ≡ free_from bad (k + 1) n
  unfolding free_from
  free_passes k n e = rw e

  free_stops : (k n : ℕ) → bad k ≡ true → free_from bad k (suc n) ≡ false
  unfolding free_from
  free_stops k n e = rw e

  free_behind : (k m n : ℕ) → free_from bad k m ≡ true → free_from bad k (m + n) ≡ free_from bad (k + m) n
  free_behind k zero n e =
      let p : 0 + n ≡ n = omega arith in
      let q : k + 0 ≡ k = omega arith in
      rw (p, q)
  free_behind k (suc m) n e =
      ap (free_from bad k) (one_more m n)
      ∙ ⊎_elim (λ p. absurd (let z : ◌≡◌ {A = Bool} true false = sym e
      ∙ free_stops k m p in let y : ◌≡◌ {A = ℕ} 0 1 = cc in omega arith))
      (λ p.
      free_passes k (m + n) p
      ∙ free_behind (k + 1) m n (sym (free_passes k m p) ∙ e)
      ∙ ap (λ (i : ℕ). free_from bad i n) (next_one k m)) (either (bad k))

  free_ahead : (k m n : ℕ) → (free_from bad k m ≡ true → ⊥) → free_from bad k (m + n) ≡ free_from bad k m
  unfolding free_from
  free_ahead k zero n e = absurd (e refl)
  free_ahead k (suc m) n e =
      ap (free_from bad k) (one_more m n)
      ∙ ⊎_elim (λ p. free_stops k (m + n) p ∙ sym (free_stops k m p))
      (λ p.
      free_passes k (m + n) p
      ∙ free_ahead (k + 1) m n (λ z. e (free_passes k m p ∙ z))
      ∙ sym (free_passes k m p)) (either (bad k))

  of_none_free : (k : ℕ) → free_from bad k 0 ≡ true
  unfolding free_from
  of_none_free k = refl

  pub free_in_order : InOrder true (free_from bad)
  free_in_order = record { of_none = of_none_free; behind = free_behind; ahead = free_ahead }

whole : (size n : ℕ) → (n - 1) % size ≡ 0 → (n - 1) / size * size ≡ n - 1
whole size n g = sym (add-zero _) ∙ ap (λ (r : ℕ). (n - 1) / size * size + r) (sym g) ∙ div-add-mod' (n - 1) size

-- a group that starts before the end of whole groups is whole
whole_group : (size k n : ℕ) → 1 ≤ k → (k - 1) % size ≡ 0 → (n - 1) % size ≡ 0 → k < n → k + size ≤ n
whole_group size k n s g h l =
    let a = whole size k g in
    let b = whole size n h in
    let below : (k - 1) / size < (n - 1) / size = lt_of_mul-lt-mul_right size (omega (arith, a, b)) in
    let up : ((k - 1) / size + 1) * size ≤ (n - 1) / size * size = mul-le-mul_right size (omega arith) in
    let more : ((k - 1) / size + 1) * size ≡ (k - 1) / size * size + size = omega arith in
    omega (arith, a, b, up, more)

next_start : (size k : ℕ) → 1 ≤ k → (k - 1) % size ≡ 0 → (k + size - 1) % size ≡ 0
next_start size k s g =
    let e : k + size - 1 ≡ (k - 1) / size * size + size = omega (arith, whole size k g) in
    rw (e, mul-add-mod_self_right ((k - 1) / size) size size, mod_self)

-- a loop over the groups up to n stands at k: a group starts there, or the end is reached, and the dwords from there on decide
pub record AtGroup {A : Type 0} (said : ℕ → ℕ → A) (size n k : ℕ) : Type 0 where
  pub from : 1 ≤ k
  pub within : k ≤ n
  pub start : (k - 1) % size ≡ 0
  pub rest : said 1 (n - 1) ≡ said k (n - k)

-- a whole group stands there
pub record Turn {A : Type 0} (said : ℕ → ℕ → A) (size n k : ℕ) : Type 0 where
  pub at : AtGroup said size n k
  pub there : (1 ≤ k) × (k + size ≤ n) × ((k - 1) % size ≡ 0)

pub turn_at : {A : Type 0} {said : ℕ → ℕ → A} {size n k : ℕ} → AtGroup said size n k → (n - 1) % size ≡ 0 → k < n → Turn said size n k
turn_at {size = size} {n} {k} a g l = record { at = a; there = (a.from, whole_group size k n a.from a.start g l, a.start) }

module _ {A : Type 0} {said : ℕ → ℕ → A} {size n k : ℕ} {pass : A} (o : InOrder pass said) where
  -- the group passes, or it does not
  module _ (t : Turn said size n k) {x : A} (e : x ≡ said k size) where
    split : said 1 (n - 1) ≡ said k (size + (n - (k + size)))
    split =
        let fits = t.there.1 in
        let p : n - k ≡ size + (n - (k + size)) = omega arith in
        t.at.rest ∙ ap (said k) p

    pub goes_on : x ≡ pass → AtGroup said size n (k + size)
    goes_on z = record {
      from = omega (arith, t.at.from);
      within = t.there.1;
      start = next_start size k t.at.from t.at.start;
      rest = split ∙ o.behind k size (n - (k + size)) (sym e ∙ z);
    }

    pub stops : (x ≡ pass → ⊥) → x ≡ said 1 (n - 1)
    stops m = e ∙ sym (split ∙ o.ahead k size (n - (k + size)) (λ z. m (e ∙ z)))

  -- or there is none left
  pub all_passed : AtGroup said size n k → n ≤ k → pass ≡ said 1 (n - 1)
  all_passed a h = let p : n - k ≡ 0 = omega arith in sym (a.rest ∙ ap (said k) p ∙ o.of_none k)
