-- Laws of the search over a command's dwords: what is left of it, and the groups.
-- Assumes nothing.
use Prim.Native.Nat.{ℕ, suc, ◌+◌, ◌-◌, ◌*◌, ◌/◌, ◌%◌, ◌≤◌, ◌<◌}
use native.Mathlib.Nat.{mul-add-mod_self_right, mod-eq_of_lt, mod_self, mod-zero, div-add-mod', add-zero, suc-mul, mul-le-mul_right, lt_of_mul-lt-mul_right}
use native.Mathlib.Omega.{arith}
use mathlib.Core.Path.{◌≡◌, refl, sym, ap, ◌∙◌, subst}
use mathlib.Core.Bool.{Bool, true, false, ◌&&◌}
use mathlib.Core.List.{List}
use mathlib.Core.Logic.{⊎_elim}
use lib.Dec.{eqb, leb}
use borrow.Author.Tests.{eqb-true, ne_eqb, leb-false}
use Rattle.rules.specs.declared.Windows.{Windows}
use Rattle.rules.specs.Words.{in_group, first_from, first_of}
use Rattle.rules.specs.Commands.{store_row, rows, the_row, group_size}
use Rattle.rules.proofs.Searching.{search_passes, search_stops, or_cases}
use Rattle.search.specs.declared.Sought.{Sought}
use Rattle.search.specs.Search.{wrong_at, wrong, place_of, Whole}

-- the search from dword k on has the answer of the whole search
pub record Left (bad : ℕ → Bool) (len k : ℕ) : Type 0 where
  pub rest : first_of bad len ≡ first_from bad k (len - k)

more : {len k : ℕ} → k < len → len - k ≡ suc (len - (k + 1))
more h = omega arith

none : {len k : ℕ} → len ≤ k → len - k ≡ 0
none h = omega arith

module _ {bad : ℕ → Bool} {len k : ℕ} where
  pub left_more : Left bad len k → k < len → bad k ≡ false → Left bad len (k + 1)
  left_more l h e = record { rest = l.rest ∙ ap (first_from bad k) (more h) ∙ search_passes bad k _ e }

  pub left_found : Left bad len k → k < len → bad k ≡ true → k ≡ place_of (first_of bad len) len
  unfolding place_of
  left_found l h e = rw (l.rest, more h, search_stops bad k (len - (k + 1)) e)

  pub left_none : Left bad len k → len ≤ k → len ≡ place_of (first_of bad len) len
  unfolding first_from place_of
  left_none l h = rw (l.rest, none h)

pub left_all : (bad : ℕ → Bool) (len : ℕ) → Left bad len 0
left_all bad len = record { rest = ap (first_from bad 0) (omega arith) }

-- a group starts behind the header and whole groups
module _ (size first j : ℕ) (s : 1 ≤ first) (g : (first - 1) % size ≡ 0) where
  whole : (first - 1) / size * size ≡ first - 1
  whole = sym (add-zero _) ∙ ap (λ (r : ℕ). (first - 1) / size * size + r) (sym g) ∙ div-add-mod' (first - 1) size

  pub in_group_lem : j < size → in_group size (first + j) ≡ j + 1
  unfolding in_group
  in_group_lem h =
      let e : first + j - 1 ≡ (first - 1) / size * size + j = omega (arith, whole) in
      rw (ne_eqb (first + j) 0 (λ q. omega arith), e, mul-add-mod_self_right ((first - 1) / size) size j, mod-eq_of_lt h) (omega arith)

  pub next_group : (first + size - 1) % size ≡ 0
  next_group =
      let e : first + size - 1 ≡ (first - 1) / size * size + size = omega (arith, whole) in
      rw (e, mul-add-mod_self_right ((first - 1) / size) size size, mod_self)

-- so a group of a command with whole groups has all its dwords
pub group_fits : (size first n : ℕ) → 0 < size → 1 ≤ first → (first - 1) % size ≡ 0 → (n - 1) % size ≡ 0 → first < n → first + size ≤ n
group_fits size first n p s g e h =
    let before = whole size first 0 s g in
    let all = whole size n 0 (omega arith) e in
    let less : (first - 1) / size * size < (n - 1) / size * size = omega (arith, before, all) in
    let fewer : suc ((first - 1) / size) ≤ (n - 1) / size = lt_of_mul-lt-mul_right size less in
    omega (arith, before, all, suc-mul ((first - 1) / size) size, mul-le-mul_right size fewer)

-- a row without groups has commands of one dword
pub groupless : (r n : ℕ) → Whole r n → group_size r ≡ 0 → n ≤ 1
unfolding group_size the_row rows
groupless r n w e = ⊎_elim by_store by_groups (or_cases (eqb r store_row) _ w.groups)
  where
    by_store : eqb r store_row ≡ true → n ≤ 1
    by_store t = absurd (omega (arith, ap group_size (sym (eqb-true r store_row t)) ∙ e))

    by_groups : eqb ((n - 1) % group_size r) 0 ≡ true → n ≤ 1
    by_groups t = omega (arith, ap (λ (size : ℕ). (n - 1) % size) (sym e) ∙ eqb-true _ 0 t, mod-zero (n - 1))

-- a dword of a group is one of the command's: a store is asked, and every other row has whole groups
pub within : (r n first j : ℕ) → Whole r n → 1 ≤ first → (first - 1) % group_size r ≡ 0 → first < n → j < group_size r
    → (eqb r store_row && leb n (first + j)) ≡ false
    → first + j < n
within r n first j w s g h b u = ⊎_elim by_store by_groups (or_cases (eqb r store_row) _ w.groups)
  where
    by_store : eqb r store_row ≡ true → first + j < n
    by_store t = omega (arith, leb-false n (first + j) (ap (λ (v : Bool). v && leb n (first + j)) (sym t) ∙ u))

    by_groups : eqb ((n - 1) % group_size r) 0 ≡ true → first + j < n
    by_groups t = omega (arith, group_fits (group_size r) first n (omega arith) s g (eqb-true _ 0 t) h)

pub header_spot : (size : ℕ) → in_group size 0 ≡ 0
unfolding in_group
header_spot size = refl

-- what is looked for at a dword, by its place in its group
pub wrong_at_spot : (what : Sought) (w : Windows) (r : ℕ) (d : List ℕ) (k j : ℕ) → in_group (group_size r) k ≡ j
    → wrong what w r d k ≡ wrong_at what w r d k j
unfolding wrong
wrong_at_spot what w r d k j e = ap (wrong_at what w r d k) e

pub left_at : {bad : ℕ → Bool} {len k j : ℕ} → k ≡ j → Left bad len k → Left bad len j
left_at {bad} {len} e l = subst (λ (i : ℕ). Left bad len i) e l
