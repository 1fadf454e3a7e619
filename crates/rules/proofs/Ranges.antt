-- A range that fits lies in exactly one window, and no sum in it wraps or runs over the window's end.
-- Assumes nothing.
use Rattle.std.specs.Prelude.{Ok}
use Prim.Native.Nat.{ℕ, zero, suc, ◌+◌, ◌%◌, ◌^◌, ◌≤◌, ◌<◌}
use native.Mathlib.Nat.{le_of_suc-le-suc, not-suc-le-zero}
use native.Mathlib.Omega.{arith}
use mathlib.Core.Path.{◌≡◌, refl}
use mathlib.Core.Bool.{Bool, true, false}
use mathlib.Core.List.{List, [], ◌∷◌}
use mathlib.Core.Logic.{⊎_elim}
use lib.ListN.{length, get_or}
use lib.Dec.{leb, ltb, eqb}
use borrow.Author.Tests.{leb-true, ltb-true, lt-ltb, ltb-false, eqb-true, not-false}
use Rattle.rules.specs.declared.Window.{Window}
use Rattle.rules.specs.declared.Windows.{Windows}
use Rattle.rules.specs.declared.Within.TheVariants.{BatchOnly, ScratchOnly, AnyWindow}
use Rattle.rules.specs.Words.{some, some_two}
use Rattle.rules.specs.Windows.{window_limit, page_bytes, counts_wrong, unaligned, window, listed, end}
use Rattle.rules.specs.Windows.{ends_too_high, share_byte, window_checks, Lengths, window_fault, holds, Inside, windows_within, fits}
use Rattle.rules.proofs.Searching.{either, never_both, some_left, some_right, or_cases, and_left, and_right}
use Rattle.rules.proofs.Trying.{all_pass, refuse_passes}

-- a range that a window holds by the test lies in it
pub inside : (w : Window) (address bytes : ℕ) → holds w address bytes ≡ true → Inside w address bytes
unfolding holds
inside w a n e = record {
  low = leb-true _ _ (and_left (leb w.at a) _ e);
  high = leb-true _ _ (and_right (leb w.at a) _ e);
}

-- an element that a test finds, by its place in the list
pub some_at : {A : Type 0} (p : A → Bool) (d : A) (l : List A) → some p l ≡ true
    → (i : ℕ) × (i < length l) × (p (get_or l i d) ≡ true)
unfolding some
some_at p d [] e = absurd (never_both e refl)
some_at p d (x ∷ xs) e =
    ⊎_elim (λ q. (0, omega arith, q)) (λ q. let r = some_at p d xs q in (suc r.0, omega (arith, r.1), r.2)) (or_cases (p x) (some p xs) e)

-- and what it finds nowhere
pub none_at : {A : Type 0} (p : A → Bool) (d : A) (l : List A) → some p l ≡ false → (i : ℕ) → i < length l → p (get_or l i d) ≡ false
unfolding some
none_at p d [] e i h = absurd (not-suc-le-zero h)
none_at p d (x ∷ xs) e zero h = some_left (p x) (some p xs) e
none_at p d (x ∷ xs) e (suc i) h = none_at p d xs (some_right (p x) (some p xs) e) i (le_of_suc-le-suc h)

pub no_two_at : {A : Type 0} (p : A → A → Bool) (d : A) (l : List A) → some_two p l ≡ false → (i j : ℕ) → i < j → j < length l
    → p (get_or l i d) (get_or l j d) ≡ false
unfolding some_two
no_two_at p d [] e i j h k = absurd (not-suc-le-zero k)
no_two_at p d (x ∷ xs) e i zero h k = absurd (not-suc-le-zero h)
no_two_at p d (x ∷ xs) e zero (suc j) h k = none_at (p x) d xs (some_left (some (p x) xs) (some_two p xs) e) j (le_of_suc-le-suc k)
no_two_at p d (x ∷ xs) e (suc i) (suc j) h k =
    no_two_at p d xs (some_right (some (p x) xs) (some_two p xs) e) i j (le_of_suc-le-suc h) (le_of_suc-le-suc k)

-- no window at all
abbrev pub no_window : Window
no_window = window 0 0

-- two windows that hold the same range of at least one byte share its first
pub both_share : (v w : Window) (a n : ℕ) → 0 < n → Inside v a n → Inside w a n → share_byte v w ≡ true
both_share v w a n h p q =
    let l = p.low in
    let m = p.high in
    let r = q.low in
    let s = q.high in
    simp (lt-ltb 0 v.bytes (omega arith), lt-ltb 0 w.bytes (omega arith), lt-ltb v.at (end w) (omega arith), lt-ltb w.at (end v) (omega arith))

-- exactly one window of a list holds the range
pub record OneHolds (ws : List Window) (address bytes : ℕ) : Type 0 where
  pub which : ℕ
  pub listed : which < length ws
  pub holds : Inside (get_or ws which no_window) address bytes
  pub only : (i : ℕ) → i < length ws → Inside (get_or ws i no_window) address bytes → i ≡ which

pub one_holds : (ws : List Window) (address bytes : ℕ) → 0 < bytes → some_two share_byte ws ≡ false
    → some (λ w. holds w address bytes) ws ≡ true → OneHolds ws address bytes
one_holds ws a n h apart e =
    let f = some_at (λ w. holds w a n) no_window ws e in
    record { which = f.0; listed = f.1; holds = inside _ a n f.2; only = same f.0 f.1 (inside _ a n f.2) }
  where
    apart_at : (i j : ℕ) → i < j → j < length ws → Inside (get_or ws i no_window) a n → Inside (get_or ws j no_window) a n → ⊥
    apart_at i j l k p q = never_both (both_share (get_or ws i no_window) (get_or ws j no_window) a n h p q) (no_two_at share_byte no_window ws apart i j l k)

    same : (k : ℕ) → k < length ws → Inside (get_or ws k no_window) a n → (i : ℕ) → i < length ws → Inside (get_or ws i no_window) a n
        → i ≡ k
    same k lk p i li q =
        ⊎_elim (λ t. absurd (apart_at i k (ltb-true i k t) lk q p))
        (λ t.
        ⊎_elim (λ u. absurd (apart_at k i (ltb-true k i u) li p q)) (λ u. omega (arith, ltb-false i k t, ltb-false k i u)) (either (ltb k i)))
        (either (ltb i k))

-- windows that passed 1 to 4: each is aligned, none ends above 2^48, and no two share a byte
pub record Sound (ws : List Window) : Type 0 where
  pub aligned : (i : ℕ) → i < length ws → (get_or ws i no_window).at % page_bytes ≡ 0
  pub ends : (i : ℕ) → i < length ws → end (get_or ws i no_window) ≤ 2 ^ 48
  pub apart : some_two share_byte ws ≡ false

pub sound : (l : Lengths) → window_fault l ≡ Ok tt → Sound (listed l.windows)
unfolding window_fault window_checks
sound l e =
    let p = all_pass l window_checks e in
    record {
      aligned = λ i h. eqb-true _ 0 (not-false _ (none_at unaligned no_window (listed l.windows) (refuse_passes _ _ p.1.0) i h));
      ends = λ i h. ltb-false _ _ (none_at ends_too_high no_window (listed l.windows) (refuse_passes _ _ p.1.1.0) i h);
      apart = refuse_passes _ _ p.1.1.1.0;
    }

-- and neither lent window has more dwords than the limit
pub record Counted (l : Lengths) : Type 0 where
  pub batch : l.batch ≤ window_limit
  pub state : l.state ≤ window_limit

pub counted : (l : Lengths) → window_fault l ≡ Ok tt → Counted l
unfolding window_fault window_checks counts_wrong
counted l e =
    let p = refuse_passes _ _ (all_pass l window_checks e).0 in
    let q = some_right (eqb l.batch 0) _ p in
    record { batch = ltb-false _ _ (some_left (ltb window_limit l.batch) _ q); state = ltb-false _ _ (some_right (ltb window_limit l.batch) _ q) }

-- a range that fits lies in one of the windows that its rule allows, and there no sum reaches 2^64
pub record Fitting (w : Windows) (address bytes : ℕ) : Type 0 where
  pub holder : OneHolds (listed w) address bytes
  pub below : address + bytes ≤ 2 ^ 48

pub fits_one : (w : Windows) (address bytes : ℕ) → Sound (listed w) → 0 < bytes → fits w AnyWindow address bytes ≡ true
    → Fitting w address bytes
unfolding fits windows_within
fits_one w a n s h e =
    let o = one_holds (listed w) a n h s.apart e in
    record { holder = o; below = omega (arith, o.holds.high, s.ends o.which o.listed) }

-- a rule that allows one window
single_holds : {w : Window} (a n : ℕ) → some (λ v. holds v a n) (w ∷ []) ≡ true → Inside w a n
unfolding some
single_holds {w} a n e = inside w a n (⊎_elim (λ q. q) (λ q. absurd (never_both q refl)) (or_cases (holds w a n) false e))

pub in_batch : (w : Windows) (address bytes : ℕ) → fits w BatchOnly address bytes ≡ true → Inside w.batch address bytes
unfolding fits windows_within
in_batch w a n e = single_holds a n e

pub in_scratch_lem : (w : Windows) (address bytes : ℕ) → fits w ScratchOnly address bytes ≡ true → Inside w.scratch address bytes
unfolding fits windows_within
in_scratch_lem w a n e = single_holds a n e
