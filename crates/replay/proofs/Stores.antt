-- The streamer's accesses: a word that lies in scratch is stored there and nowhere else.
-- Assumes nothing.
use Prim.Native.Nat.{ℕ, zero, suc, ◌+◌, ◌-◌, ◌*◌, ◌/◌, ◌%◌, ◌≤◌, ◌<◌}
use native.Mathlib.Nat.{le_of_suc-le-suc, not-suc-le-zero}
use native.Mathlib.Omega.{arith}
use mathlib.Core.Path.{◌≡◌, refl, ap, ◌∙◌}
use mathlib.Core.Bool.{Bool, true, cond, ◌&&◌}
use mathlib.Core.List.{List, [], ◌∷◌}
use mathlib.Core.Option.{some, none}
use mathlib.Core.Logic.{⊎_elim}
use lib.ListN.{length, get_or, get_elem?, set, length-set}
use lib.Dec.{eqb, leb, ltb, lit<}
use borrow.Author.Tests.{leb-true, ltb-true, eqb-true, le-leb, lt-ltb, eq-eqb}
use Rattle.rules.specs.declared.Window.{Window}
use Rattle.rules.specs.Windows.{Capture, lent, Inside, windows_of, listed, share_byte}
use Rattle.rules.proofs.Searching.{either, never_both, and_left, and_right}
use Rattle.rules.proofs.Ranges.{Sound, no_window, no_two_at, both_share}
use Rattle.replay.specs.Streamer.{Machine, machine, Effect, word_at, scratch_word, place_of, store_to, store_words}
use Rattle.replay.specs.Conduct.{map_of, InScratch, AllInScratch}

-- the machine's windows are the capture's: batch and state as they were, and the whole words of scratch
pub record Windowed (c : Capture) (m : Machine) : Type 0 where
  pub batch : m.batch ≡ c.batch
  pub state : m.state ≡ c.state
  pub scratch : length m.scratch ≡ c.scratch_bytes / 4

-- an address that a test of a word passes, and one that passes it
module _ (at address : ℕ) (words : List ℕ) where
  word_test : Bool
  word_test = leb at address && (eqb ((address - at) % 4) 0 && ltb ((address - at) / 4) (length words))

  passing_inside : word_test ≡ true → Inside (lent at (length words)) address 4
  unfolding word_test
  passing_inside e =
      let r = and_right (leb at address) _ e in
      let a = leb-true at address (and_left (leb at address) _ e) in
      let b : (address - at) % 4 ≡ 0 = eqb-true _ 0 (and_left (eqb ((address - at) % 4) 0) _ r) in
      let d : (address - at) / 4 < length words = ltb-true _ _ (and_right (eqb ((address - at) % 4) 0) _ r) in
      record { low = a; high = omega arith }

  pub found : at ≤ address → (address - at) % 4 ≡ 0 → (address - at) / 4 < length words
      → word_at at words address ≡ some ((address - at) / 4)
  unfolding word_at
  found a b d = rw (le-leb _ _ a, eq-eqb _ 0 b, lt-ltb _ _ d)

  pub unfound : (Inside (lent at (length words)) address 4 → ⊥) → word_at at words address ≡ none
  unfolding word_at word_test
  unfound n = ⊎_elim (λ e. absurd (n (passing_inside e))) (λ e. ap (λ t. cond t (some ((address - at) / 4)) none) e) (either word_test)

-- two of sound windows hold no word together
apart : (ws : List Window) → Sound ws → (i j : ℕ) → i < j → j < length ws → (a : ℕ) → Inside (get_or ws i no_window) a 4
    → Inside (get_or ws j no_window) a 4 → ⊥
apart ws s i j h k a p q = never_both (both_share _ _ a 4 (omega arith) p q) (no_two_at share_byte no_window ws s.apart i j h k)

-- words from an address on lie in a window: so does the first, and so do those behind it
module _ (w : Window) (a n : ℕ) (i : Inside w a (4 * suc n)) where
  first_inside : Inside w a 4
  first_inside = let h = i.high in record { low = i.low; high = omega arith }

  rest_inside : Inside w (a + 4) (4 * n)
  rest_inside = let l = i.low in let h = i.high in record { low = omega arith; high = omega arith }

-- and the next word's address is a multiple of 4 too
next_aligned : (a : ℕ) → a % 4 ≡ 0 → (a + 4) % 4 ≡ 0
next_aligned a e = omega arith

-- what stores leave as it was: all of the machine but the words of scratch
pub record Stored (c : Capture) (m : Machine) (e : Effect) : Type 0 where
  pub at : e.machine.at ≡ m.at
  pub second : e.machine.second ≡ m.second
  pub kept : e.machine.kept ≡ m.kept
  pub windowed : Windowed c e.machine
  pub inside : AllInScratch c e.stored

module _ (c : Capture) (s : Sound (listed (windows_of c))) where
  -- where the streamer finds it
  pub scratch_place : (m : Machine) → Windowed c m → (a : ℕ) → a % 4 ≡ 0 → InScratch c a
      → place_of (map_of c) m a ≡ scratch_word ((a - c.scratch_at) / 4)
  unfolding place_of windows_of
  scratch_place m w a e i =
      let l = i.low in
      let h = i.high in
      let g : c.scratch_at % 4096 ≡ 0 = s.aligned 2 (lit< tt) in
      rw (
        w.batch,
        w.state,
        unfound c.batch_at a c.batch (λ q. apart _ s 0 2 (lit< tt) (lit< tt) a q i),
        unfound c.state_at a c.state (λ q. apart _ s 1 2 (lit< tt) (lit< tt) a q i),
        found c.scratch_at a m.scratch l (omega arith) (omega (arith, w.scratch)),
      )

  -- a store of a word there changes that word of scratch alone
  pub stored_word : (m : Machine) → Windowed c m → (a w : ℕ) → a % 4 ≡ 0 → InScratch c a
      → store_to m w (place_of (map_of c) m a) ≡ some (machine m.at m.second m.kept m.registers m.batch m.state (set m.scratch ((a - c.scratch_at) / 4) w))
  stored_word m v a w e i = rw (scratch_place m v a e i)

  -- and a row of stores in scratch never fails, and stores nowhere else
  pub stored_words : (ws : List ℕ) (m : Machine) → Windowed c m → (a : ℕ) → a % 4 ≡ 0
      → Inside (windows_of c).scratch a (4 * length ws)
      → (e : Effect) × (store_words (map_of c) m a ws ≡ some e) × Stored c m e
  unfolding store_words
  stored_words [] m w a e i = (record { machine = m; stored = [] }, refl, record { at = refl; second = refl; kept = refl; windowed = w; inside = tt })
  stored_words (v ∷ ws) m w a e i =
      let n : Machine = machine m.at m.second m.kept m.registers m.batch m.state (set m.scratch ((a - c.scratch_at) / 4) v) in
      let here : InScratch c a = first_inside _ a (length ws) i in
      let x : Windowed c n = record { batch = w.batch; state = w.state; scratch = length-set m.scratch _ v ∙ w.scratch } in
      let r = stored_words ws n x (a + 4) (next_aligned a e) (rest_inside _ a (length ws) i) in
      let t = r.2 in (
        record { machine = r.0.machine; stored = a ∷ r.0.stored },
        rw (stored_word m w a v e here, r.1),
        record { at = t.at; second = t.second; kept = t.kept; windowed = t.windowed; inside = (here, t.inside) },
      )

-- a word of a list
pub some_word : (l : List ℕ) (i : ℕ) → i < length l → get_elem? l i ≡ some (get_or l i 0)
some_word [] i h = absurd (not-suc-le-zero h)
some_word (w ∷ l) zero h = refl
some_word (w ∷ l) (suc i) h = some_word l i (le_of_suc-le-suc h)

-- what the constructors keep apart, and what they keep
pub some_not_none : {A : Type 0} {x : A} → some x ≡ none → ⊥
some_not_none e = let z : ◌≡◌ {A = ℕ} 0 1 = cc in omega arith

pub same_some : {A : Type 0} {x y : A} → some x ≡ some y → x ≡ y
same_some e = cc
