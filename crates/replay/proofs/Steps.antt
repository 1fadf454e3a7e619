-- What a step comes to: it fails where a dword that the command uses lies outside the batch, and else it does what the row does with these dwords.
-- proofs/Failing and proofs/Doing say what that means.
-- Assumes nothing.
use Prim.Native.Nat.{ℕ, zero, suc, ◌+◌, ◌-◌, ◌*◌, ◌≤◌, ◌<◌}
use native.Mathlib.Nat.{add-zero, le_of_suc-le-suc, not-suc-le-zero}
use native.Mathlib.Omega.{arith}
use mathlib.Core.Path.{◌≡◌, refl, sym, ap, ◌∙◌}
use mathlib.Core.Bool.{Bool, true, false, cond}
use mathlib.Core.List.{List, [], ◌∷◌}
use mathlib.Core.Option.{Option, some, none}
use mathlib.Core.Logic.{inl, inr, ⊎_elim}
use lib.ListN.{length, get_or, get_elem?, get_or-eq_default}
use lib.Dec.{eqb, leb, ltb}
use borrow.Author.Tests.{leb-true, leb-false, ltb-true, ltb-false, eqb-true, eqb-false, eq-eqb, ne_eqb}
use Rattle.rules.specs.Commands.{row_count, row_of, length_of}
use Rattle.rules.proofs.Searching.{either}
use Rattle.replay.specs.Streamer.{Map, Machine, Step, fails, Hardware, with_word, fetched, fetched_words, fetched_address, place_of, load_from}
use Rattle.replay.specs.Streamer.{store_words, advance, stores, update, with_registers, set_pairs, end_batch, start_batch, pipe, exec, step}
use Rattle.replay.specs.Runs.{fetched_command}
use Rattle.replay.specs.Uses.{row, total, dword, dwords, address, post_sync, pairs, StoringRow, OtherRow}
use Rattle.replay.specs.Uses.{operands_by_row, operands, stored_by_row, to_store, stores_at, Whole}
use Rattle.replay.proofs.Stores.{some_word}

-- a word of a list that is not there, and one that is
no_word : (l : List ℕ) (i : ℕ) → length l ≤ i → get_elem? l i ≡ none
no_word [] i h = refl
no_word (w ∷ l) zero h = absurd (not-suc-le-zero h)
no_word (w ∷ l) (suc i) h = no_word l i (le_of_suc-le-suc h)

that_word : (l : List ℕ) (i : ℕ) {w : ℕ} → get_elem? l i ≡ some w → w ≡ get_or l i 0
that_word [] i e = cc
that_word (w ∷ l) zero e = cc
that_word (w ∷ l) (suc i) e = that_word l i e

module _ (m : Machine) where
  -- the row and the length that the streamer finds
  row_is : row m ≡ row_of (dword m 0)
  unfolding fetched_command
  row_is = ap (λ (i : ℕ). row_of (get_or m.batch i 0)) (sym (add-zero m.at))

  total_is : total m ≡ length_of (row_of (dword m 0)) (dword m 0)
  unfolding fetched_command
  total_is = ap (λ (i : ℕ). length_of (row_of (get_or m.batch i 0)) (get_or m.batch i 0)) (sym (add-zero m.at))

  -- inside the batch a fetch gives its dwords
  fetch_gives : (k : ℕ) (on : ℕ → Step) → m.at + k < length m.batch → fetched m k on ≡ on (dword m k)
  unfolding fetched
  fetch_gives k on h = rw (some_word m.batch (m.at + k) h)

  address_gives : (k : ℕ) (on : ℕ → Step) → m.at + (k + 1) < length m.batch → fetched_address m k on ≡ on (address m k)
  unfolding fetched_address
  address_gives k on h = fetch_gives k _ (omega arith) ∙ fetch_gives (k + 1) _ h

  words_give : (n k : ℕ) (on : List ℕ → Step) → m.at + (k + n) ≤ length m.batch → fetched_words m k n on ≡ on (dwords m k n)
  unfolding fetched_words dwords
  words_give zero k on h = refl
  words_give (suc n) k on h = fetch_gives k _ (omega arith) ∙ words_give n (k + 1) _ (omega arith)

  -- outside it a fetch fails
  fetch_fails : (k : ℕ) (on : ℕ → Step) → length m.batch ≤ m.at + k → fetched m k on ≡ fails
  unfolding fetched
  fetch_fails k on h = rw (no_word m.batch (m.at + k) h)

  -- and it fails too where what is done with the dword fails
  fetch_then : (k : ℕ) (on : ℕ → Step) → on (dword m k) ≡ fails → fetched m k on ≡ fails
  unfolding fetched
  fetch_then k on h = by (get_elem? m.batch (m.at + k)) refl
    where
      by : (o : Option ℕ) → get_elem? m.batch (m.at + k) ≡ o → with_word o on ≡ fails
      by none e = refl
      by (some w) e = rw (that_word m.batch (m.at + k) e) h

  address_fails : (k : ℕ) (on : ℕ → Step) → length m.batch ≤ m.at + (k + 1) → fetched_address m k on ≡ fails
  unfolding fetched_address
  address_fails k on h = fetch_then k _ (fetch_fails (k + 1) _ h)

  address_then : (k : ℕ) (on : ℕ → Step) → on (address m k) ≡ fails → fetched_address m k on ≡ fails
  unfolding fetched_address
  address_then k on h = fetch_then k _ (fetch_then (k + 1) _ h)

  words_fail : (n k j : ℕ) (on : List ℕ → Step) → j < n → length m.batch ≤ m.at + (k + j) → fetched_words m k n on ≡ fails
  unfolding fetched_words
  words_fail zero k j on l h = absurd (not-suc-le-zero l)
  words_fail (suc n) k zero on l h = fetch_fails k _ (omega arith)
  words_fail (suc n) k (suc j) on l h = fetch_then k _ (words_fail n (k + 1) j _ (le_of_suc-le-suc l) (omega arith))

-- so many dwords are as many
pub dwords_counted : (m : Machine) (n k : ℕ) → length (dwords m k n) ≡ n
unfolding dwords
dwords_counted m zero k = refl
dwords_counted m (suc n) k = ap suc (dwords_counted m n (k + 1))

-- the rows, as the streamer tells them apart
pub data Kind (r : ℕ) : Type 0 where
  an_end : r ≡ 1 → Kind r
  a_start : r ≡ 2 → Kind r
  sets : r ≡ 3 → Kind r
  loads : r ≡ 6 → Kind r
  storing : StoringRow r → Kind r
  other : OtherRow r → Kind r

pub kind : (r : ℕ) → Kind r
kind zero = other (inl refl)
kind (suc zero) = an_end refl
kind (suc (suc zero)) = a_start refl
kind (suc (suc (suc zero))) = sets refl
kind (suc (suc (suc (suc zero)))) = storing (inl refl)
kind (suc (suc (suc (suc (suc zero))))) = storing (inr (inl refl))
kind (suc (suc (suc (suc (suc (suc zero)))))) = loads refl
kind (suc (suc (suc (suc (suc (suc (suc zero))))))) = storing (inr (inr refl))
kind (suc (suc (suc (suc (suc (suc (suc (suc r)))))))) = other (inr (omega arith))

-- the rows that only advance use and store nothing
pub no_operands : (m : Machine) → OtherRow (row m) → operands m ≡ 0
unfolding operands
no_operands m (inl e) = rw e
no_operands m (inr l) = get_or-eq_default (operands_by_row m) 0 l

pub stores_none : (hardware : Hardware) (done : ℕ) (m : Machine) → OtherRow (row m) → to_store hardware done m ≡ []
unfolding to_store
stores_none hardware done m (inl e) = rw e
stores_none hardware done m (inr l) = get_or-eq_default (stored_by_row hardware done m) [] l

module _ (map : Map) (hardware : Hardware) (done : ℕ) (m : Machine) where
  -- a dword that the command uses lies outside
  pub uses_outside : (k : ℕ) → k ≤ operands m → length m.batch ≤ m.at + k → step map hardware done m ≡ fails
  unfolding step exec operands pipe
  uses_outside zero h o = fetch_fails m 0 _ o
  uses_outside (suc k) h o =
      fetch_then m 0 _ (rw (← total_is m, ← row_is m) (⊎_elim (λ e. rw e) (λ e. rw e (by (kind (row m)))) (either (eqb (row m) row_count))))
    where
      with_post_sync : (a b : Bool) → eqb (post_sync m) 0 ≡ a → eqb (post_sync m) 1 ≡ b → suc k ≤ cond a 1 (cond b 5 3)
          → fetched m 1 (pipe map hardware done m (total m)) ≡ fails
      with_post_sync true b p q l = fetch_fails m 1 _ (omega arith)
      with_post_sync false true p q l = fetch_then m 1 _ (rw (p, q) (address_then m 2 _ (words_fail m 2 4 1 _ (omega arith) (omega arith))))
      with_post_sync false false p q l = fetch_then m 1 _ (rw (p, q) (address_fails m 2 _ (omega arith)))

      by : Kind (row m) → exec map hardware done m (dword m 0) (row m) (total m) ≡ fails
      by (an_end e) = absurd (not-suc-le-zero (rw e at h))
      by (a_start e) = let l = rw e at h in rw e (address_fails m 1 _ (omega arith))
      by (sets e) = let l = rw e at h in rw e (words_fail m _ 1 k _ (omega arith) (omega arith))
      by (loads e) = let l = rw e at h in rw e (fetch_then m 1 _ (address_fails m 2 _ (omega arith)))
      by (storing (inl e)) =
          let l = rw e at h in
          rw e
          (⊎_elim (λ q. address_fails m 1 _ (omega (arith, leb-true k 1 q)))
          (λ q. address_then m 1 _ (words_fail m _ 3 (k - 2) _ (omega (arith, leb-false k 1 q)) (omega (arith, leb-false k 1 q))))
          (either (leb k 1)))
      by (storing (inr (inl e))) = let l = rw e at h in rw e (fetch_then m 1 _ (address_fails m 2 _ (omega arith)))
      by (storing (inr (inr e))) = rw e (with_post_sync _ _ refl refl (rw e at h))
      by (other r) = absurd (let z = no_operands m r in omega arith)

  -- its header is not in the table
  pub unknown_fails : row m ≡ row_count → step map hardware done m ≡ fails
  unfolding step
  unknown_fails e = fetch_then m 0 _ (rw (eq-eqb (row_of (dword m 0)) row_count (sym (row_is m) ∙ e)))

-- what holds of a whole command, of an unknown header and of a command that leaves the batch holds of every command
pub whole_or : {A : Type 0} (m : Machine) → (Whole m → A) → (row m ≡ row_count → A) → (length m.batch ≤ m.at + operands m → A)
    → A
whole_or m whole unknown leaves =
    ⊎_elim (λ e. unknown (eqb-true _ _ e))
    (λ e.
    ⊎_elim (λ h. whole (record { known = eqb-false _ _ e; inside = ltb-true _ _ h })) (λ h. leaves (ltb-false _ _ h))
    (either (ltb (m.at + operands m) (length m.batch)))) (either (eqb (row m) row_count))

module _ (map : Map) (hardware : Hardware) (done : ℕ) (m : Machine) (w : Whole m) where
  front : step map hardware done m ≡ exec map hardware done m (dword m 0) (row m) (total m)
  unfolding step
  front = let i = w.inside in fetch_gives m 0 _ (omega arith) ∙ rw (← total_is m, ← row_is m, ne_eqb (row m) row_count w.known)

  pub step_end : row m ≡ 1 → step map hardware done m ≡ end_batch m
  unfolding exec
  step_end e = front ∙ rw e

  pub step_start : row m ≡ 2 → step map hardware done m ≡ start_batch map m (dword m 0) (m.at + total m) (address m 1)
  unfolding exec operands
  step_start e = let i = rw e at w.inside in front ∙ rw e (address_gives m 1 _ (omega arith))

  pub step_registers : row m ≡ 3
      → step map hardware done m ≡ advance (total m) (with_registers m (set_pairs m.registers (dwords m 1 (2 * pairs m))))
  unfolding exec operands
  step_registers e = let i = rw e at w.inside in front ∙ rw e (words_give m _ 1 _ (omega arith))

  pub step_load : row m ≡ 6
      → step map hardware done m
      ≡ with_word (load_from m (place_of map m (address m 2))) (λ v. advance (total m) (with_registers m (update m.registers (dword m 1) v)))
  unfolding exec operands
  step_load e = let i = rw e at w.inside in front ∙ rw e (fetch_gives m 1 _ (omega arith) ∙ address_gives m 2 _ (omega arith))

  abbrev storing_at : ℕ → List ℕ → Step
  storing_at a ws = stores (total m) (store_words map m a ws)

  pub step_stores : StoringRow (row m)
      → step map hardware done m ≡ stores (total m) (store_words map m (stores_at m) (to_store hardware done m))
  unfolding exec operands to_store stores_at store_words pipe dwords fetched_words
  step_stores r = front ∙ by r
    where
      with_post_sync : (a b : Bool) → eqb (post_sync m) 0 ≡ a → eqb (post_sync m) 1 ≡ b
          → m.at + cond a 1 (cond b 5 3) < length m.batch
          → fetched m 1 (pipe map hardware done m (total m))
          ≡ storing_at (address m 2) (cond a [] (cond b (dword m 4 ∷ dword m 5 ∷ []) ((hardware done).low ∷ (hardware done).high ∷ [])))
      with_post_sync true b p q i = fetch_gives m 1 _ i ∙ rw p
      with_post_sync false true p q i =
          fetch_gives m 1 _ (omega arith)
          ∙ rw (p, q) (address_gives m 2 _ (omega arith) ∙ words_give m 2 4 (storing_at (address m 2)) (omega arith))
      with_post_sync false false p q i = fetch_gives m 1 _ (omega arith) ∙ rw (p, q) (address_gives m 2 _ (omega arith))

      by : StoringRow (row m)
          → exec map hardware done m (dword m 0) (row m) (total m) ≡ storing_at (stores_at m) (to_store hardware done m)
      by (inl e) =
          let i = rw e at w.inside in
          rw e (address_gives m 1 _ (omega arith) ∙ words_give m (total m - 3) 3 (storing_at (address m 1)) (omega arith))
      by (inr (inl e)) = let i = rw e at w.inside in rw e (fetch_gives m 1 _ (omega arith) ∙ address_gives m 2 _ (omega arith))
      by (inr (inr e)) = rw e (with_post_sync _ _ refl refl (rw e at w.inside))

  pub step_other : OtherRow (row m) → step map hardware done m ≡ advance (total m) m
  unfolding exec
  step_other (inl e) = front ∙ rw e
  step_other (inr h) =
      front
      ∙ rw (
        ne_eqb (row m) 1 (λ q. omega arith),
        ne_eqb (row m) 2 (λ q. omega arith),
        ne_eqb (row m) 3 (λ q. omega arith),
        ne_eqb (row m) 4 (λ q. omega arith),
        ne_eqb (row m) 5 (λ q. omega arith),
        ne_eqb (row m) 6 (λ q. omega arith),
        ne_eqb (row m) 7 (λ q. omega arith),
      )
