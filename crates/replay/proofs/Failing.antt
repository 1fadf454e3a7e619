-- THE STREAMER FAILS EXACTLY WHERE IT SHOULD: for every machine, wherever its windows lie, whatever the hardware gives and however many commands were
-- before, each `Failure` of specs/Uses stops it as failed, and nothing else does.
-- Assumes nothing.
use Prim.Native.Nat.{ℕ, ◌+◌, ◌-◌, ◌*◌, ◌/◌, ◌%◌, ◌≤◌, ◌<◌}
use native.Mathlib.Nat.{not-suc-le-zero}
use native.Mathlib.Omega.{arith}
use mathlib.Core.Path.{◌≡◌, refl, ap, ◌∙◌}
use mathlib.Core.Bool.{Bool, true, false, ◌&&◌}
use mathlib.Core.Option.{Option, some, none}
use mathlib.Core.Logic.{⊎_elim}
use lib.ListN.{length}
use lib.Dec.{eqb, leb}
use borrow.Author.Tests.{eqb-true, leb-true}
use Rattle.rules.specs.Words.{bit}
use Rattle.rules.proofs.Searching.{either, and_left, and_right}
use Rattle.replay.specs.Streamer.{Map, Machine, Effect, goes, ends, fails, Hardware, place_of, store_words, stores, end_batch, start_batch, step}
use Rattle.replay.specs.Uses.{row, total, dword, address, StoringRow, operands, to_store, stores_at, Whole}
use Rattle.replay.specs.Uses.{Failure, fetch_outside, unknown_header, store_outside, load_outside, start_nowhere, nothing_kept}
use Rattle.replay.proofs.Words.{outside_or_has, has_load, outside_stops, stopped_outside}
use Rattle.replay.proofs.Steps.{Kind, an_end, a_start, sets, loads, storing, other, kind, stores_none, uses_outside, unknown_fails, whole_or}
use Rattle.replay.proofs.Steps.{step_end, step_start, step_load, step_stores}
use Rattle.replay.proofs.Doing.{end_ends, end_returns, start_jumps, start_calls, registers_set, register_loaded, others_advance}

-- a target that is a dword from the batch's address on, and one that is not
targets : (at target : ℕ) → Bool
targets at target = leb at target && eqb ((target - at) % 4) 0

target_is : (at target : ℕ) → targets at target ≡ true → target ≡ at + 4 * ((target - at) / 4)
unfolding targets
target_is at target e =
    let a : at ≤ target = leb-true _ _ (and_left (leb at target) _ e) in
    let b : (target - at) % 4 ≡ 0 = eqb-true _ 0 (and_right (leb at target) _ e) in
    omega arith

target_is_not : (at target : ℕ) → ((i : ℕ) → target ≡ at + 4 * i → ⊥) → targets at target ≡ false
target_is_not at target n = ⊎_elim (λ e. absurd (n _ (target_is at target e))) (λ e. e) (either (targets at target))

module _ (map : Map) (hardware : Hardware) (done : ℕ) (m : Machine) where
  -- where each whole command fails, every command does
  whole_fails : (Whole m → step map hardware done m ≡ fails) → step map hardware done m ≡ fails
  whole_fails whole = whole_or m whole (unknown_fails map hardware done m) (λ o. uses_outside map hardware done m (operands m) (omega arith) o)

  -- a row that stores a word is one of those that store
  storing_row : (i : ℕ) → i < length (to_store hardware done m) → StoringRow (row m)
  unfolding to_store
  storing_row i h = by (kind (row m))
    where
      by : Kind (row m) → StoringRow (row m)
      by (an_end e) = absurd (not-suc-le-zero (rw e at h))
      by (a_start e) = absurd (not-suc-le-zero (rw e at h))
      by (sets e) = absurd (not-suc-le-zero (rw e at h))
      by (loads e) = absurd (not-suc-le-zero (rw e at h))
      by (storing r) = r
      by (other r) = absurd (not-suc-le-zero (rw (stores_none hardware done m r) at h))

  -- EACH OF THEM STOPS IT
  pub failure_fails : Failure map hardware done m → step map hardware done m ≡ fails
  unfolding end_batch start_batch targets
  failure_fails (fetch_outside k h o) = uses_outside map hardware done m k h o
  failure_fails (unknown_header e) = unknown_fails map hardware done m e
  failure_fails (store_outside i h o) =
      whole_fails (λ w. step_stores map hardware done m w (storing_row i h) ∙ rw (outside_stops map (to_store hardware done m) m (stores_at m) i h o))
  failure_fails (load_outside e o) = whole_fails (λ w. step_load map hardware done m w e ∙ rw o)
  failure_fails (start_nowhere e n) = whole_fails (λ w. step_start map hardware done m w e ∙ rw (target_is_not map.batch_at (address m 1) n))
  failure_fails (nothing_kept e s k) = whole_fails (λ w. step_end map hardware done m w e ∙ rw (s, k))

  -- the header first of all
  pub header_outside_fails : length m.batch ≤ m.at → step map hardware done m ≡ fails
  header_outside_fails h = failure_fails (fetch_outside 0 (omega arith) (omega arith))

  -- AND NOTHING ELSE DOES
  pub fails_failure : step map hardware done m ≡ fails → Failure map hardware done m
  fails_failure f = whole_or m (λ w. by w (kind (row m))) unknown_header (fetch_outside (operands m) (omega arith))
    where
      going : {e : Effect} → step map hardware done m ≡ goes e → ⊥
      going q = let z : ◌≡◌ {A = ℕ} 0 1 = cc in omega arith

      ending : {e : Effect} → step map hardware done m ≡ ends e → ⊥
      ending q = let z : ◌≡◌ {A = ℕ} 0 1 = cc in omega arith

      of_end : Whole m → row m ≡ 1 → (s : Bool) → m.second ≡ s → (k : Option ℕ) → m.kept ≡ k → Failure map hardware done m
      of_end w e true p none q = nothing_kept e p q
      of_end w e true p (some back) q = absurd (going (end_returns map hardware done m w e p q))
      of_end w e false p k q = absurd (ending (end_ends map hardware done m w e p))

      of_stores : Whole m → StoringRow (row m) → (o : Option Effect) → store_words map m (stores_at m) (to_store hardware done m) ≡ o
          → Failure map hardware done m
      of_stores w r none q = let x = stopped_outside map (to_store hardware done m) m (stores_at m) q in store_outside x.0 x.1 x.2
      of_stores w r (some e) q = absurd (going (step_stores map hardware done m w r ∙ ap (stores (total m)) q))

      by : Whole m → Kind (row m) → Failure map hardware done m
      by w (an_end e) = of_end w e _ refl _ refl
      by w (a_start e) =
          start_nowhere e (λ i t.
          ⊎_elim (λ b. going (start_calls map hardware done m w e t b)) (λ b. going (start_jumps map hardware done m w e t b))
          (either (bit (dword m 0) 22)))
      by w (sets e) = absurd (going (registers_set map hardware done m w e).1)
      by w (loads e) =
          ⊎_elim (load_outside e)
          (λ h. let v = has_load m (place_of map m (address m 2)) h.0 in absurd (going (register_loaded map hardware done m w e v.1).1))
          (outside_or_has map m (address m 2))
      by w (storing r) = of_stores w r _ refl
      by w (other r) = absurd (going (others_advance map hardware done m w r))
