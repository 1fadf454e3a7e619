-- WHAT A COMMAND DOES, row by row: for every machine, wherever its windows lie, whatever the hardware gives and however many commands were before. The
-- command is `Whole` (specs/Uses); where it is not, the streamer fails, and proofs/Failing says where else it does.
-- Assumes nothing.
use Prim.Native.Nat.{ℕ, zero, suc, ◌+◌, ◌-◌, ◌*◌, ◌/◌, ◌%◌, ◌≤◌, ◌<◌, suc-le-suc}
use native.Mathlib.Nat.{le_of_suc-le-suc, not-suc-le-zero}
use native.Mathlib.Omega.{arith}
use mathlib.Core.Path.{◌≡◌, refl, sym, ap, ◌∙◌}
use mathlib.Core.Bool.{Bool, true, false}
use mathlib.Core.List.{[]}
use mathlib.Core.Option.{Option, some}
use lib.ListN.{length}
use borrow.Author.Tests.{le-leb, eq-eqb, ne_eqb}
use Rattle.rules.specs.Words.{bit}
use Rattle.replay.specs.Streamer.{Map, Machine, Effect, Step, goes, ends, Hardware, Place, batch_word, state_word, scratch_word, outside}
use Rattle.replay.specs.Streamer.{place_of, load_from, onward, update, set_pairs, end_batch, going_to, start_batch, step}
use Rattle.replay.specs.Uses.{row, total, dword, dwords, address, pairs, StoringRow, OtherRow, to_store, stores_at, Whole}
use Rattle.replay.proofs.Words.{WordsChanged, words_changed}
use Rattle.replay.proofs.Steps.{step_end, step_start, step_registers, step_load, step_stores, step_other}

-- the streamer goes on at a position, a level, a kept position and with registers; it has stored nothing, and every word is as it was
abbrev pub quietly : Machine → ℕ → Bool → Option ℕ → (ℕ → ℕ) → Step
quietly m at second kept registers = goes (record {
  machine = record { at = at; second = second; kept = kept; registers = registers; batch = m.batch; state = m.state; scratch = m.scratch };
  stored = [];
})

-- "All others go on by their length": so, behind the command, and with registers
abbrev pub advanced : Machine → (ℕ → ℕ) → Step
advanced m registers = quietly m (m.at + total m) m.second m.kept registers

-- the registers after one was set
pub record OneSet (before : ℕ → ℕ) (offset value : ℕ) (after : ℕ → ℕ) : Type 0 where
  pub here : after offset ≡ value
  pub elsewhere : (x : ℕ) → (x ≡ offset → ⊥) → after x ≡ before x

-- the registers after a command's pairs, of which pair j has its offset in dword 1 + 2 j and its value in the next: a register that pairs name has the
-- value of the last that does, and one that none names is as it was
pub record PairsSet (m : Machine) (after : ℕ → ℕ) : Type 0 where
  pub named : (j : ℕ) → j < pairs m → ((i : ℕ) → j < i → i < pairs m → dword m (1 + 2 * j) ≡ dword m (1 + 2 * i) → ⊥)
      → after (dword m (1 + 2 * j)) ≡ dword m (2 + 2 * j)
  pub unnamed : (x : ℕ) → ((j : ℕ) → j < pairs m → x ≡ dword m (1 + 2 * j) → ⊥) → after x ≡ m.registers x

update_sets : (registers : ℕ → ℕ) (offset value : ℕ) → OneSet registers offset value (update registers offset value)
update_sets registers offset value = record { here = rw (eq-eqb offset offset refl); elsewhere = λ x n. rw (ne_eqb x offset n) }

-- n pairs from the dword k on
module _ (m : Machine) where
  two_more : (n : ℕ) → 2 * suc n ≡ suc (suc (2 * n))
  two_more n = omega arith

  first_pair : (k : ℕ) → dword m (k + 2 * 0) ≡ dword m k
  first_pair k = ap (dword m) (omega arith)

  next_pair : (k j : ℕ) → dword m (k + 2 * suc j) ≡ dword m (k + 1 + 1 + 2 * j)
  next_pair k j = ap (dword m) (omega arith)

  unnamed : (n k : ℕ) (registers : ℕ → ℕ) (x : ℕ) → ((j : ℕ) → j < n → x ≡ dword m (k + 2 * j) → ⊥)
      → set_pairs registers (dwords m k (2 * n)) x ≡ registers x
  unfolding dwords set_pairs
  unnamed zero k registers x h = refl
  unnamed (suc n) k registers x h =
      rw (two_more n)
      (unnamed n (k + 1 + 1) _ x (λ j l e. h (suc j) (suc-le-suc l) (e ∙ sym (next_pair k j)))
      ∙ (update_sets registers _ _).elsewhere x (λ e. h 0 (omega arith) (e ∙ sym (first_pair k))))

  named : (n k : ℕ) (registers : ℕ → ℕ) (j : ℕ) → j < n
      → ((i : ℕ) → j < i → i < n → dword m (k + 2 * j) ≡ dword m (k + 2 * i) → ⊥)
      → set_pairs registers (dwords m k (2 * n)) (dword m (k + 2 * j)) ≡ dword m (k + 1 + 2 * j)
  unfolding dwords set_pairs
  named zero k registers j l h = absurd (not-suc-le-zero l)
  named (suc n) k registers zero l h =
      rw (two_more n, first_pair k, first_pair (k + 1))
      (unnamed n (k + 1 + 1) _ (dword m k) (λ j l e. h (suc j) (omega arith) (suc-le-suc l) (first_pair k ∙ e ∙ sym (next_pair k j)))
      ∙ (update_sets registers (dword m k) _).here)
  named (suc n) k registers (suc j) l h =
      rw (two_more n, next_pair k j, next_pair (k + 1) j)
      (named n (k + 1 + 1) _ j (le_of_suc-le-suc l) (λ i a b e. h (suc i) (suc-le-suc a) (suc-le-suc b) (next_pair k j ∙ e ∙ sym (next_pair k i)))
      ∙ ap (dword m) (omega arith))

-- a machine that goes on has the words that it had
same_words_lem : (n : ℕ) (m : Machine) (p : Place) → load_from (onward n m) p ≡ load_from m p
same_words_lem n m (batch_word i) = refl
same_words_lem n m (state_word i) = refl
same_words_lem n m (scratch_word i) = refl
same_words_lem n m outside = refl

module _ (map : Map) (hardware : Hardware) (done : ℕ) (m : Machine) (w : Whole m) where
  -- its step
  abbrev stepped : Step
  stepped = step map hardware done m

  -- "A batch end at level 0 ends the run; at level 1 it goes to the kept position, level 0."
  pub end_ends : row m ≡ 1 → m.second ≡ false → stepped ≡ ends (record { machine = m; stored = [] })
  unfolding end_batch
  end_ends e l = step_end map hardware done m w e ∙ rw l

  pub end_returns : row m ≡ 1 → m.second ≡ true → {back : ℕ} → m.kept ≡ some back
      → stepped ≡ quietly m back false m.kept m.registers
  unfolding end_batch
  end_returns e l k = step_end map hardware done m w e ∙ rw (l, k)

  starts : row m ≡ 2 → (i : ℕ) → address m 1 ≡ map.batch_at + 4 * i
      → stepped ≡ goes (record { machine = going_to m (bit (dword m 0) 22) (m.at + total m) i; stored = [] })
  unfolding start_batch
  starts e i t =
      let a : map.batch_at ≤ address m 1 = omega arith in
      let b : (address m 1 - map.batch_at) % 4 ≡ 0 = omega arith in
      let d : (address m 1 - map.batch_at) / 4 ≡ i = omega arith in
      step_start map hardware done m w e ∙ rw (le-leb _ _ a, eq-eqb _ 0 b, d)

  -- "A start with bit 22 clear goes to its target.": to the dword i of the batch, which has the address that it names
  pub start_jumps : row m ≡ 2 → {i : ℕ} → address m 1 ≡ map.batch_at + 4 * i → bit (dword m 0) 22 ≡ false
      → stepped ≡ quietly m i m.second m.kept m.registers
  start_jumps e {i} t b = starts e i t ∙ rw b

  -- "With bit 22 set it keeps the position after itself and goes to its target at level 1."
  pub start_calls : row m ≡ 2 → {i : ℕ} → address m 1 ≡ map.batch_at + 4 * i → bit (dword m 0) 22 ≡ true
      → stepped ≡ quietly m i true (some (m.at + total m)) m.registers
  start_calls e {i} t b = starts e i t ∙ rw b

  -- "Row 3 sets registers"
  pub registers_set : row m ≡ 3 → (r : ℕ → ℕ) × (stepped ≡ advanced m r) × PairsSet m r
  registers_set e =
      let r = set_pairs m.registers (dwords m 1 (2 * pairs m)) in
      (r, step_registers map hardware done m w e, record { named = named m (pairs m) 1 m.registers; unnamed = unnamed m (pairs m) 1 m.registers })

  -- "row 6 loads one": from the place of the address in its dwords 2 and 3, to the register in its dword 1
  pub register_loaded : row m ≡ 6 → {v : ℕ} → load_from m (place_of map m (address m 2)) ≡ some v
      → (r : ℕ → ℕ) × (stepped ≡ advanced m r) × OneSet m.registers (dword m 1) v r
  register_loaded e {v} l =
      (update m.registers (dword m 1) v, step_load map hardware done m w e ∙ rw l, update_sets m.registers (dword m 1) v)

  -- "row 4 stores its data dwords; row 5 stores a register; .. row 7 with post-sync stores 8 bytes": the words `to_store` from the address `stores_at` on
  pub words_stored : StoringRow (row m)
      → ((i : ℕ) → i < length (to_store hardware done m) → place_of map m (stores_at m + 4 * i) ≡ outside → ⊥)
      → (e : Effect) × (stepped ≡ goes e) × (e.machine.at ≡ m.at + total m) × WordsChanged map m (stores_at m) (to_store hardware done m) e
  words_stored r k =
      let s = words_changed map (to_store hardware done m) m (stores_at m) k in
      let n = s.0.machine in
      let t = s.3 in (
        record { machine = onward (total m) n; stored = s.0.stored },
        step_stores map hardware done m w r ∙ rw s.1,
        ap (λ (i : ℕ). i + total m) s.2,
        record {
          stored = t.stored;
          each = λ i h. same_words_lem (total m) n (place_of map m (stores_at m + 4 * i)) ∙ t.each i h;
          elsewhere = λ q x. same_words_lem (total m) n q ∙ t.elsewhere q x;
          second = t.second;
          kept = t.kept;
          registers = t.registers;
        },
      )

  -- "Other rows only advance."
  pub others_advance : OtherRow (row m) → stepped ≡ advanced m m.registers
  others_advance r = step_other map hardware done m w r
