-- Dwords that a window holds, and what is known where one of two windows holds them.
-- Assumes nothing.
use Rattle.std.specs.Prelude.{Option, Some, None}
use Prim.Native.Nat.{ℕ, ◌+◌, ◌-◌, ◌*◌, ◌%◌, ◌≤◌}
use mathlib.Core.Path.{◌≡◌, sym}
use mathlib.Core.Bool.{Bool, true, false, cond}
use native.Mathlib.Omega.{arith}
use borrow.Author.Tests.{eqb-true}
use Rattle.rules.specs.declared.Window.{Window}
use Rattle.rules.specs.declared.Held.{Held}
use Rattle.rules.specs.declared.Held.TheVariants.{InBatch, InState}
use Rattle.rules.specs.Windows.{lent, holds, Inside, holds_dwords, dword_of, held_at}
use Rattle.windows.specs.Parts.{WithinItsWindow}
use Rattle.rules.proofs.Searching.{and_left, and_right}
use Rattle.rules.proofs.Ranges.{inside}

module _ (w : Window) (address n : ℕ) where
  bytes_inside : holds_dwords w address n ≡ true → Inside w address (4 * n)
  unfolding holds_dwords
  bytes_inside e = inside w address (4 * n) (and_left (holds w address (4 * n)) _ e)

  whole_dword : holds_dwords w address n ≡ true → (address - w.at) % 4 ≡ 0
  unfolding holds_dwords
  whole_dword e = eqb-true _ _ (and_right (holds w address (4 * n)) _ e)

-- the dwords lie within a window of `count` dwords
pub dwords_inside : (at count address n : ℕ) → holds_dwords (lent at count) address n ≡ true
    → dword_of (lent at count) address + n ≤ count
dwords_inside at count address n e =
    let i = bytes_inside (lent at count) address n e in
    let m = whole_dword (lent at count) address n e in
    omega arith

-- which of the two the answer names
names_batch : (p q : Bool) (j k : ℕ) {i : ℕ} → cond p (Some (InBatch j)) (cond q (Some (InState k)) None) ≡ Some (InBatch i) → (p ≡ true) × (j ≡ i)
names_batch true q j k e = (cc, cc)
names_batch false true j k e = (cc, cc)
names_batch false false j k e = (cc, cc)

names_state : (p q : Bool) (j k : ℕ) {i : ℕ} → cond p (Some (InBatch j)) (cond q (Some (InState k)) None) ≡ Some (InState i) → (q ≡ true) × (k ≡ i)
names_state true q j k e = (cc, cc)
names_state false true j k e = (cc, cc)
names_state false false j k e = (cc, cc)

-- a structure that is found ends within the window that it is found in
module _ (batch_at batch_count state_at state_count address n : ℕ) {i : ℕ} where
  pub within_batch : held_at (lent batch_at batch_count) (lent state_at state_count) address n ≡ Some (InBatch i) → i + n ≤ batch_count
  unfolding held_at
  within_batch e =
      let p = names_batch (holds_dwords (lent batch_at batch_count) address n) (holds_dwords (lent state_at state_count) address n) _ _ e in
      let d = dwords_inside batch_at batch_count address n p.0 in
      omega arith

  pub within_state : held_at (lent batch_at batch_count) (lent state_at state_count) address n ≡ Some (InState i) → i + n ≤ state_count
  unfolding held_at
  within_state e =
      let p = names_state (holds_dwords (lent batch_at batch_count) address n) (holds_dwords (lent state_at state_count) address n) _ _ e in
      let d = dwords_inside state_at state_count address n p.0 in
      omega arith

-- so a part of it can be taken there
pub within_its_window : (batch_at batch_count state_at state_count address n : ℕ) (held : Option Held)
    → held ≡ held_at (lent batch_at batch_count) (lent state_at state_count) address n → WithinItsWindow batch_count state_count n held
within_its_window batch_at batch_count state_at state_count address n (Some (InBatch i)) e =
    within_batch batch_at batch_count state_at state_count address n (sym e)
within_its_window batch_at batch_count state_at state_count address n (Some (InState i)) e =
    within_state batch_at batch_count state_at state_count address n (sym e)
within_its_window batch_at batch_count state_at state_count address n None e = tt
