-- The streamer beside the walk: a machine that agrees with a cursor finds the row, the length and the dwords of the command that stands there.
-- Assumes nothing.
use Prim.Native.Nat.{ℕ, zero, suc, ◌+◌, ◌-◌, ◌/◌, ◌%◌, ◌<◌}
use native.Mathlib.Nat.{add-zero}
use native.Mathlib.Omega.{arith}
use mathlib.Core.Path.{◌≡◌, sym, ap, ◌∙◌}
use mathlib.Core.Bool.{Bool, true, false}
use mathlib.Core.List.{List}
use mathlib.Core.Option.{some}
use mathlib.Core.Logic.{⊎_elim}
use lib.ListN.{length, get_or, drop}
use lib.Seq.{get_or-take, get_or-drop}
use lib.Bits.{bit_and, and_mod, and_zero_r}
use lib.Dec.{lit<}
use borrow.Author.Tests.{eqb-true, not-false}
use Rattle.rules.specs.declared.Level.{Level}
use Rattle.rules.specs.declared.Level.TheVariants.{First, Second}
use Rattle.rules.specs.declared.Cursor.{Cursor}
use Rattle.rules.specs.declared.Within.TheVariants.{AnyWindow}
use Rattle.rules.specs.Words.{allowed}
use Rattle.rules.specs.Windows.{Capture, windows_of, windows_within, listed, holds, Inside, fits}
use Rattle.rules.specs.Commands.{Length, no_field, exactly, by_bit, groups, the_row, dword_count, length_of}
use Rattle.rules.specs.Uses.{address_at}
use Rattle.rules.specs.Masks.{allowed_at, bit_wrong}
use Rattle.rules.specs.Step.{header_at, row_at, length_at, dwords_at}
use Rattle.rules.proofs.Ranges.{inside, Sound, no_window, some_at}
use Rattle.rules.proofs.Stepping.{Passed}
use Rattle.replay.specs.Streamer.{Machine}
use Rattle.replay.specs.Streamer.{Place, batch_word, state_word, scratch_word, place_of, load_from}
use Rattle.replay.specs.Conduct.{map_of}
use Rattle.replay.specs.Runs.{fetched_command}
use Rattle.replay.specs.Uses.{row, total, dword, address, Has, address_of}
use Rattle.replay.proofs.Stores.{Windowed}
use Rattle.replay.proofs.Words.{has_load, outside_or_has, outside_has_none}

abbrev pub is_second : Level → Bool
is_second First = false
is_second (Second back) = true

-- the machine stands where the walk stands: its position and level, at level 1 the kept position, and the windows
pub record Agrees (c : Capture) (s : Cursor) (m : Machine) : Type 0 where
  pub at : m.at ≡ s.at
  pub level : m.second ≡ is_second s.level
  pub kept : (back : ℕ) → s.level ≡ Second back → m.kept ≡ some back
  pub windowed : Windowed c m

-- a word in any of the windows can be loaded
module _ (c : Capture) (s : Sound (listed (windows_of c))) (m : Machine) (w : Windowed c m) (a : ℕ) (e : a % 4 ≡ 0) where
  has_inside : (i : ℕ) → i < 3 → Inside (get_or (listed (windows_of c)) i no_window) a 4
      → (p : Place) × Has m p × (a ≡ address_of (map_of c) p)
  unfolding windows_of
  has_inside zero h i =
      let l = i.low in
      let k = i.high in
      let g : c.batch_at % 4096 ≡ 0 = s.aligned 0 (lit< tt) in
      (batch_word ((a - c.batch_at) / 4), omega (arith, ap length w.batch), omega arith)
  has_inside (suc zero) h i =
      let l = i.low in
      let k = i.high in
      let g : c.state_at % 4096 ≡ 0 = s.aligned 1 (lit< tt) in
      (state_word ((a - c.state_at) / 4), omega (arith, ap length w.state), omega arith)
  has_inside (suc (suc zero)) h i =
      let l = i.low in
      let k = i.high in
      let g : c.scratch_at % 4096 ≡ 0 = s.aligned 2 (lit< tt) in
      (scratch_word ((a - c.scratch_at) / 4), omega (arith, w.scratch), omega arith)
  has_inside (suc (suc (suc i))) h j = absurd (omega arith)

  pub loaded_word : fits (windows_of c) AnyWindow a 4 ≡ true → (v : ℕ) × (load_from m (place_of (map_of c) m a) ≡ some v)
  unfolding fits windows_within
  loaded_word f =
      let o = some_at (λ v. holds v a 4) no_window (listed (windows_of c)) f in
      let x = has_inside o.0 o.1 (inside _ a 4 o.2) in
      ⊎_elim (λ q. absurd (outside_has_none (map_of c) m a q x.0 x.1 x.2)) (λ h. has_load m (place_of (map_of c) m a) h.0) (outside_or_has (map_of c) m a)

-- a word whose allowed bits leave out the lowest two is a multiple of 4
pub multiple_of_4 : (w mask : ℕ) → allowed w mask ≡ true → mask % 4 ≡ 0 → w % 4 ≡ 0
unfolding allowed
multiple_of_4 w mask e h =
    let a = eqb-true (bit_and w mask) w e in
    ap (λ (x : ℕ). x % 4) (sym a) ∙ and_mod w mask 2 ∙ ap (bit_and (w % 4)) h ∙ and_zero_r (w % 4)

-- every command has its header
pub some_long : (r header : ℕ) → 0 < length_of r header
unfolding length_of
some_long r header = by (the_row r).total
  where
    by : (t : Length) → 0 < dword_count t header
    by no_field = omega arith
    by (exactly f) = omega arith
    by (by_bit b f g) = omega arith
    by (groups n) = omega arith

module _ (c : Capture) (s : Cursor) (m : Machine) (p : Passed c s) (g : Agrees c s m) where
  abbrev dwords : List ℕ
  dwords = dwords_at c.batch s.at

  abbrev long : ℕ
  long = length_at c.batch s.at

  -- a dword of the command, in the batch and among its own
  pub own_dword : (k : ℕ) → k < length_at c.batch s.at → get_or (dwords_at c.batch s.at) k 0 ≡ get_or c.batch (s.at + k) 0
  unfolding dwords_at
  own_dword k h = get_or-take long (drop s.at c.batch) k 0 h ∙ get_or-drop s.at c.batch k 0

  -- what the machine fetches, in the words of the walk
  pub row_is : row m ≡ row_at c.batch s.at
  unfolding fetched_command
  row_is = rw (g.windowed.batch, g.at)

  pub total_is : total m ≡ length_at c.batch s.at
  unfolding fetched_command
  total_is = rw (g.windowed.batch, g.at)

  pub dword_is : (k : ℕ) → k < length_at c.batch s.at → dword m k ≡ get_or (dwords_at c.batch s.at) k 0
  dword_is k h = rw (g.windowed.batch, g.at) (sym (own_dword k h))

  pub address_is : (k : ℕ) → k + 1 < length_at c.batch s.at → address m k ≡ address_at (dwords_at c.batch s.at) k
  unfolding address_at
  address_is k h = rw (dword_is k (omega arith), dword_is (k + 1) h)

  -- the header, as the table is asked
  pub header_is : get_or (dwords_at c.batch s.at) 0 0 ≡ header_at c.batch s.at
  header_is = own_dword 0 (some_long (row_at c.batch s.at) (header_at c.batch s.at)) ∙ ap (λ (i : ℕ). get_or c.batch i 0) (add-zero s.at)

  -- an address whose low dword allows no lowest bits
  pub aligned : (k : ℕ) → k < length_at c.batch s.at
      → allowed_at (row_at c.batch s.at) (dwords_at c.batch s.at) k % 4 ≡ 0
      → address_at (dwords_at c.batch s.at) k % 4 ≡ 0
  unfolding address_at bit_wrong
  aligned k h e =
      let d = multiple_of_4 (get_or dwords k 0) _ (not-false _ (p.bits k h)) e in
      omega arith
