-- One step: wherever the walk takes a command, the streamer runs the same command, stores only in scratch, and stands where the walk stands next.
-- Assumes nothing.
use Rattle.std.specs.Prelude.{Option, None, Some, Ok}
use Prim.Native.Nat.{ℕ, ◌+◌, ◌-◌, ◌*◌, ◌%◌, ◌≤◌, ◌<◌}
use native.Mathlib.Omega.{arith}
use mathlib.Core.Path.{◌≡◌, refl, sym, ap, ap₂, ◌∙◌, subst}
use mathlib.Core.Bool.{Bool, true, false, cond}
use mathlib.Core.List.{List, []}
use mathlib.Core.Option.{some}
use mathlib.Core.Logic.{◌⊎◌, inl, inr}
use lib.ListN.{length, get_or}
use lib.Dec.{eqb, lit<}
use borrow.Author.Tests.{eqb-true, eqb-false, eq-eqb, le-leb}
use Rattle.rules.specs.Step.{Base}
use Rattle.rules.specs.declared.Level.{Level}
use Rattle.rules.specs.declared.Level.TheVariants.{First, Second}
use Rattle.rules.specs.declared.Cursor.{Cursor}
use Rattle.rules.specs.declared.Command.{Command}
use Rattle.rules.specs.Words.{bit, field, in_group}
use Rattle.rules.specs.Windows.{Capture, windows_of, Inside, listed}
use Rattle.rules.specs.Commands.{exactly, rows, the_row, length_of, group_size, length_right}
use Rattle.rules.specs.Uses.{address_at, uses_by_row, access_of, used_high_of}
use Rattle.rules.specs.Masks.{allowed_of, masks_of, allowed_at}
use Rattle.rules.specs.Addresses.{range_wrong}
use Rattle.rules.specs.Step.{header_at, row_at, length_at, dwords_at, cursor, command_at as walk_command, step_of}
use Rattle.rules.proofs.Stepping.{Passed, passed, took}
use Rattle.rules.proofs.Ranges.{Sound}
use Rattle.rules.proofs.Storing.{Stores, stores_data, stores_register, stores_post_sync, stores_in_scratch, access_fits, load_register_reaches}
use Rattle.rules.proofs.Moving.{Way, ends, returns, jumps, calls, goes_on, taken_way, target_inside, target_at, first_keeps_none, same_kept}
use Rattle.replay.specs.Streamer.{Machine, machine, Effect, Step, goes, Hardware, store_words, onward, stores, update, with_registers}
use Rattle.replay.specs.Streamer.{end_batch, going_to, start_batch, step}
use Rattle.replay.specs.Uses.{row, total, dword, post_sync, operands, to_store, stores_at, StoringRow, Whole}
use Rattle.replay.specs.Runs.{level_of, fetched_command}
use Rattle.replay.specs.Conduct.{map_of, AllInScratch}
use Rattle.replay.proofs.Stores.{Windowed, Stored, stored_words}
use Rattle.replay.proofs.Fetching.{is_second, Agrees, loaded_word, some_long, row_is, total_is, dword_is, address_is, header_is, aligned}
use Rattle.replay.proofs.Steps.{Kind, an_end, a_start, sets, loads, storing as a_store, other, kind, no_operands, dwords_counted}
use Rattle.replay.proofs.Steps.{step_end, step_start, step_registers, step_load, step_stores, step_other}

-- the streamer's step that a walk's move stands for, and where it leaves the machine
abbrev pub step_with : Option Cursor → Effect → Step
step_with None e = Rattle.replay.specs.Streamer.ends e
step_with (Some t) e = goes e

abbrev pub Led : Capture → Option Cursor → Machine → Type 0
Led c None m = Windowed c m
Led c (Some t) m = Agrees c t m

-- the streamer's step beside a command that the walk takes
pub record Simulated (c : Capture) (hardware : Hardware) (done : ℕ) (m : Machine) (k : Command) (a : Option Cursor) : Type 0 where
  pub effect : Effect
  pub steps : step (map_of c) hardware done m ≡ step_with a effect
  pub led : Led c a effect.machine
  pub inside : AllInScratch c effect.stored
  pub command : fetched_command m ≡ k

-- what the length rule says of a command's length
exact_length : (r header : ℕ) {f : ℕ} → (the_row r).total ≡ exactly f → length_right r header ≡ true → length_of r header ≡ f + 2
unfolding length_right length_of
exact_length r header {f} t e = rw t (ap (λ (x : ℕ). x + 2) (eqb-true _ f (rw t at e)))

store_length : (header : ℕ) → length_right 4 header ≡ true → 4 ≤ length_of 4 header
unfolding length_right length_of rows the_row group_size
store_length header e = by (bit header 21) (eqb-true _ _ e)
  where
    by : (b : Bool) → field header 7 0 ≡ cond b 3 2 → 4 ≤ field header 7 0 + 2
    by true q = omega arith
    by false q = omega arith

-- the level that a record names
same_level_lem : (l : Level) {b : Bool} → b ≡ is_second l → level_of b ≡ Rattle.rules.specs.Step.level_number l
same_level_lem First e = rw e
same_level_lem (Second back) e = rw e

module _ (c : Capture) (sound : Sound (listed (windows_of c))) (hardware : Hardware) (done : ℕ) (s : Cursor) (m : Machine) (p : Passed c s) (g : Agrees c s m) where
  abbrev row_here : ℕ
  row_here = row_at c.batch s.at

  abbrev header : ℕ
  header = header_at c.batch s.at

  abbrev length_here : ℕ
  length_here = length_at c.batch s.at

  abbrev dwords_here : List ℕ
  dwords_here = dwords_at c.batch s.at

  abbrev run : Step
  run = step (map_of c) hardware done m

  -- the row that the machine finds, and the length that this row gives it
  in_row : {k : ℕ} → row m ≡ k → row_here ≡ k
  in_row e = sym (row_is c s m p g) ∙ e

  right : {k : ℕ} → row m ≡ k → length_right k header ≡ true
  right e = ap (λ (i : ℕ). length_right i header) (sym (in_row e)) ∙ p.right

  exact : (k : ℕ) {f : ℕ} → row m ≡ k → (the_row k).total ≡ exactly f → length_here ≡ f + 2
  exact k e t = ap (λ (i : ℕ). length_of i header) (in_row e) ∙ exact_length k header t (right e)

  store_long : row m ≡ 4 → 4 ≤ length_here
  store_long e = rw (in_row e) (store_length header (right e))

  -- every dword that it uses is its own, so that it is whole
  uses_own : Kind (row m) → operands m < length_here
  unfolding operands rows the_row
  uses_own (an_end e) = rw e (some_long row_here header)
  uses_own (a_start e) = let l : length_here ≡ 3 = exact 2 e refl in rw e (omega arith)
  uses_own (sets e) = let l = some_long row_here header in let t = total_is c s m p g in rw e (omega arith)
  uses_own (loads e) = let l : length_here ≡ 4 = exact 6 e refl in rw e (omega arith)
  uses_own (a_store (inl e)) = let l = store_long e in let t = total_is c s m p g in rw e (omega arith)
  uses_own (a_store (inr (inl e))) = let l : length_here ≡ 4 = exact 5 e refl in rw e (omega arith)
  uses_own (a_store (inr (inr e))) = let l : length_here ≡ 6 = exact 7 e refl in rw (e, l) (by (eqb (post_sync m) 0) (eqb (post_sync m) 1))
    where
      by : (a b : Bool) → cond a 1 (cond b 5 3) < 6
      by true b = lit< tt
      by false true = lit< tt
      by false false = lit< tt
  uses_own (other o) = rw (no_operands m o) (some_long row_here header)

  whole : Whole m
  whole = record {
    known = λ e. let k = p.known in let q = in_row e in omega arith;
    inside = omega (arith, uses_own (kind (row m)), p.whole, g.at, ap length g.windowed.batch);
  }

  -- the command that it runs
  same_command_lem : fetched_command m ≡ walk_command c.batch s
  unfolding fetched_command walk_command
  same_command_lem = rw (g.windowed.batch, g.at, same_level_lem s.level g.level)

  -- a command that goes on by its length
  abbrev Went : Base → Type 0
  Went b = (x : Effect) × (run ≡ goes x) × Agrees c (cursor (s.at + length_here) s.level b) x.machine × AllInScratch c x.stored

  went : {e : Effect} (b : Base) → Stored c m e
      → run ≡ goes (record { machine = onward (total m) e.machine; stored = e.stored }) → Went b
  went {e} b t q = (
    record { machine = onward (total m) e.machine; stored = e.stored },
    q,
    record {
      at = ap₂ (λ (i j : ℕ). i + j) (t.at ∙ g.at) (total_is c s m p g);
      level = t.second ∙ g.level;
      kept = λ back l. t.kept ∙ g.kept back l;
      windowed = record { batch = t.windowed.batch; state = t.windowed.state; scratch = t.windowed.scratch };
    },
    t.inside,
  )

  -- with other registers, and nothing stored
  idle : (registers : ℕ → ℕ) → Stored c m (record { machine = with_registers m registers; stored = [] })
  idle registers = record {
    at = refl;
    second = refl;
    kept = refl;
    windowed = record { batch = g.windowed.batch; state = g.windowed.state; scratch = g.windowed.scratch };
    inside = tt;
  }

  -- the allowed bits of the low dwords of addresses leave out the lowest two
  low_1 : (r : ℕ) → (r ≡ 2) ⊎ (r ≡ 4) → allowed_at r dwords_here 1 % 4 ≡ 0
  unfolding allowed_of allowed_at masks_of rows the_row group_size in_group uses_by_row access_of used_high_of
  low_1 r (inl e) = rw e
  low_1 r (inr e) = rw e

  low_2 : (r : ℕ) → (r ≡ 5) ⊎ (r ≡ 6) ⊎ (r ≡ 7) → allowed_at r dwords_here 2 % 4 ≡ 0
  unfolding allowed_of allowed_at masks_of rows the_row group_size in_group uses_by_row access_of used_high_of
  low_2 r (inl e) = rw e
  low_2 r (inr (inl e)) = rw e
  low_2 r (inr (inr e)) = rw e

  -- what a store's range says
  in_scratch_lem : (k : ℕ) → row_here ≡ k → {low bytes : ℕ} → Stores dwords_here k low bytes → low < length_here
      → Inside (windows_of c).scratch (address_at dwords_here low) bytes
  in_scratch_lem k e {low} {bytes} t l =
      stores_in_scratch (windows_of c) k dwords_here low bytes t (ap₂ length_right (sym e) (header_is c s m p g) ∙ p.right)
      (ap (λ (i : ℕ). range_wrong (windows_of c) i dwords_here low) (sym e) ∙ p.ranges low l)

  -- words stored in scratch, at the address in the dwords `low` and `low + 1`
  storing : (b : Base) → StoringRow (row m) → (low : ℕ) {bytes : ℕ} → low < length_here → stores_at m ≡ address_at dwords_here low
      → allowed_at row_here dwords_here low % 4 ≡ 0
      → Inside (windows_of c).scratch (address_at dwords_here low) bytes → bytes ≡ 4 * length (to_store hardware done m) → Went b
  storing b k low l a free i many =
      let ws = to_store hardware done m in
      let x = stored_words c sound ws m g.windowed (stores_at m) (rw a (aligned c s m p g low l free))
      (rw a (subst (λ (size : ℕ). Inside (windows_of c).scratch (address_at dwords_here low) size) many i)) in
      went b x.2 (step_stores (map_of c) hardware done m whole k ∙ ap (stores (total m)) x.1)

  store_case : (b : Base) → row m ≡ 4 → Went b
  unfolding stores_at to_store
  store_case b e =
      let l = store_long e in
      storing b (inl e) 1 (omega arith) (rw e (address_is c s m p g 1 (omega arith))) (low_1 row_here (inr (in_row e))) (in_scratch_lem 4 (in_row e) stores_data (omega arith))
      (rw (e, dwords_counted m (total m - 3) 3, total_is c s m p g, header_is c s m p g) (ap (λ (i : ℕ). 4 * (length_of i header - 3)) (sym (in_row e))))

  store_register_case : (b : Base) → row m ≡ 5 → Went b
  unfolding stores_at to_store rows the_row
  store_register_case b e =
      let l : length_here ≡ 4 = exact 5 e refl in
      storing b (inr (inl e)) 2 (omega arith) (rw e (address_is c s m p g 2 (omega arith))) (low_2 row_here (inl (in_row e))) (in_scratch_lem 5 (in_row e) stores_register (omega arith))
      (rw e)

  load_register_case : (b : Base) → row m ≡ 6 → Went b
  unfolding rows the_row
  load_register_case b e =
      let l : length_here ≡ 4 = exact 6 e refl in
      let f = access_fits (windows_of c) 6 dwords_here 2 (load_register_reaches dwords_here) (ap (λ (i : ℕ). range_wrong (windows_of c) i dwords_here 2) (sym (in_row e)) ∙ p.ranges 2 (omega arith)) in
      let v = loaded_word c sound m g.windowed (address_at dwords_here 2) (aligned c s m p g 2 (omega arith) (low_2 row_here (inr (inl (in_row e))))) f in
      went b (idle (update m.registers (dword m 1) v.0))
      (step_load (map_of c) hardware done m whole e ∙ rw (address_is c s m p g 2 (omega arith), v.1))

  pipe_case : (b : Base) → row m ≡ 7 → Went b
  unfolding stores_at to_store store_words rows the_row
  pipe_case b e = by (eqb (post_sync m) 0) (eqb (post_sync m) 1) refl refl
    where
      l : length_here ≡ 6
      l = exact 7 e refl

      some_sync : eqb (post_sync m) 0 ≡ false → 8 ≡ 4 * length (to_store hardware done m) → Went b
      some_sync q many =
          let given : (field (get_or dwords_here 1 0) 15 14 ≡ 0 → ⊥) = rw (dword_is c s m p g 1 (omega (arith, l))) at (eqb-false (post_sync m) 0 q) in
          storing b (inr (inr e)) 2 (omega (arith, l)) (rw e (address_is c s m p g 2 (omega (arith, l)))) (low_2 row_here (inr (inr (in_row e))))
          (in_scratch_lem 7 (in_row e) (stores_post_sync given) (omega (arith, l))) many

      by : (x y : Bool) → eqb (post_sync m) 0 ≡ x → eqb (post_sync m) 1 ≡ y → Went b
      by true y q t = went b (idle m.registers) (step_stores (map_of c) hardware done m whole (inr (inr e)) ∙ rw (e, q))
      by false true q t = some_sync q (rw (e, q, t))
      by false false q t = some_sync q (rw (e, q, t))

  -- all that go on by their length
  others : (b : Base) → (row_here ≡ 1 → ⊥) → (row_here ≡ 2 → ⊥) → Kind (row m) → Went b
  others b not-1 not-2 (an_end e) = absurd (not-1 (in_row e))
  others b not-1 not-2 (a_start e) = absurd (not-2 (in_row e))
  others b not-1 not-2 (sets e) = went b (idle _) (step_registers (map_of c) hardware done m whole e)
  others b not-1 not-2 (loads e) = load_register_case b e
  others b not-1 not-2 (a_store (inl e)) = store_case b e
  others b not-1 not-2 (a_store (inr (inl e))) = store_register_case b e
  others b not-1 not-2 (a_store (inr (inr e))) = pipe_case b e
  others b not-1 not-2 (other o) = went b (idle m.registers) (step_other (map_of c) hardware done m whole o)

  -- a start: its target is a dword of the batch
  starting : row_here ≡ 2 → run ≡ goes (record { machine = going_to m (bit (get_or dwords_here 0 0) 22) (m.at + length_here) (target_at c s); stored = [] })
  unfolding rows the_row start_batch windows_of
  starting e =
      let q = row_is c s m p g ∙ e in
      let l : length_here ≡ 3 = exact 2 q refl in
      let i = target_inside c s p e in
      let a = aligned c s m p g 1 (omega arith) (low_1 row_here (inl e)) in
      let k : c.batch_at % 4096 ≡ 0 = sound.aligned 0 (lit< tt) in
      let lo : c.batch_at ≤ address_at dwords_here 1 = i.low in
      let f : (address_at dwords_here 1 - c.batch_at) % 4 ≡ 0 = omega arith in
      step_start (map_of c) hardware done m whole q
      ∙ rw (dword_is c s m p g 0 (omega arith), total_is c s m p g, address_is c s m p g 1 (omega arith), le-leb _ _ lo, eq-eqb _ 0 f)

  -- the windows stay as they are
  kept_windows : (x : Machine) → x.batch ≡ m.batch → x.state ≡ m.state → x.scratch ≡ m.scratch → Windowed c x
  kept_windows x b t u = record { batch = b ∙ g.windowed.batch; state = t ∙ g.windowed.state; scratch = ap length u ∙ g.windowed.scratch }

  moved : {a : Option Cursor} → Way c s a → (x : Effect) × (run ≡ step_with a x) × Led c a x.machine × AllInScratch c x.stored
  unfolding end_batch
  moved (ends r l) =
      (record { machine = m; stored = [] }, step_end (map_of c) hardware done m whole (row_is c s m p g ∙ r) ∙ rw (g.level, l), g.windowed, tt)
  moved (returns {back = back} r l) = (
    record { machine = machine back false m.kept m.registers m.batch m.state m.scratch; stored = [] },
    step_end (map_of c) hardware done m whole (row_is c s m p g ∙ r) ∙ rw (g.level, l, g.kept back l),
    record { at = refl; level = refl; kept = λ b q. absurd (first_keeps_none q); windowed = kept_windows _ refl refl refl },
    tt,
  )
  moved (jumps r b) = (
    record { machine = going_to m false (m.at + length_here) (target_at c s); stored = [] },
    starting r ∙ rw b,
    record { at = refl; level = g.level; kept = g.kept; windowed = kept_windows _ refl refl refl },
    tt,
  )
  moved (calls r b) = (
    record { machine = going_to m true (m.at + length_here) (target_at c s); stored = [] },
    starting r ∙ rw b,
    record {
      at = refl;
      level = refl;
      kept = λ back q. ap some (ap (λ (i : ℕ). i + length_here) g.at ∙ same_kept q);
      windowed = kept_windows _ refl refl refl;
    },
    tt,
  )
  moved (goes_on not-1 not-2) = others _ not-1 not-2 (kind (row m))

-- THE STEP
pub simulated : (c : Capture) → Sound (listed (windows_of c))
    → (hardware : Hardware) (done : ℕ) (s : Cursor) (m : Machine) {k : Command} {a : Option Cursor} → Agrees c s m → step_of c s ≡ Ok (k, a)
    → Simulated c hardware done m k a
simulated c sound hardware done s m g e =
    let t = took c s e in
    let p = passed c s t.passes in
    let x = moved c sound hardware done s m p g (taken_way c s e) in
    record {
      effect = x.0;
      steps = x.1;
      led = x.2;
      inside = x.3;
      command = same_command_lem c sound hardware done s m p g ∙ sym t.command;
    }
