-- Where a command that is taken leads: the five ways, a return to level 0 among them, and that the walk never leaves the batch.
-- Assumes nothing.
use Rattle.std.specs.Prelude.{Option, None, Some, Ok}
use Prim.Native.Nat.{ℕ, ◌+◌, ◌≤◌, ◌<◌}
use native.Mathlib.Omega.{arith}
use mathlib.Core.Path.{◌≡◌, refl, sym, ap, ◌∙◌}
use mathlib.Core.Bool.{Bool, true, false, cond}
use mathlib.Core.List.{List}
use lib.ListN.{length, get_or}
use lib.Dec.{eqb}
use borrow.Author.Tests.{eqb-true, eqb-false}
use Rattle.rules.specs.declared.Level.{Level}
use Rattle.rules.specs.declared.Level.TheVariants.{First, Second}
use Rattle.rules.specs.declared.Cursor.{Cursor}
use Rattle.rules.specs.declared.Command.{Command}
use Rattle.rules.specs.Words.{bit}
use Rattle.rules.specs.Windows.{Capture, windows_of, dword_of, Inside}
use Rattle.rules.specs.Commands.{rows, the_row, length_of, end_row, start_row}
use Rattle.rules.specs.Uses.{access_at, address_at}
use Rattle.rules.specs.Step.{header_at, row_at, length_at, dwords_at, cursor, after_end, level_after_start, base_after, move_of, step_of}
use Rattle.rules.specs.Walk.{start, Leads, stays, onward}
use Rattle.rules.proofs.Stepping.{Passed, passed, move_at, took}
use Rattle.rules.proofs.Ranges.{in_batch}
use Rattle.rules.proofs.Storing.{access_fits, start_reaches}

-- what the constructors keep apart, and what they keep
pub same_cursor : {u v : Cursor} → Some u ≡ Some v → u ≡ v
same_cursor q = cc

pub ends_nowhere : {t : Cursor} → None ≡ Some t → ⊥
ends_nowhere q = let z : ◌≡◌ {A = ℕ} 0 1 = cc in omega arith

pub first_keeps_none : {back : ℕ} → First ≡ Second back → ⊥
first_keeps_none q = let z : ◌≡◌ {A = ℕ} 0 1 = cc in omega arith

pub same_kept : {a b : ℕ} → Second a ≡ Second b → a ≡ b
same_kept q = cc

-- the position after a command, and a start's target
abbrev pub next_at : Capture → Cursor → ℕ
next_at c s = s.at + length_at c.batch s.at

abbrev pub target_at : Capture → Cursor → ℕ
target_at c s = dword_of (windows_of c).batch (address_at (dwords_at c.batch s.at) 1)

-- the five ways on: a batch end ends the run at level 0 and returns to the kept position, level 0, at level 1; a start goes to its target,
-- keeping the position after itself or not; any other command goes on by its length
pub data Way (c : Capture) (s : Cursor) : Option Cursor → Type 0 where
  ends : row_at c.batch s.at ≡ end_row → s.level ≡ First → Way c s None
  returns : {back : ℕ} → row_at c.batch s.at ≡ end_row → s.level ≡ Second back → Way c s (Some (cursor back First s.base))
  jumps : row_at c.batch s.at ≡ start_row → bit (get_or (dwords_at c.batch s.at) 0 0) 22 ≡ false
      → Way c s (Some (cursor (target_at c s) s.level s.base))
  calls : row_at c.batch s.at ≡ start_row → bit (get_or (dwords_at c.batch s.at) 0 0) 22 ≡ true
      → Way c s (Some (cursor (target_at c s) (Second (next_at c s)) s.base))
  goes_on : (row_at c.batch s.at ≡ end_row → ⊥) → (row_at c.batch s.at ≡ start_row → ⊥)
      → Way c s (Some (cursor (next_at c s) s.level (base_after (row_at c.batch s.at) (dwords_at c.batch s.at) s.base)))

end_way : (c : Capture) (s : Cursor) (l : Level) → s.level ≡ l → row_at c.batch s.at ≡ end_row → Way c s (after_end l s.base)
unfolding after_end
end_way c s First e r = ends r e
end_way c s (Second back) e r = returns r e

start_way : (c : Capture) (s : Cursor) (b : Bool) → bit (get_or (dwords_at c.batch s.at) 0 0) 22 ≡ b
    → row_at c.batch s.at ≡ start_row
    → Way c s (Some (cursor (target_at c s) (cond b (Second (next_at c s)) s.level) s.base))
start_way c s false e r = jumps r e
start_way c s true e r = calls r e

pub way : (c : Capture) (s : Cursor) → Way c s (move_at c s)
unfolding move_of
way c s = by (eqb (row_at c.batch s.at) end_row) (eqb (row_at c.batch s.at) start_row) refl refl
  where
    by : (a b : Bool) → eqb (row_at c.batch s.at) end_row ≡ a → eqb (row_at c.batch s.at) start_row ≡ b
        → Way c s (cond a (after_end s.level s.base)
        (cond b (Some (cursor (target_at c s) (level_after_start (get_or (dwords_at c.batch s.at) 0 0) (next_at c s) s.level) s.base))
        (Some (cursor (next_at c s) s.level (base_after (row_at c.batch s.at) (dwords_at c.batch s.at) s.base)))))
    by true b p q = end_way c s s.level refl (eqb-true _ _ p)
    by false true p q = start_way c s _ refl (eqb-true _ _ q)
    by false false p q = goes_on (eqb-false _ _ p) (eqb-false _ _ q)

-- the way of a command that is taken
pub taken_way : (c : Capture) (s : Cursor) {k : Command} {a : Option Cursor} → step_of c s ≡ Ok (k, a) → Way c s a
taken_way c s e = rw (took c s e).move (way c s)

-- A RETURN COMES BACK TO LEVEL 0, at the position that was kept.
pub return_level : (c : Capture) (s t : Cursor) {k : Command} → step_of c s ≡ Ok (k, Some t) → row_at c.batch s.at ≡ end_row
    → (t.level ≡ First) × (s.level ≡ Second t.at)
return_level c s t e r = by (Some t) refl (taken_way c s e)
  where
    by : (a : Option Cursor) → a ≡ Some t → Way c s a → (t.level ≡ First) × (s.level ≡ Second t.at)
    by a q (ends p l) = absurd (ends_nowhere q)
    by a q (returns p l) = (sym (ap (λ (u : Cursor). u.level) (same_cursor q)), l ∙ ap (λ (u : Cursor). Second u.at) (same_cursor q))
    by a q (jumps p b) = absurd (omega arith)
    by a q (calls p b) = absurd (omega arith)
    by a q (goes_on p n) = absurd (p r)

-- A COMMAND THAT PASSED 9 LIES IN THE BATCH.
pub lies_in_batch : (c : Capture) (s : Cursor) → Passed c s → (k : ℕ) → k < length_at c.batch s.at
    → s.at + k < length c.batch
lies_in_batch c s p k h = omega (arith, p.whole)

-- a start's length, by its field
start_length : (header : ℕ) → 1 < length_of 2 header
unfolding length_of rows the_row
start_length header = omega arith

-- a start that passed 13 leads to a dword of the batch, and its target is that dword's address
pub target_inside : (c : Capture) (s : Cursor) → Passed c s → row_at c.batch s.at ≡ start_row
    → Inside (windows_of c).batch (address_at (dwords_at c.batch s.at) 1) 4
target_inside c s p r =
    let n : 1 < length_at c.batch s.at = rw r (start_length (header_at c.batch s.at)) in
    in_batch (windows_of c) _ 4
    (access_fits (windows_of c) _ (dwords_at c.batch s.at) 1 (ap (λ (i : ℕ). access_at i (dwords_at c.batch s.at) 1) r ∙ start_reaches _)
    (p.ranges 1 n))

pub target_in_batch : (c : Capture) (s : Cursor) → Passed c s → row_at c.batch s.at ≡ start_row
    → target_at c s < length c.batch
unfolding windows_of
target_in_batch c s p r =
    let i = target_inside c s p r in
    let l = i.low in
    let h = i.high in
    omega arith

-- the position never goes above the batch's count, the kept position neither
pub record Within (c : Capture) (s : Cursor) : Type 0 where
  pub position : s.at ≤ length c.batch
  pub kept : (back : ℕ) → s.level ≡ Second back → back ≤ length c.batch

pub stays_within : (c : Capture) (s : Cursor) {k : Command} {t : Cursor} → Within c s → step_of c s ≡ Ok (k, Some t) → Within c t
stays_within c s {k} {t} w e = by (Some t) refl (taken_way c s e)
  where
    p : Passed c s
    p = passed c s (took c s e).passes

    by : (a : Option Cursor) → a ≡ Some t → Way c s a → Within c t
    by a q (ends r l) = absurd (ends_nowhere q)
    by a q (returns {back = back} r l) = rw (← same_cursor q) (record { position = w.kept back l; kept = λ b m. absurd (first_keeps_none m) })
    by a q (jumps r b) = rw (← same_cursor q) (record { position = omega (arith, target_in_batch c s p r); kept = w.kept })
    by a q (calls r b) = rw (← same_cursor q) (record { position = omega (arith, target_in_batch c s p r); kept = λ b m. omega (arith, same_kept m, p.whole) })
    by a q (goes_on r n) = rw (← same_cursor q) (record { position = p.whole; kept = w.kept })

-- wherever the walk leads from its start, so that number 6, "position equals the batch count", is given exactly there
pub always_within : (c : Capture) {s t : Cursor} {ks : List Command} → Within c s → Leads c s ks t → Within c t
always_within c w stays = w
always_within c w (onward e l) = always_within c (stays_within c _ w e) l

pub starts_within : (c : Capture) (base : Option ℕ) → Within c (start base)
starts_within c base = record { position = omega arith; kept = λ back m. absurd (first_keeps_none m) }
