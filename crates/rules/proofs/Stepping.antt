-- What a command that is taken has passed: each of the checks 6 to 17, said of the command's own dwords.
-- Assumes nothing.
use Rattle.std.specs.Prelude.{Ok, Err, None, Option}
use Prim.Native.Nat.{ℕ, ◌+◌, ◌≤◌, ◌<◌}
use native.Mathlib.Omega.{arith}
use mathlib.Core.Path.{◌≡◌, refl, sym, ap}
use mathlib.Core.Bool.{Bool, true, false}
use lib.ListN.{length}
use borrow.Author.Tests.{ltb-false, leb-false, not-false}
use Rattle.rules.specs.Step.{Outcome}
use Rattle.rules.specs.declared.Cursor.{Cursor}
use Rattle.rules.specs.declared.Command.{Command}
use Rattle.rules.specs.declared.Fault.{Fault}
use Rattle.rules.specs.Refusals.{Verdict}
use Rattle.rules.specs.Words.{first_of}
use Rattle.rules.specs.Refusals.{first_fault}
use Rattle.rules.specs.Windows.{Capture, windows_of}
use Rattle.rules.specs.Commands.{row_count, length_right}
use Rattle.rules.specs.Masks.{bit_wrong}
use Rattle.rules.specs.Values.{value_wrong}
use Rattle.rules.specs.Addresses.{range_wrong}
use Rattle.rules.specs.Structures.{structure_nowhere, structure_bit, structure_value, structure_checks}
use Rattle.rules.specs.Step.{here, header_at, row_at, length_at, dwords_at, pointer_of, nested, base_missing, of_structure}
use Rattle.rules.specs.Step.{ran_off, unknown_header, wrong_length, past_the_window, bit_not_allowed, nested_start, value_broken}
use Rattle.rules.specs.Step.{range_outside, base_never_set, step_checks, move_of, command_at, outcome_of, step_of}
use Rattle.rules.proofs.Searching.{none_found}
use Rattle.rules.proofs.Trying.{same_answer, all_pass, refuse_passes, search_clear}

-- what the walk does with a command that passes
abbrev pub move_at : Capture → Cursor → Option Cursor
move_at c s = move_of c s (row_at c.batch s.at) (dwords_at c.batch s.at) (s.at + length_at c.batch s.at)

-- the command at a cursor passes the checks 6 to 17
pub record Passed (c : Capture) (s : Cursor) : Type 0 where
  pub inside : s.at < length c.batch
  pub known : row_at c.batch s.at < row_count
  pub right : length_right (row_at c.batch s.at) (header_at c.batch s.at) ≡ true
  pub whole : s.at + length_at c.batch s.at ≤ length c.batch
  pub bits : (k : ℕ) → k < length_at c.batch s.at → bit_wrong (row_at c.batch s.at) (dwords_at c.batch s.at) k ≡ false
  pub unnested : nested (row_at c.batch s.at) s.level ≡ false
  pub values : (k : ℕ) → k < length_at c.batch s.at
      → value_wrong (row_at c.batch s.at) (dwords_at c.batch s.at) k ≡ false
  pub ranges : (k : ℕ) → k < length_at c.batch s.at
      → range_wrong (windows_of c) (row_at c.batch s.at) (dwords_at c.batch s.at) k ≡ false
  pub based : base_missing (pointer_of (row_at c.batch s.at) (dwords_at c.batch s.at)) s.base ≡ false
  pub somewhere : of_structure structure_nowhere (here c s) ≡ Ok tt
  pub structure_bits : of_structure structure_bit (here c s) ≡ Ok tt
  pub structure_values : of_structure structure_value (here c s) ≡ Ok tt

-- a step is taken exactly where every check passes, and then it is the command that stands there and its move
pub record Took (c : Capture) (s : Cursor) (k : Command) (a : Option Cursor) : Type 0 where
  pub passes : first_fault step_checks (here c s) ≡ Ok tt
  pub command : k ≡ command_at c.batch s
  pub move : a ≡ move_at c s

pub taken_command : {k l : Command} {a b : Option Cursor} → ◌≡◌ {A = Outcome} (Ok (k, a)) (Ok (l, b)) → l ≡ k
taken_command e = ap (λ (p : Command × Option Cursor). p.0) (sym (same_answer e))

pub taken_after : {k l : Command} {a b : Option Cursor} → ◌≡◌ {A = Outcome} (Ok (k, a)) (Ok (l, b)) → b ≡ a
taken_after e = ap (λ (p : Command × Option Cursor). p.1) (sym (same_answer e))

never_taken : {f : Fault} {k : Command} {a : Option Cursor} → ◌≡◌ {A = Outcome} (Err f) (Ok (k, a)) → ⊥
never_taken e = let z : ◌≡◌ {A = ℕ} 0 1 = cc in omega arith

pub took : (c : Capture) (s : Cursor) {k : Command} {a : Option Cursor} → step_of c s ≡ Ok (k, a) → Took c s k a
unfolding step_of
took c s {k} {a} e = by (first_fault step_checks (here c s)) refl e
  where
    by : (v : Verdict) → first_fault step_checks (here c s) ≡ v → outcome_of v (command_at c.batch s) (move_at c s) ≡ Ok (k, a)
        → Took c s k a
    by (Ok _) p q = record { passes = p; command = taken_command q; move = taken_after q }
    by (Err f) p q = absurd (never_taken q)

pub takes : (c : Capture) (s : Cursor) → first_fault step_checks (here c s) ≡ Ok tt
    → step_of c s ≡ Ok (command_at c.batch s, move_at c s)
unfolding step_of
takes c s e = rw e

refused_fault : {f g : Fault} → ◌≡◌ {A = Outcome} (Err f) (Err g) → f ≡ g
refused_fault e = cc

never_refused : {f : Fault} {k : Command} {a : Option Cursor} → ◌≡◌ {A = Outcome} (Ok (k, a)) (Err f) → ⊥
never_refused e = let z : ◌≡◌ {A = ℕ} 0 1 = cc in omega arith

-- and it is refused exactly with the first fault
pub refused_by : (c : Capture) (s : Cursor) {f : Fault} → step_of c s ≡ Err f → first_fault step_checks (here c s) ≡ Err f
unfolding step_of
refused_by c s {f} e = by (first_fault step_checks (here c s)) e
  where
    by : (v : Verdict) → outcome_of v (command_at c.batch s) (move_at c s) ≡ Err f → v ≡ Err f
    by (Ok _) q = absurd (never_refused q)
    by (Err g) q = ap Err (refused_fault q)

pub refuses : (c : Capture) (s : Cursor) {f : Fault} → first_fault step_checks (here c s) ≡ Err f → step_of c s ≡ Err f
unfolding step_of
refuses c s e = rw e

-- a search over the command's dwords that finds nothing clears each of them
each_clear : (bad : ℕ → Bool) (n : ℕ) → first_of bad n ≡ None → (k : ℕ) → k < n → bad k ≡ false
each_clear bad n e k h = none_found bad 0 n e k (omega arith) (omega arith)

-- the checks one by one
pub passed : (c : Capture) (s : Cursor) → first_fault step_checks (here c s) ≡ Ok tt → Passed c s
unfolding step_checks structure_checks ran_off unknown_header wrong_length past_the_window bit_not_allowed nested_start value_broken range_outside base_never_set
passed c s e =
    let p = all_pass (here c s) step_checks e in
    record {
      inside = leb-false _ _ (refuse_passes _ _ p.0);
      known = leb-false _ _ (refuse_passes _ _ p.1.0);
      right = not-false _ (refuse_passes _ _ p.1.1.0);
      whole = ltb-false _ _ (refuse_passes _ _ p.1.1.1.0);
      bits = each_clear _ _ (search_clear _ _ _ _ p.1.1.1.1.0);
      unnested = refuse_passes _ _ p.1.1.1.1.1.0;
      values = each_clear _ _ (search_clear _ _ _ _ p.1.1.1.1.1.1.0);
      ranges = each_clear _ _ (search_clear _ _ _ _ p.1.1.1.1.1.1.1.0);
      based = refuse_passes _ _ p.1.1.1.1.1.1.1.1.0;
      somewhere = p.1.1.1.1.1.1.1.1.1.0;
      structure_bits = p.1.1.1.1.1.1.1.1.1.1.0;
      structure_values = p.1.1.1.1.1.1.1.1.1.1.1.0;
    }
