-- The ways out of one step, over the numbers that the code has at each.
-- Assumes nothing.
use Rattle.std.specs.Prelude.{Ok, Err, Option}
use Prim.Native.Nat.{ℕ, ◌+◌, ◌-◌, ◌≤◌, ◌<◌}
use native.Mathlib.Omega.{arith}
use mathlib.Core.Path.{◌≡◌, refl, sym, ap, ◌∙◌}
use mathlib.Core.Bool.{Bool, true, false}
use mathlib.Core.List.{List, [], ◌∷◌, ◌++◌}
use lib.ListN.{length, take, drop, length-drop}
use lib.Dec.{ltb}
use lib.Seq.{length-take-le}
use borrow.Author.Tests.{ltb-false, le-leb, lt-leb}
use Rattle.rules.specs.declared.Kind.{Kind}
use Rattle.rules.specs.declared.Windows.{Windows}
use Rattle.rules.specs.declared.Cursor.{Cursor}
use Rattle.rules.specs.declared.Fault.{Fault}
use Rattle.rules.specs.Refusals.{Verdict}
use Rattle.rules.specs.declared.Reason.TheVariants.{RanOff, PastTheWindow}
use Rattle.rules.specs.Refusals.{batch_window, fault, refuse_if, tried, first_fault}
use Rattle.rules.specs.Windows.{Capture, windows_of}
use Rattle.rules.specs.Structures.{structure_nowhere, structure_bit, structure_value, structure_checks}
use Rattle.rules.specs.Step.{Outcome, Here, here, row_at, length_at, dwords_at, pointer_of, of_structure, level_number, move_of, command_at, step_of}
use Rattle.rules.specs.Step.{ran_off, unknown_header, wrong_length, past_the_window, bit_not_allowed, nested_start, value_broken, range_outside, base_never_set, step_checks}
use Rattle.rules.proofs.Stepping.{move_at, takes, refuses}
use Rattle.looks.specs.Looks.{or_else, content_of, own_of, look_of}
use Rattle.looks.proofs.LookLaws.{dwords_are, own_wrong, Looked}
use Rattle.onward.specs.Onward.{move_from}
use Rattle.step.specs.Parts.{captured, Fitted, structural_of}
use Rattle.step.proofs.Structural.{tried_in_order}

-- the numbers of the windows are those of the capture
pub fitted : {w : Windows} {batch state : List ℕ} → Fitted w batch state → windows_of (captured w batch state) ≡ w
unfolding windows_of
fitted {w} f = λ i. record {
  batch = record { at = w.batch.at; bytes = sym f.batch_bytes i };
  state = record { at = w.state.at; bytes = sym f.state_bytes i };
  scratch = w.scratch;
}

-- four verdicts and what is behind them: the four are one verdict
regrouped : (a b c d e : Verdict) → or_else a (or_else b (or_else c (or_else d e))) ≡ or_else (or_else a (or_else b (or_else c d))) e
regrouped (Err f) b c d e = refl
regrouped (Ok _) (Err f) c d e = refl
regrouped (Ok _) (Ok _) (Err f) d e = refl
regrouped (Ok _) (Ok _) (Ok _) d e = refl

module _ (c : Capture) (s : Cursor) where
  command : Here
  command = here c s

  -- 7 to 13 and 14 to 17, as the code has them
  abbrev pub own : Verdict
  own = own_of (windows_of c) c.batch s.at s.level

  abbrev pub structural : Verdict
  structural = structural_of c (s.at + 1) (pointer_of (row_at c.batch s.at) (dwords_at c.batch s.at)) s.base

  counted : s.at + length_at c.batch s.at ≤ length c.batch
      → length (dwords_at c.batch s.at) ≡ length_at c.batch s.at
  unfolding dwords_at
  counted l = length-take-le (length_at c.batch s.at) (drop s.at c.batch) (omega (arith, length-drop s.at c.batch))

  -- 10 to 13 are of the command's dwords where 9 passes, and else not asked
  abbrev dwords : Verdict
  dwords = or_else (bit_not_allowed command) (or_else (nested_start command) (or_else (value_broken command) (range_outside command)))

  contents : s.at + length_at c.batch s.at ≤ length c.batch
      → dwords ≡ content_of (windows_of c) (row_at c.batch s.at) (dwords_at c.batch s.at) s.at s.level
  unfolding command content_of bit_not_allowed nested_start value_broken range_outside
  contents l = rw (counted l)

  owns : or_else (unknown_header command) (or_else (wrong_length command) (or_else (past_the_window command) dwords)) ≡ own
  unfolding command own_of unknown_header wrong_length past_the_window
  owns = ap (λ v. or_else (unknown_header command) (or_else (wrong_length command) v)) (within (ltb (length c.batch) (s.at + length_at c.batch s.at)) refl)
    where
      within : (t : Bool) → ltb (length c.batch) (s.at + length_at c.batch s.at) ≡ t
          → or_else (refuse_if t (fault PastTheWindow batch_window s.at)) dwords
          ≡ or_else (refuse_if t (fault PastTheWindow batch_window s.at))
          (content_of (windows_of c) (row_at c.batch s.at) (dwords_at c.batch s.at) s.at s.level)
      within true e = refl
      within false e = contents (ltb-false _ _ e)

  structurals : or_else (base_never_set command) (or_else (of_structure structure_nowhere command) (or_else (of_structure structure_bit command) (of_structure structure_value command))) ≡ structural
  unfolding command structural_of base_never_set
  structurals = refl

  -- the three parts of a step: 6, 7 to 13, and 14 to 17
  framed : first_fault step_checks (here c s) ≡ or_else (ran_off command) (or_else own structural)
  unfolding step_checks structure_checks tried command
  framed =
      let dword-checks = bit_not_allowed ∷ nested_start ∷ value_broken ∷ range_outside ∷ [] in
      let structure-checks = base_never_set ∷ of_structure structure_nowhere ∷ of_structure structure_bit ∷ [] in
      let last = of_structure structure_value ∷ [] in
      tried_in_order (ran_off ∷ unknown_header ∷ wrong_length ∷ past_the_window ∷ dword-checks) (structure-checks ++ last) command
      ∙ ap (λ v. or_else (ran_off command) (or_else (unknown_header command) (or_else (wrong_length command) (or_else (past_the_window command) v))))
      (regrouped (bit_not_allowed command) (nested_start command) (value_broken command) (range_outside command) _
      ∙ ap (or_else dwords) (tried_in_order structure-checks last command ∙ structurals))
      ∙ ap (or_else (ran_off command)) (regrouped (unknown_header command) (wrong_length command) (past_the_window command) dwords structural ∙ ap (λ v. or_else v structural) owns)

  off : length c.batch ≤ s.at → ran_off command ≡ Err (fault RanOff batch_window s.at)
  unfolding command ran_off
  off l = rw (le-leb _ _ l)

  on : s.at < length c.batch → ran_off command ≡ Ok tt
  unfolding command ran_off
  on l = rw (lt-leb _ _ l)

  -- the ways out, in their order
  pub ran_off_lem : length c.batch ≤ s.at → Err (fault RanOff batch_window s.at) ≡ step_of c s
  ran_off_lem l = sym (refuses c s (framed ∙ ap (λ v. or_else v (or_else own structural)) (off l)))

  module _ (a : s.at < length c.batch) where
    onward : {v : Verdict} → own ≡ v → first_fault step_checks (here c s) ≡ or_else v structural
    onward e = framed ∙ ap (λ u. or_else u (or_else own structural)) (on a) ∙ ap (λ u. or_else u structural) e

    pub own_fails : {f : Fault} → own ≡ Err f → Err f ≡ step_of c s
    own_fails e = sym (refuses c s (onward e))

    pub structure_fails : {f : Fault} → own ≡ Ok tt → structural ≡ Err f → Err f ≡ step_of c s
    structure_fails p e = sym (refuses c s (onward p ∙ e))

    pub all_pass : own ≡ Ok tt → structural ≡ Ok tt → Ok (command_at c.batch s, move_at c s) ≡ step_of c s
    all_pass p e = sym (takes c s (onward p ∙ e))

-- the move, by the batch window's address alone
pub moved : (c : Capture) (s : Cursor) (r : ℕ) (d : List ℕ) (next : ℕ) → move_from c.batch_at s r d next ≡ move_of c s r d next
unfolding move_from move_of windows_of
moved c s r d next = refl

-- the code's numbers are those of the definitions: the row, the length, and the command's own dwords
module _ {w : Windows} {batch state : List ℕ} (s : Cursor) {row len : ℕ} (f : Fitted w batch state) (er : row ≡ row_at batch s.at) (el : len ≡ length_at batch s.at) where
  pub structural_is : {p : Option (Kind × ℕ)} → p ≡ pointer_of row (take (s.at + len - s.at) (drop s.at batch))
      → structural_of (captured w batch state) (s.at + 1) p s.base ≡ structural (captured w batch state) s
  structural_is e = rw (e, er, dwords_are batch s.at el)

  pub taken_is :
      ◌≡◌ {A = Outcome}
      (Ok (
        record { index = s.at; level = level_number s.level; row = row; length = len },
        move_from w.batch.at s row (take (s.at + len - s.at) (drop s.at batch)) (s.at + len),
      ))
      (Ok (command_at batch s, move_at (captured w batch state) s))
  unfolding command_at
  taken_is = rw (dwords_are batch s.at el, er, el, moved (captured w batch state))

-- what the look at a command tells of the step
module _ {w : Windows} {batch state : List ℕ} (s : Cursor) (f : Fitted w batch state) where
  pub own_passes : {row len : ℕ} → Looked w batch s.at s.level row len → own (captured w batch state) s ≡ Ok tt
  own_passes l = rw (fitted f) l.own

  pub looked_wrong : {g : Fault} → s.at < length batch → look_of w batch s.at s.level ≡ Err g
      → Err g ≡ step_of (captured w batch state) s
  looked_wrong a e = own_fails (captured w batch state) s a (rw (fitted f) (own_wrong w batch s.at s.level e))
