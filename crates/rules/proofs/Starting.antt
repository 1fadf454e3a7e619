-- Request 5: a walk that starts with a base never gives 14; and a base at or above 2^48, where an empty state window may lie, reaches no structure.
-- Assumes nothing.
use Rattle.std.specs.Prelude.{Ok, Err, Option, None, Some}
use Prim.Native.Nat.{ℕ, ◌+◌, ◌*◌, ◌^◌, ◌≤◌, ◌<◌}
use native.Mathlib.Omega.{arith}
use mathlib.Core.Path.{◌≡◌, refl, sym}
use mathlib.Core.Bool.{Bool, true, false, cond, not, ◌&&◌}
use mathlib.Core.List.{List}
use mathlib.Core.Logic.{⊎_elim}
use lib.ListN.{length, get_or}
use lib.Dec.{lit<, leb, ltb, eqb}
use borrow.Author.Tests.{eqb-false}
use Rattle.rules.specs.declared.BaseChoice.{BaseChoice}
use Rattle.rules.specs.declared.BaseChoice.TheVariants.{StateWindow, NoBase}
use Rattle.rules.specs.declared.Cursor.{Cursor}
use Rattle.rules.specs.declared.Command.{Command}
use Rattle.rules.specs.declared.Fault.{Fault}
use Rattle.rules.specs.declared.Kind.{Kind}
use Rattle.rules.specs.declared.Kind.TheVariants.{Viewport, ColourCalc, Blend}
use Rattle.rules.specs.declared.Reason.{Reason}
use Rattle.rules.specs.declared.Reason.TheVariants.{WrongCounts, AddressUnaligned, EndsTooHigh, WindowsShare, RanOff, UnknownHeader, WrongLength}
use Rattle.rules.specs.declared.Reason.TheVariants.{PastTheWindow, BitNotAllowed, NestedStart, ValueBroken, RangeOutside, BaseNeverSet}
use Rattle.rules.specs.declared.Reason.TheVariants.{StructureNowhere, StructureBit, StructureValue, FileSize, FileDistance, BufferShort}
use Rattle.rules.specs.Refusals.{Verdict}
use Rattle.rules.specs.declared.Window.{Window}
use Rattle.rules.specs.Words.{bit, first_of, some, some_two}
use Rattle.rules.specs.Refusals.{number_of, batch_window, fault, refuse_if, refuse_found, first_fault}
use Rattle.rules.specs.Windows.{Capture, Lengths, lengths_of, windows_of, window_limit, counts_wrong, listed, unaligned, ends_too_high, share_byte}
use Rattle.rules.specs.Windows.{window_checks, window_fault, lent, end, holds, holds_dwords, held_at}
use Rattle.rules.specs.Commands.{base_row, row_count, length_right}
use Rattle.rules.specs.Masks.{bit_wrong}
use Rattle.rules.specs.Values.{value_wrong}
use Rattle.rules.specs.Addresses.{range_wrong}
use Rattle.rules.specs.Structures.{Asked, layout_of, nowhere, held_window, held_from, structure_bit_wrong, structure_value_wrong}
use Rattle.rules.specs.Structures.{structure_nowhere, structure_bit, structure_value, structure_checks}
use Rattle.rules.specs.Step.{Here, here, at, row_at, dwords_at, row_here, header_here, length_here, dwords_here, pointer_of, nested, base_missing, pointed, of_structure}
use Rattle.rules.specs.Step.{budget, spent_at, full_at, new_base, base_after, budget_spent, ran_off, unknown_header, wrong_length, past_the_window, bit_not_allowed}
use Rattle.rules.specs.Step.{nested_start, value_broken, range_outside, base_never_set, records_full, step_checks, checks, step_of}
use Rattle.rules.specs.Walk.{starting_base, walk, end_of, Leads, stays, onward, WalkFault}
use Rattle.rules.specs.File.{Offer, size_wrong, distance_wrong, file_counts_wrong, buffer_short, file_checks}
use Rattle.rules.proofs.Searching.{never_both, and_left}
use Rattle.rules.proofs.Trying.{fails_not_pass, first_is}
use Rattle.rules.proofs.Ranges.{inside, sound}
use Rattle.rules.proofs.Moving.{Way, ends, returns, jumps, calls, goes_on, taken_way, same_cursor, ends_nowhere}
use Rattle.rules.proofs.Walking.{refusal}
use Rattle.rules.proofs.Places.{given_fault, found_fault, AllSay, list_says}

-- whether there is a base
abbrev pub has_base : Option ℕ → Bool
has_base None = false
has_base (Some b) = true

-- once there is a base there is one for good
base_stays : (r : ℕ) (d : List ℕ) (base : Option ℕ) → has_base base ≡ true → has_base (base_after r d base) ≡ true
unfolding base_after
base_stays r d base e = by (eqb r base_row && bit (get_or d 6 0) 0)
  where
    by : (t : Bool) → has_base (cond t (Some (new_base d)) base) ≡ true
    by true = refl
    by false = e

step_keeps : (c : Capture) (s t : Cursor) {k : Command} → step_of c s ≡ Ok (k, Some t) → has_base s.base ≡ true → has_base t.base ≡ true
step_keeps c s t e h = by (Some t) refl (taken_way c s e)
  where
    by : (a : Option Cursor) → a ≡ Some t → Way c s a → has_base t.base ≡ true
    by a q (ends r l) = absurd (ends_nowhere q)
    by a q (returns r l) = rw (← same_cursor q) h
    by a q (jumps r b) = rw (← same_cursor q) h
    by a q (calls r b) = rw (← same_cursor q) h
    by a q (goes_on r n) = rw (← same_cursor q) (base_stays _ _ s.base h)

walk_keeps : {c : Capture} {s t : Cursor} {ks : List Command} → Leads c s ks t → has_base s.base ≡ true → has_base t.base ≡ true
walk_keeps stays h = h
walk_keeps {c} {s} (onward {t = u} e rest) h = walk_keeps rest (step_keeps c s u e h)

-- a fault that is another than 14
abbrev pub Other : Fault → Type 0
Other f = number_of f.reason ≡ 14 → ⊥

other : (t : Bool) (g : Fault) → eqb (number_of g.reason) 14 ≡ false → (f : Fault) → refuse_if t g ≡ Err f → Other f
other t g e f q = rw (← (given_fault t q).1) (eqb-false (number_of g.reason) 14 e)

found_other : (reason : Reason) (window from n : ℕ) (bad : ℕ → Bool) → eqb (number_of reason) 14 ≡ false → (f : Fault)
    → refuse_found reason window from (first_of bad n) ≡ Err f → Other f
found_other reason window from n bad e f q = rw (← (found_fault reason window from n bad q).is) (eqb-false (number_of reason) 14 e)

-- the checks of a structure, whatever is pointed to and whatever the base
pointed_other : (check : Asked → Verdict) → ((a : Asked) (f : Fault) → check a ≡ Err f → Other f) → (c : Capture) (at : ℕ) (p : Option (Kind × ℕ)) (base : Option ℕ)
    (f : Fault) → pointed check c at p base ≡ Err f → Other f
pointed_other check o c at None base f e = absurd (fails_not_pass (sym e))
pointed_other check o c at (Some (kind, offset)) None f e = absurd (fails_not_pass (sym e))
pointed_other check o c at (Some (kind, offset)) (Some b) f e = o _ f e

-- 14 itself is not given where there is a base
base_other : (p : Option (Kind × ℕ)) (base : Option ℕ) → has_base base ≡ true → (g f : Fault) → refuse_if (base_missing p base) g ≡ Err f → Other f
base_other None base e g f q = absurd (fails_not_pass (sym q))
base_other (Some (kind, offset)) None e g f q = absurd (never_both e refl)
base_other (Some (kind, offset)) (Some b) e g f q = absurd (fails_not_pass (sym q))

nowhere_other : (a : Asked) (f : Fault) → structure_nowhere a ≡ Err f → Other f
unfolding structure_nowhere number_of
nowhere_other a = other (nowhere a.held) (fault StructureNowhere batch_window a.pointer) refl

bit_other : (a : Asked) (f : Fault) → structure_bit a ≡ Err f → Other f
unfolding structure_bit number_of
bit_other a = found_other StructureBit (held_window a.held) (held_from a.held) (layout_of a.kind).dwords (structure_bit_wrong a.kind a.dwords) refl

value_other : (a : Asked) (f : Fault) → structure_value a ≡ Err f → Other f
unfolding structure_value number_of
value_other a = found_other StructureValue (held_window a.held) (held_from a.held) (layout_of a.kind).dwords (structure_value_wrong a.kind a.dwords) refl

-- every check of a command is of another number
based_checks : (done room : ℕ) (h : Here) → has_base h.cursor.base ≡ true → AllSay Other (checks done room) h
unfolding checks step_checks structure_checks number_of budget_spent ran_off unknown_header wrong_length past_the_window bit_not_allowed nested_start value_broken range_outside base_never_set records_full
based_checks done room h e =
    let pointer = pointer_of (row_here h) (dwords_here h) in
    let header : Reason → Fault = λ reason. fault reason batch_window (at h) in
    let batch = h.capture.batch in (
      other (leb budget done) (spent_at (at h)) refl,
      (
        other (leb (length batch) (at h)) (header RanOff) refl,
        (
          other (leb row_count (row_here h)) (header UnknownHeader) refl,
          (
            other (not (length_right (row_here h) (header_here h))) (header WrongLength) refl,
            (
              other (ltb (length batch) (at h + length_here h)) (header PastTheWindow) refl,
              (
                found_other BitNotAllowed batch_window (at h) (length_here h) (bit_wrong (row_here h) (dwords_here h)) refl,
                (
                  other (nested (row_here h) h.cursor.level) (header NestedStart) refl,
                  (
                    found_other ValueBroken batch_window (at h) (length_here h) (value_wrong (row_here h) (dwords_here h)) refl,
                    (
                      found_other RangeOutside batch_window (at h) (length_here h) (range_wrong (windows_of h.capture) (row_here h) (dwords_here h)) refl,
                      (
                        base_other pointer h.cursor.base e (fault BaseNeverSet batch_window (at h + 1)),
                        (
                          pointed_other structure_nowhere nowhere_other h.capture (at h + 1) pointer h.cursor.base,
                          (
                            pointed_other structure_bit bit_other h.capture (at h + 1) pointer h.cursor.base,
                            (
                              pointed_other structure_value value_other h.capture (at h + 1) pointer h.cursor.base,
                              (other (leb room done) (full_at (at h)) refl, tt),
                            ),
                          ),
                        ),
                      ),
                    ),
                  ),
                ),
              ),
            ),
          ),
        ),
      ),
    )

window_checks_lem : (l : Lengths) → AllSay Other window_checks l
unfolding window_checks number_of
window_checks_lem l = (
  other (counts_wrong window_limit l.batch l.state) (fault WrongCounts batch_window 0) refl,
  (
    other (some unaligned (listed l.windows)) (fault AddressUnaligned batch_window 0) refl,
    (
      other (some ends_too_high (listed l.windows)) (fault EndsTooHigh batch_window 0) refl,
      (other (some_two share_byte (listed l.windows)) (fault WindowsShare batch_window 0) refl, tt),
    ),
  ),
)

-- and so is every check of a capture file
pub file_other : (o : Offer) (f : Fault) → first_fault file_checks o ≡ Err f → Other f
unfolding file_checks number_of
file_other o =
    list_says Other file_checks o (
      other (size_wrong o) (fault FileSize batch_window 0) refl,
      (
        other (distance_wrong o) (fault FileDistance batch_window 0) refl,
        (other (file_counts_wrong o) (fault WrongCounts batch_window 0) refl, (other (buffer_short o) (fault BufferShort batch_window 0) refl, tt)),
      ),
    )

-- 14 IS GIVEN ONLY WITHOUT A BASE
pub no_fourteen : (base : Option ℕ) (c : Capture) (room : ℕ) {f : Fault} → has_base base ≡ true → end_of (walk base c room) ≡ Err f
    → number_of f.reason ≡ 14 → ⊥
unfolding window_fault
no_fourteen base c room {f} h e =
    ⊎_elim (λ w. list_says Other window_checks (lengths_of c) (window_checks_lem (lengths_of c)) f w.0) walked (refusal base c room e)
  where
    walked : {commands : List Command} → WalkFault base c room commands f → Other f
    walked {commands} w =
        let all = based_checks (length commands) room (here c w.cursor) (walk_keeps w.reached h) in
        list_says Other (checks (length commands) room) (here c w.cursor) all f (first_is w.first)

-- "14 is given only under "none"": of the two choices
pub only_under_none : (choice : BaseChoice) (c : Capture) (room : ℕ) {f : Fault} → end_of (walk (starting_base choice c.state_at) c room) ≡ Err f
    → number_of f.reason ≡ 14 → choice ≡ NoBase
only_under_none NoBase c room e m = refl
only_under_none StateWindow c room e m = absurd (no_fourteen (Some c.state_at) c room refl e m)

-- a structure has dwords
has_dwords : (kind : Kind) → 0 < (layout_of kind).dwords
unfolding layout_of
has_dwords Viewport = lit< tt
has_dwords ColourCalc = lit< tt
has_dwords Blend = lit< tt

-- a window that ends at or below 2^48 holds nothing at an address from there on
not_held : (w : Window) (address n : ℕ) → end w ≤ 2 ^ 48 → 2 ^ 48 ≤ address → 0 < n → holds_dwords w address n ≡ false
unfolding holds_dwords
not_held w address n low high some = by (holds_dwords w address n) refl
  where
    by : (t : Bool) → holds_dwords w address n ≡ t → t ≡ false
    by false e = refl
    by true e =
        let i = inside w address (4 * n) (and_left (holds w address (4 * n)) _ e) in
        let h = i.high in
        absurd (omega arith)

-- AN EMPTY STATE WINDOW AT EXACTLY 2^48 IS THE BASE ALL THE SAME: each structure is then 15
pub nowhere_above : (c : Capture) (s : Cursor) {b offset : ℕ} {kind : Kind} → window_fault (lengths_of c) ≡ Ok tt → s.base ≡ Some b → 2 ^ 48 ≤ b
    → pointer_of (row_at c.batch s.at) (dwords_at c.batch s.at) ≡ Some (kind, offset)
    → of_structure structure_nowhere (here c s) ≡ Err (fault StructureNowhere batch_window (s.at + 1))
unfolding structure_nowhere held_at windows_of
nowhere_above c s {b} {offset} {kind} pass e high p =
    let w = sound (lengths_of c) pass in
    let n = (layout_of kind).dwords in
    rw (
      p,
      e,
      not_held (lent c.batch_at (length c.batch)) (b + offset) n (w.ends 0 (lit< tt)) (omega arith) (has_dwords kind),
      not_held (lent c.state_at (length c.state)) (b + offset) n (w.ends 1 (lit< tt)) (omega arith) (has_dwords kind),
    )
