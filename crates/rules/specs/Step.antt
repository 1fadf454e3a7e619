-- Document 01, the checks 5 to 18 of one command, in their order, and "The walk": where a command leads.
use Rattle.std.specs.Prelude.{ℕ, ◌+◌, ◌*◌, ◌^◌, Bool, true, false, cond, not, ◌&&◌, List, [], ◌∷◌, ◌++◌, map, length, get_or, take, drop, leb, ltb, eqb, Result, Ok, Err, Option, None, Some}
use Rattle.rules.specs.declared.Kind.{Kind}
use Rattle.rules.specs.declared.Level.{Level}
use Rattle.rules.specs.declared.Level.TheVariants.{First, Second}
use Rattle.rules.specs.declared.Cursor.{Cursor}
use Rattle.rules.specs.declared.Command.{Command}
use Rattle.rules.specs.declared.Kind.TheVariants.{Viewport, ColourCalc, Blend}
use Rattle.rules.specs.declared.Reason.{Reason}
use Rattle.rules.specs.declared.Fault.{Fault}
use Rattle.rules.specs.Refusals.{Verdict}
use Rattle.rules.specs.declared.Reason.TheVariants.{BudgetSpent, RanOff, UnknownHeader, WrongLength, PastTheWindow, BitNotAllowed, NestedStart, ValueBroken}
use Rattle.rules.specs.declared.Reason.TheVariants.{RangeOutside, BaseNeverSet, RecordsFull}
use Rattle.rules.specs.Words.{bit, field, cleared, first_of}
use Rattle.rules.specs.Refusals.{batch_window, fault, refuse_if, refuse_found, first_fault}
use Rattle.rules.specs.Windows.{Capture, windows_of, dword_of}
use Rattle.rules.specs.Commands.{end_row, start_row, base_row, viewport_row, colour_row, blend_row, row_count, row_of, length_of, length_right}
use Rattle.rules.specs.Masks.{bit_wrong}
use Rattle.rules.specs.Uses.{address_at}
use Rattle.rules.specs.Values.{value_wrong}
use Rattle.rules.specs.Addresses.{range_wrong}
use Rattle.rules.specs.Structures.{Asked, asked_at, structure_checks}

-- the "dynamic state base", where it was set
abbrev pub Base : Type 0
Base = Option ℕ

-- what one step gives: the command that it takes and the cursor to which that leads, none where the run ends; or the fault
abbrev pub Outcome : Type 0
Outcome = Result (Command × Option Cursor) Fault

-- "tried per command": where a check is asked, which is in a capture, and where the walk stands in it
pub record Here : Type 0 where
  pub capture : Capture
  pub cursor : Cursor

-- "tried per command": in this capture, at this cursor
abbrev pub here : Capture → Cursor → Here
here c s = record { capture = c; cursor = s }

-- "Header": the dword at which a command starts
abbrev pub header_at : List ℕ → ℕ → ℕ
header_at batch at = get_or batch at 0

-- "table row": that of the command at a position
abbrev pub row_at : List ℕ → ℕ → ℕ
row_at batch at = row_of (header_at batch at)

-- "Total length": that of the command at a position
abbrev pub length_at : List ℕ → ℕ → ℕ
length_at batch at = length_of (row_at batch at) (header_at batch at)

-- "by dword": the dwords of the command at a position, as many as its length
unfoldable pub dwords_at : List ℕ → ℕ → List ℕ
dwords_at batch at = take (length_at batch at) (drop at batch)

-- "Rows 14, and 15 with bit 0 set, read a structure"; "Address is dynamic base plus pointer (low bits masked off)". Request 1, of row 17: "bit 0 as in
-- row 15"
unfoldable pub pointer_of : ℕ → List ℕ → Option (Kind × ℕ)
pointer_of r d =
    cond (eqb r viewport_row) (Some (Viewport, cleared (get_or d 1 0) 5))
    (cond (eqb r colour_row && bit (get_or d 1 0) 0) (Some (ColourCalc, cleared (get_or d 1 0) 6))
    (cond (eqb r blend_row && bit (get_or d 1 0) 0) (Some (Blend, cleared (get_or d 1 0) 6)) None))

-- 14: "dynamic state base never set", of a command that reads a structure
abbrev pub base_missing : Option (Kind × ℕ) → Option ℕ → Bool
base_missing None base = false
base_missing (Some (kind, offset)) None = true
base_missing (Some (kind, offset)) (Some b) = false

-- a check of the structure that a command reads; "Address is dynamic base plus pointer .., by the exact sum"
abbrev pub pointed : (Asked → Verdict) → Capture → ℕ → Option (Kind × ℕ) → Option ℕ → Verdict
pointed check c pointer None base = Ok tt
pointed check c pointer (Some (kind, offset)) None = Ok tt
pointed check c pointer (Some (kind, offset)) (Some b) =
    check (asked_at c.batch c.batch_at c.state c.state_at kind (b + offset) pointer)

-- 11: "batch start while in a second-level batch"
abbrev pub nested : ℕ → Level → Bool
nested r First = false
nested r (Second back) = eqb r start_row

-- "position": that of the command that a check looks at
abbrev pub at : Here → ℕ
at h = h.cursor.at

-- "header": that of the command that a check looks at
abbrev pub header_here : Here → ℕ
header_here h = header_at h.capture.batch (at h)

-- "table row": of the same command
abbrev pub row_here : Here → ℕ
row_here h = row_at h.capture.batch (at h)

-- "Total length": of the same command
abbrev pub length_here : Here → ℕ
length_here h = length_at h.capture.batch (at h)

-- "by dword": the dwords of the same command
abbrev pub dwords_here : Here → List ℕ
dwords_here h = dwords_at h.capture.batch (at h)

-- the place "header"
abbrev pub at_header : Reason → Here → Bool → Verdict
at_header reason h given = refuse_if given (fault reason batch_window (at h))

-- the place "first such dword"
abbrev pub at_first : Reason → Here → (ℕ → Bool) → Verdict
at_first reason h wrong = refuse_found reason batch_window (at h) (first_of wrong (length_here h))

-- the places "pointer dword" and "dword in its window": the pointer is dword 1 of its command
abbrev pub of_structure : (Asked → Verdict) → Here → Verdict
of_structure check h = pointed check h.capture (at h + 1) (pointer_of (row_here h) (dwords_here h)) h.cursor.base

-- "65,536 commands"
abbrev pub budget : ℕ
budget = 65536

-- 5: at the "next position"
abbrev pub spent_at : ℕ → Fault
spent_at position = fault BudgetSpent batch_window position

-- 5: "65,536 commands done, run not ended"
unfoldable pub budget_spent : ℕ → Here → Verdict
budget_spent done h = refuse_if (leb budget done) (spent_at (at h))

-- 6: "position equals the batch count", at "that index". The position is never above the count (proofs/Moving), so "equals" is tried as: is not below.
unfoldable pub ran_off : Here → Verdict
ran_off h = at_header RanOff h (leb (length h.capture.batch) (at h))

-- 7: "header not in the table"
unfoldable pub unknown_header : Here → Verdict
unknown_header h = at_header UnknownHeader h (leb row_count (row_here h))

-- 8: "length field wrong"
unfoldable pub wrong_length : Here → Verdict
wrong_length h = at_header WrongLength h (not (length_right (row_here h) (header_here h)))

-- 9: "command goes past the batch window"
unfoldable pub past_the_window : Here → Verdict
past_the_window h = at_header PastTheWindow h (ltb (length h.capture.batch) (at h + length_here h))

-- 10: "a bit set that the table does not allow", at the "first such dword"
unfoldable pub bit_not_allowed : Here → Verdict
bit_not_allowed h = at_first BitNotAllowed h (bit_wrong (row_here h) (dwords_here h))

-- 11: "batch start while in a second-level batch"
unfoldable pub nested_start : Here → Verdict
nested_start h = at_header NestedStart h (nested (row_here h) h.cursor.level)

-- 12: "a value rule broken", at the "first such dword"
unfoldable pub value_broken : Here → Verdict
value_broken h = at_first ValueBroken h (value_wrong (row_here h) (dwords_here h))

-- 13: "an address range does not fit", at "its low dword"
unfoldable pub range_outside : Here → Verdict
range_outside h = at_first RangeOutside h (range_wrong (windows_of h.capture) (row_here h) (dwords_here h))

-- 14: "dynamic state base never set", at the "pointer dword"
unfoldable pub base_never_set : Here → Verdict
base_never_set h =
    refuse_if (base_missing (pointer_of (row_here h) (dwords_here h)) h.cursor.base) (fault BaseNeverSet batch_window (at h + 1))

-- 18: at the "header"
abbrev pub full_at : ℕ → Fault
full_at header = fault RecordsFull batch_window header

-- 18: "record buffer full"
unfoldable pub records_full : ℕ → ℕ → Here → Verdict
records_full done room h = refuse_if (leb room done) (full_at (at h))

-- "5 to 18 are tried per command in this order": those that need neither the budget nor the room, 6 to 17; the last three are those of a
-- structure, in the order that `structure_checks` gives them
unfoldable pub step_checks : List (Here → Verdict)
step_checks =
    ran_off
    ∷ unknown_header
    ∷ wrong_length
    ∷ past_the_window
    ∷ bit_not_allowed
    ∷ nested_start
    ∷ value_broken
    ∷ range_outside
    ∷ base_never_set
    ∷ map of_structure structure_checks

-- "5 to 18 are tried per command in this order": with so many commands done, and room for so many records
unfoldable pub checks : ℕ → ℕ → List (Here → Verdict)
checks done room = budget_spent done ∷ (step_checks ++ (records_full done room ∷ []))

-- "Start at dword 0, level 0, no dynamic base": a position, a level and a base
abbrev pub cursor : ℕ → Level → Option ℕ → Cursor
cursor at level base = record { at = at; level = level; base = base }

-- "A batch end at level 0 ends the run; at level 1 it goes to the kept position, level 0."
unfoldable pub after_end : Level → Option ℕ → Option Cursor
after_end First base = None
after_end (Second back) base = Some (cursor back First base)

-- "A start with bit 22 clear goes to its target. With bit 22 set it keeps the position after itself and goes to its target at level 1."
abbrev pub level_after_start : ℕ → ℕ → Level → Level
level_after_start header next level = cond (bit header 22) (Second next) level

-- "If dword 6 bit 0 is set, the dynamic base becomes bits 47:12 of dwords 6 and 7, low twelve bits zero."
abbrev pub new_base : List ℕ → ℕ
new_base d = 2 ^ 12 * field (get_or d 6 0) 31 12 + 2 ^ 32 * field (get_or d 7 0) 15 0

-- "the dynamic base becomes ..", in row 9 "If dword 6 bit 0 is set"
unfoldable pub base_after : ℕ → List ℕ → Option ℕ → Option ℕ
base_after r d base = cond (eqb r base_row && bit (get_or d 6 0) 0) (Some (new_base d)) base

-- where a command leads: an end, a start, and "All others go on by their length"
unfoldable pub move_of : Capture → Cursor → ℕ → List ℕ → ℕ → Option Cursor
move_of c s r d next =
    cond (eqb r end_row) (after_end s.level s.base)
    (cond (eqb r start_row)
    (Some (cursor (dword_of (windows_of c).batch (address_at d 1)) (level_after_start (get_or d 0 0) next s.level) s.base))
    (Some (cursor next s.level (base_after r d s.base))))

-- "level 0", "level 1"
abbrev pub level_number : Level → ℕ
level_number First = 0
level_number (Second back) = 1

-- "index .., level .., total length .., table row": the command that a cursor stands at
unfoldable pub command_at : List ℕ → Cursor → Command
command_at batch s =
    record { index = s.at; level = level_number s.level; row = row_at batch s.at; length = length_at batch s.at }

-- "Count is the number of commands accepted": a command is, when no check fails
abbrev pub outcome_of : Verdict → Command → Option Cursor → Outcome
outcome_of (Ok _) command after = Ok (command, after)
outcome_of (Err f) command after = Err f

-- "tried per command": one step, which is the first fault among 6 to 17, or the command and where it leads
unfoldable pub step_of : Capture → Cursor → Outcome
step_of c s =
    outcome_of (first_fault step_checks (here c s)) (command_at c.batch s)
    (move_of c s (row_at c.batch s.at) (dwords_at c.batch s.at) (s.at + length_at c.batch s.at))
