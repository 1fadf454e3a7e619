-- Request 4, the writer of commands: what it refuses, what it answers, and what it leaves in the lent buffer. The quoted words are the request's.
use Rattle.std.specs.Prelude.{ℕ, zero, suc, ◌+◌, ◌-◌, ◌/◌, ◌%◌, ◌≡◌, Bool, false, cond, not, ◌&&◌, ◌||◌, List, [], ◌∷◌, ◌++◌, length, take, drop, leb, ltb, eqb, Ok, Err}
use Rattle.rules.specs.declared.Reason.TheVariants.{UnknownHeader, WrongLength, BitNotAllowed, NoRoom}
use Rattle.rules.specs.Refusals.{Verdict}
use Rattle.rules.specs.declared.Answer.{Answer}
use Rattle.rules.specs.Words.{bit, allowed}
use Rattle.rules.specs.Refusals.{batch_window, fault, refuse_if, first_fault, answer_with}
use Rattle.rules.specs.Commands.{Length, no_field, exactly, by_bit, groups, row_count, the_row, group_size}
use Rattle.rules.specs.Masks.{bit_wrong}

-- "it takes one command's row and its dwords after the header, with the header's free bits", and "the first free dword of a lent batch buffer", which
-- has room for so many dwords
pub record Draft : Type 0 where
  pub row : ℕ
  pub free : ℕ
  pub dwords : List ℕ
  pub room : ℕ
  pub first : ℕ

-- "it takes": these
abbrev pub draft : ℕ → ℕ → List ℕ → ℕ → ℕ → Draft
draft row free dwords room first = record { row = row; free = free; dwords = dwords; room = room; first = first }

-- "a dword count the row does not have or that bit 21 of row 4 contradicts", of its negation: n dwords after the header, by the row's length, the
-- dwords of a group, and the free bits
abbrev pub count_right : Length → ℕ → ℕ → ℕ → Bool
count_right no_field size free n = eqb n 0
count_right (exactly f) size free n = eqb n (f + 1)
count_right (by_bit b f g) size free n = eqb n (cond (bit free b) g f + 1)
count_right (groups most) size free n = eqb (n % size) 0 && (leb 1 (n / size) && leb (n / size) most)

-- "puts the whole command": the length field, which comes from the number of dwords: "Total length is the field in bits 7:0 plus 2" (document 01)
abbrev pub field_for : Length → ℕ → ℕ
field_for no_field n = 0
field_for (exactly f) n = n - 1
field_for (by_bit b f g) n = n - 1
field_for (groups most) n = n - 1

-- "puts the whole command": its header, of the bits that the row is known by, the free bits and the field
unfoldable pub header_for : ℕ → ℕ → ℕ → ℕ
header_for row free n = (the_row row).key + (free + field_for (the_row row).total n)

-- "puts the whole command": the header, and the dwords after it
unfoldable pub command_for : Draft → List ℕ
command_for d = header_for d.row d.free (length d.dwords) ∷ d.dwords

-- "a bit not allowed" in one of the n dwords from k on
unfoldable pub some_from : (ℕ → Bool) → ℕ → ℕ → Bool
some_from wrong k zero = false
some_from wrong k (suc n) = wrong k || some_from wrong (k + 1) n

-- "7 for an unknown row"
unfoldable pub row_unknown : Draft → Verdict
row_unknown d = refuse_if (leb row_count d.row) (fault UnknownHeader batch_window 0)

-- "8 for a dword count the row does not have or that bit 21 of row 4 contradicts"
unfoldable pub count_wrong : Draft → Verdict
count_wrong d =
    refuse_if (not (count_right (the_row d.row).total (group_size d.row) d.free (length d.dwords))) (fault WrongLength batch_window 0)

-- "10 for a bit not allowed": one of the header's that is none of the row's free bits, or one of a dword, by the checker's own 10
unfoldable pub bit_stray : Draft → Verdict
bit_stray d =
    refuse_if (not (allowed d.free (the_row d.row).free) || some_from (bit_wrong d.row (command_for d)) 1 (length d.dwords))
    (fault BitNotAllowed batch_window 0)

-- "22 for no room, a first free dword beyond the buffer included", by the exact sum
unfoldable pub room_short : Draft → Verdict
room_short d = refuse_if (ltb d.room (d.first + (1 + length d.dwords))) (fault NoRoom batch_window 0)

-- "Refusals: 7 .., 8 .., 10 .., then 22 ..; each has place 0,0"
unfoldable pub write_checks : List (Draft → Verdict)
write_checks = row_unknown ∷ count_wrong ∷ bit_stray ∷ room_short ∷ []

-- "Refusals": the first, or none
abbrev pub write_verdict : Draft → Verdict
write_verdict d = first_fault write_checks d

-- "each has .. count 0"; of a success document 01, "Count is the number of commands accepted"
abbrev pub write_count : Verdict → ℕ
write_count (Ok _) = 1
write_count (Err f) = 0

-- "puts the whole command at the first free dword of a lent batch buffer"; each refusal "leaves the buffer untouched"
abbrev pub written_by : Verdict → List ℕ → ℕ → List ℕ → List ℕ
written_by (Ok _) command first old = take first old ++ (command ++ drop (first + length command) old)
written_by (Err f) command first old = old

-- THE PROMISE of `writer::write`: its answer, and every word of the buffer as it returns
pub record Written (row free : ℕ) (dwords : List ℕ) (first : ℕ) (old : List ℕ) (answer : Answer) (new : List ℕ) : Type 0 where
  pub answers : let v = write_verdict (draft row free dwords (length old) first) in answer ≡ answer_with v (write_count v)
  pub words : let d = draft row free dwords (length old) first in new ≡ written_by (write_verdict d) (command_for d) first old
