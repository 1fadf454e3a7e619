-- Request 4, worked: what the writer makes of rows, free bits and dwords, in a table, and the theorem that it makes that of each.
use Rattle.std.specs.Prelude.{ℕ, ◌≡◌, refl, cond, ◌&&◌, List, [], ◌∷◌, length, eqb}
use Rattle.rules.specs.Words.{allowed, in_group}
use Rattle.rules.specs.Refusals.{number_of, tried, answer_with}
use Rattle.rules.specs.Commands.{rows, the_row, group_size}
use Rattle.rules.specs.Uses.{uses_by_row, access_of, used_high_of}
use Rattle.rules.specs.Masks.{masks_of, allowed_of, allowed_at, bit_wrong}
use Rattle.rules.specs.Writer.{draft, header_for, command_for, some_from, row_unknown, count_wrong, bit_stray, room_short, write_checks, write_verdict}
use Rattle.rules.specs.Writer.{written_by, write_count}

-- what is asked of the writer, with the first free dword of a buffer and its dwords; and the reason, and the buffer as it returns
pub record WriterCase : Type 0 where
  pub number : ℕ
  pub row : ℕ
  pub free : ℕ
  pub dwords : List ℕ
  pub first : ℕ
  pub old : List ℕ
  pub reason : ℕ
  pub new : List ℕ

-- a line of the table
abbrev writing : ℕ → ℕ → ℕ → List ℕ → ℕ → List ℕ → ℕ → List ℕ → WriterCase
writing number row free dwords first old reason new =
    record { number = number; row = row; free = free; dwords = dwords; first = first; old = old; reason = reason; new = new }

-- the same dwords
abbrev same_dwords : List ℕ → List ℕ → ℕ
same_dwords [] [] = 1
same_dwords [] (y ∷ ys) = 0
same_dwords (x ∷ xs) [] = 0
same_dwords (x ∷ xs) (y ∷ ys) = cond (eqb x y) (same_dwords xs ys) 0

-- 1: MI_NOOP with free bits, in the middle of a buffer. 2: a start with bit 8 clear, since 12 is not tried, and a high dword that is used and not canonical.
-- 3: eight bytes are stored where bit 21 says so, and 4: are not where it does not. 5: no such row. 6: a bit of the length field is no free bit. 7: a bit that the
-- first dword does not allow, and 8: goes before no room. 9: no room for the last dword. 10: the first free dword lies beyond the buffer.
unfoldable pub writer_cases : List WriterCase
writer_cases =
    writing 1 0 0x00300001 [] 1 (7 ∷ 7 ∷ 7 ∷ []) 0 (7 ∷ 0x00300001 ∷ 7 ∷ [])
    ∷ writing 2 2 0x00400000 (0x00100000 ∷ 0x00018000 ∷ []) 0 (7 ∷ 7 ∷ 7 ∷ []) 0 (0x18C00001 ∷ 0x00100000 ∷ 0x00018000 ∷ [])
    ∷ writing 3 4 0x00200000 (0x00300000 ∷ 0 ∷ 1 ∷ 2 ∷ []) 0 (7 ∷ 7 ∷ 7 ∷ 7 ∷ 7 ∷ 7 ∷ []) 0 (0x10200003 ∷ 0x00300000 ∷ 0 ∷ 1 ∷ 2 ∷ 7 ∷ [])
    ∷ writing 4 4 0 (0x00300000 ∷ 0 ∷ 1 ∷ 2 ∷ []) 0 (7 ∷ 7 ∷ 7 ∷ 7 ∷ 7 ∷ []) 8 (7 ∷ 7 ∷ 7 ∷ 7 ∷ 7 ∷ [])
    ∷ writing 5 18 0 [] 0 (7 ∷ []) 7 (7 ∷ [])
    ∷ writing 6 13 0x00000001 (4 ∷ []) 0 (7 ∷ 7 ∷ []) 10 (7 ∷ 7 ∷ [])
    ∷ writing 7 13 0 (0x40 ∷ []) 0 (7 ∷ 7 ∷ []) 10 (7 ∷ 7 ∷ [])
    ∷ writing 8 13 0 (0x40 ∷ []) 1 (7 ∷ 7 ∷ []) 10 (7 ∷ 7 ∷ [])
    ∷ writing 9 13 0 (4 ∷ []) 1 (7 ∷ 7 ∷ []) 22 (7 ∷ 7 ∷ [])
    ∷ writing 10 0 0 [] 3 (7 ∷ 7 ∷ []) 22 (7 ∷ 7 ∷ [])
    ∷ []

-- the numbers of those that come out otherwise
unfoldable pub failing_writing : List WriterCase → List ℕ
failing_writing [] = []
failing_writing (w ∷ ws) =
    let v = write_verdict (draft w.row w.free w.dwords (length w.old) w.first) in
    cond
    (eqb (answer_with v (write_count v)).reason w.reason
    && eqb (same_dwords (written_by v (command_for (draft w.row w.free w.dwords (length w.old) w.first)) w.first w.old) w.new) 1)
    (failing_writing ws) (w.number ∷ failing_writing ws)

-- "Refusals: 7 for an unknown row, 8 .., 10 .., then 22 ..; each .. leaves the buffer untouched"
pub writer_cases_hold : failing_writing writer_cases ≡ []
unfolding writer_cases failing_writing allowed in_group number_of tried answer_with rows the_row group_size uses_by_row access_of used_high_of masks_of allowed_of allowed_at
    bit_wrong header_for command_for some_from row_unknown count_wrong bit_stray room_short write_checks
writer_cases_hold = refl
