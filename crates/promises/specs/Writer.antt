-- THE WRITER. "What it writes, the reader reads back as the same row and dwords; any command that passes checks 7, 8 and 10 is written back to the same
-- dwords." (request 4) Both are said of every row at once; the reader is the checker's own decoder, which finds a command's row, length and dwords.
use Rattle.std.specs.Prelude.{ℕ, ◌+◌, ◌^◌, ◌<◌, ◌≡◌, List, [], ◌∷◌, length, take, drop, None}
use Rattle.std.specs.Int.Bits.{bit_and}
use Rattle.rules.specs.declared.Answer.{Answer}
use Rattle.rules.specs.declared.Cursor.{Cursor}
use Rattle.rules.specs.declared.Level.TheVariants.{First}
use Rattle.rules.specs.Refusals.{AllPass}
use Rattle.rules.specs.Windows.{Capture}
use Rattle.rules.specs.Commands.{the_row}
use Rattle.rules.specs.Step.{Here, here, cursor, header_at, row_at, length_at, dwords_at, unknown_header, wrong_length, past_the_window, bit_not_allowed}

-- a header's free bits, in a row
abbrev pub free_bits : ℕ → ℕ → ℕ
free_bits row header = bit_and header (the_row row).free

-- READ BACK. Of a command that was written from this row, these free bits and these dwords, at the dword `first` of a buffer that has the words `new`:
pub record ReadBack (row free : ℕ) (dwords : List ℕ) (first : ℕ) (new : List ℕ) : Type 0 where
  -- the decoder finds the same row, the same free bits, the length and the same dwords there
  pub row_read : row_at new first ≡ row
  pub free_read : free_bits row (header_at new first) ≡ free
  pub length_read : length_at new first ≡ 1 + length dwords
  pub dwords_read : drop 1 (dwords_at new first) ≡ dwords
  -- and in any capture with this batch, 7, 8, 9 and 10 pass there, whatever level and base the walk has
  pub passes : (c : Capture) (s : Cursor) → c.batch ≡ new → s.at ≡ first
      → AllPass (unknown_header ∷ wrong_length ∷ past_the_window ∷ bit_not_allowed ∷ []) (here c s)

-- a command that stands alone in a batch
abbrev pub alone_in : List ℕ → Here
alone_in command =
    here (record { batch = command; batch_at = 0; state = []; state_at = 0; scratch_at = 0; scratch_bytes = 0 }) (cursor 0 First None)

-- "any command that passes checks 7, 8 and 10": dwords that are one whole command, as many as its header says
pub record OneCommand (command : List ℕ) : Type 0 where
  pub header : header_at command 0 < 2 ^ 32
  pub whole : length command ≡ length_at command 0
  pub passes : AllPass (unknown_header ∷ wrong_length ∷ bit_not_allowed ∷ []) (alone_in command)

-- WRITTEN BACK. The answer of a call with the row, the free bits and the dwords of such a command, where there is room at `first`; and the dwords that then
-- stand there:
pub record WrittenBack (command : List ℕ) (first : ℕ) (answer : Answer) (new : List ℕ) : Type 0 where
  pub accepted : answer ≡ record { reason = 0; window = 0; index = 0; count = 1 }
  pub same : take (length command) (drop first new) ≡ command
