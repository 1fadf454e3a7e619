-- What is promised of a line that is being written: what is put goes behind what stands there, and every other byte stays.
use Rattle.std.specs.Prelude.{ℕ, ◌+◌, ◌≤◌, ◌≡◌, List, length}
use Rattle.std.specs.Borrow.{MutBor}
use Rattle.lines.specs.Lines.{Put}
use Rattle.lines.specs.declared.OpenLine.{OpenLine}

-- an empty line in lent bytes, which stay as they are
pub record Opens (lent : MutBor (List ℕ)) (line : OpenLine) : Type 0 where
  pub same_reference : line.bytes.ghost_name ≡ lent.ghost_name
  pub same_bytes : line.bytes.now ≡ lent.now
  pub empty : line.end ≡ 0

-- there is room for so many bytes more
abbrev pub Room : ℕ → OpenLine → Type 0
Room most line = line.end + most ≤ length line.bytes.now

-- bytes put behind what stands there, `most` of them at most, in the same lent memory
pub record Puts (most : ℕ) (bytes : List ℕ) (old new : OpenLine) : Type 0 where
  pub same_reference : new.bytes.ghost_name ≡ old.bytes.ghost_name
  pub as_long : length new.bytes.now ≡ length old.bytes.now
  pub put : Put old.end most bytes old.bytes.now new.end new.bytes.now
