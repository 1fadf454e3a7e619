-- What is promised of a line that bytes are put into.
use Rattle.std.specs.Prelude.{ℕ, ◌+◌, ◌≤◌, ◌≡◌, List, ◌++◌, length, drop}
use Rattle.std.proofs.lemmas.List.Edits.{sets}

-- bytes put at a place of a line, `most` of them at most: every other byte stays, and `next` is the place behind them
pub record Put (at most : ℕ) (bytes old : List ℕ) (next : ℕ) (new : List ℕ) : Type 0 where
  pub short : length bytes ≤ most
  pub ends : next ≡ at + length bytes
  pub written : new ≡ sets old at bytes

-- THE PROMISE of a function that makes a whole line, as `printout::answer_line`: the line's length, and every byte of the buffer as it returns
pub record Line (bytes old : List ℕ) (count : ℕ) (new : List ℕ) : Type 0 where
  pub fits : count ≤ length old
  pub counts : count ≡ length bytes
  pub written : new ≡ bytes ++ drop (length bytes) old

-- how many bytes the name of a file has at most, as it is shown
abbrev pub name_bytes : ℕ
name_bytes = 16384
