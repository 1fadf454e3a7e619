-- A text quoted byte by byte.
-- Assumes nothing.
use Prim.Native.Nat.{ℕ, ◌+◌, ◌<◌, ◌≤◌}
use native.Mathlib.Numerals.{add-one}
use mathlib.Core.Path.{◌≡◌, ap}
use mathlib.Core.List.{List, ◌++◌}
use lib.ListN.{length, get_or, drop, drop_of_length-le}
use lib.Seq.{drop-cons}
use Rattle.lines.specs.declared.OpenLine.{OpenLine}
use Rattle.lines.specs.Writing.{Puts}
use Rattle.lines.proofs.Pieces.{Pieces, pieces_start, pieces_go_on, pieces_end}
use Rattle.members.specs.Strings.{quoted_byte, quoted}

-- the first i bytes are quoted
abbrev pub Quoting : List ℕ → OpenLine → OpenLine → ℕ → Type 0
Quoting text old new i = Pieces (quoted text) old new (quoted (drop i text))

module _ (text : List ℕ) (old : OpenLine) where
  pub quote_starts : Quoting text old old 0
  quote_starts = pieces_start

  pub quote_goes_on : (new next : OpenLine) (i : ℕ) → Quoting text old new i → i < length text → Puts 6 (quoted_byte (get_or text i 0)) new next
      → Quoting text old next (i + 1)
  unfolding quoted
  quote_goes_on new next i q h p =
      let split : quoted (drop i text) ≡ quoted_byte (get_or text i 0) ++ quoted (drop (i + 1) text) = rw (add-one i, drop-cons text i 0 h) in
      pieces_go_on q split p

  pub quote_ends : (new : OpenLine) (i : ℕ) → Quoting text old new i → length text ≤ i → Puts (length (quoted text)) (quoted text) old new
  unfolding quoted
  quote_ends new i q h = pieces_end q (ap quoted (drop_of_length-le text h))
