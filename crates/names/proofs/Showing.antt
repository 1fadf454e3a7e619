-- A name shown byte by byte.
-- Assumes nothing.
use Prim.Native.Nat.{ℕ, suc, ◌+◌, ◌-◌, ◌*◌, ◌<◌, ◌≤◌}
use native.Mathlib.Numerals.{add-one}
use native.Mathlib.Omega.{arith}
use mathlib.Core.Path.{◌≡◌, ap}
use mathlib.Core.List.{List, ◌∷◌, ◌++◌}
use lib.ListN.{length, get_or, drop, drop_of_length-le}
use lib.Seq.{drop-cons}
use Rattle.lines.specs.declared.OpenLine.{OpenLine}
use Rattle.lines.specs.Writing.{Puts}
use Rattle.lines.proofs.Pieces.{Pieces, pieces_start, pieces_go_on, pieces_end}
use Rattle.lines.proofs.Putting.{at_most}
use Rattle.names.specs.Names.{standing_on, shown_byte, shown_on, shown_name}

-- the first i bytes are shown, none by more than four
pub record Showing (name : List ℕ) (old new : OpenLine) (left i : ℕ) : Type 0 where
  pub short : new.end ≤ old.end + 4 * i
  pub pieces : Pieces (shown_name name) old new (shown_on left (drop i name))

module _ {name : List ℕ} {old : OpenLine} where
  pub show_starts : Showing name old old 0 0
  show_starts = record { short = omega arith; pieces = pieces_start }

  pub show_goes_on : {new next : OpenLine} {left i stands left' : ℕ} → Showing name old new left i → i < length name
      → stands ≡ standing_on left (drop i name) → Puts 4 (shown_byte stands (get_or name i 0)) new next → left' ≡ stands - 1
      → Showing name old next left' (i + 1)
  unfolding shown_on
  show_goes_on {left = left} {i = i} {stands = stands} {left' = left'} s h e p l =
      let front : drop i name ≡ get_or name i 0 ∷ drop (suc i) name = drop-cons name i 0 h in
      let split : shown_on left (drop i name) ≡ shown_byte stands (get_or name i 0) ++ shown_on left' (drop (i + 1) name) =
      rw (l, e, add-one i, front) in
      record { short = omega (arith, s.short, p.put.short, p.put.ends); pieces = pieces_go_on s.pieces split p }

  pub show_ends : {new : OpenLine} {left i : ℕ} → Showing name old new left i → i ≡ length name → Puts (4 * length name) (shown_name name) old new
  unfolding shown_on
  show_ends {left = left} s h =
      let all = pieces_end s.pieces (ap (λ l. shown_on left l) (drop_of_length-le name (omega arith))) in
      at_most (omega (arith, s.short, all.put.ends)) all
