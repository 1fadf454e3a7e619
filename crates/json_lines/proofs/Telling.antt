-- The reasons told one behind the other.
-- Assumes nothing.
use Prim.Native.Nat.{ℕ, ◌+◌, ◌-◌, ◌*◌, ◌<◌, ◌≤◌}
use native.Mathlib.Numerals.{add-one}
use native.Mathlib.Omega.{arith}
use mathlib.Core.Path.{◌≡◌, ap}
use mathlib.Core.Bool.{Bool, true, false, cond}
use mathlib.Core.List.{List, ◌++◌}
use lib.ListN.{length, get_or, drop, drop_of_length-le}
use lib.Seq.{drop-cons}
use lib.Dec.{eqb}
use Rattle.lines.specs.declared.OpenLine.{OpenLine}
use Rattle.lines.specs.Writing.{Puts}
use Rattle.lines.proofs.Pieces.{Pieces, pieces_start, pieces_go_on, pieces_end}
use Rattle.lines.proofs.Putting.{at_most}
use Rattle.json_lines.specs.Objects.{reason_text, reasons_on}

-- the reasons below i are told, none by more than 44 bytes
pub record Telling (counts : List ℕ) (old new : OpenLine) (told i : ℕ) : Type 0 where
  pub started : 1 ≤ i
  pub within : i ≤ length counts + 1
  pub few : told ≤ i
  pub short : new.end ≤ old.end + 44 * (i - 1)
  pub pieces : Pieces (reasons_on 0 1 (drop 1 counts)) old new (reasons_on told i (drop i counts))

one_more : (none : Bool) → cond none 0 1 ≤ 1
one_more true = omega arith
one_more false = omega arith

module _ {counts : List ℕ} {old : OpenLine} where
  pub tell_starts : Telling counts old old 0 1
  tell_starts = record { started = omega arith; within = omega arith; few = omega arith; short = omega arith; pieces = pieces_start }

  pub tell_goes_on : {new next : OpenLine} {told i told' : ℕ} → Telling counts old new told i → i < length counts
      → Puts 44 (reason_text told i (get_or counts i 0)) new next → told' ≡ told + cond (eqb (get_or counts i 0) 0) 0 1
      → Telling counts old next told' (i + 1)
  unfolding reasons_on
  tell_goes_on {told = told} {i = i} {told' = told'} t h p e =
      let split : reasons_on told i (drop i counts) ≡ reason_text told i (get_or counts i 0) ++ reasons_on told' (i + 1) (drop (i + 1) counts) =
      rw (e, drop-cons counts i 0 h, add-one i) in
      record {
        started = omega arith;
        within = omega arith;
        few = omega (arith, t.few, one_more (eqb (get_or counts i 0) 0));
        short = omega (arith, t.short, t.started, p.put.short, p.put.ends);
        pieces = pieces_go_on t.pieces split p;
      }

  pub tell_ends : {new : OpenLine} {told i : ℕ} → Telling counts old new told i → length counts ≤ i
      → Puts (44 * length counts) (reasons_on 0 1 (drop 1 counts)) old new
  unfolding reasons_on
  tell_ends {told = told} {i = i} t h =
      let all = pieces_end t.pieces (ap (reasons_on told i) (drop_of_length-le counts h)) in
      at_most (omega (arith, t.within, t.short, all.put.ends)) all
