-- The ways out of `judged`: each refusal where it is the first, and none.
-- Assumes nothing.
use Rattle.std.specs.Prelude.{Ok, Err}
use Prim.Native.Nat.{ℕ, ◌+◌, ◌^◌, ◌≤◌, ◌<◌}
use native.Mathlib.Omega.{arith}
use mathlib.Core.Path.{◌≡◌, sym, ap, ◌∙◌}
use mathlib.Core.Bool.{Bool, true, false, not}
use mathlib.Core.List.{List, [], ◌∷◌}
use lib.ListN.{length}
use lib.Dec.{ltb}
use borrow.Author.Tests.{le-leb, lt-leb, not-true, not-false}
use Rattle.rules.specs.declared.Answer.{Answer}
use Rattle.rules.specs.declared.Fault.{Fault}
use Rattle.rules.specs.declared.Reason.TheVariants.{UnknownHeader, WrongLength, BitNotAllowed, NoRoom}
use Rattle.rules.specs.Words.{allowed}
use Rattle.rules.specs.Refusals.{Verdict, fault, batch_window, answer_with}
use Rattle.rules.specs.Commands.{row_count, the_row, group_size}
use Rattle.rules.specs.Masks.{bit_wrong}
use Rattle.rules.specs.Writer.{Draft, draft, count_right, header_for, command_for, some_from, row_unknown, count_wrong, bit_stray, room_short}
use Rattle.rules.specs.Writer.{write_checks, write_verdict, write_count, written_by, Written}
use Rattle.rules.proofs.Places.{write_place}
use Rattle.rules.proofs.Trying.{fails_first, no_fault}

module _ (d : Draft) where
  pub unknown : row_count ≤ d.row → Err (fault UnknownHeader batch_window 0) ≡ write_verdict d
  unfolding write_checks row_unknown
  unknown h = fails_first [] row_unknown (count_wrong ∷ bit_stray ∷ room_short ∷ []) d tt (rw (le-leb row_count d.row h))

  module _ (known : d.row < row_count) where
    seven : row_unknown d ≡ Ok tt
    unfolding row_unknown
    seven = rw (lt-leb row_count d.row known)

    pub miscounted : count_right (the_row d.row).total (group_size d.row) d.free (length d.dwords) ≡ false
        → Err (fault WrongLength batch_window 0) ≡ write_verdict d
    unfolding write_checks count_wrong
    miscounted e = fails_first (row_unknown ∷ []) count_wrong (bit_stray ∷ room_short ∷ []) d (seven, tt) (rw e)

    module _ (counted : count_right (the_row d.row).total (group_size d.row) d.free (length d.dwords) ≡ true) where
      eight : count_wrong d ≡ Ok tt
      unfolding count_wrong
      eight = rw counted

      pub free_stray : allowed d.free (the_row d.row).free ≡ false → Err (fault BitNotAllowed batch_window 0) ≡ write_verdict d
      unfolding write_checks bit_stray
      free_stray e = fails_first (row_unknown ∷ count_wrong ∷ []) bit_stray (room_short ∷ []) d (seven, (eight, tt)) (rw e)

      -- what the code asks of the dwords, behind the header that it made
      module _ {header : ℕ} {kept : Bool} (free : allowed d.free (the_row d.row).free ≡ true) (made : header ≡ header_for d.row d.free (length d.dwords))
          (asked : kept ≡ not (some_from (bit_wrong d.row (header ∷ d.dwords)) 1 (length d.dwords))) where
        told : kept ≡ not (some_from (bit_wrong d.row (command_for d)) 1 (length d.dwords))
        unfolding command_for
        told = asked ∙ ap (λ (h : ℕ). not (some_from (bit_wrong d.row (h ∷ d.dwords)) 1 (length d.dwords))) made

        pub dword_stray : kept ≡ false → Err (fault BitNotAllowed batch_window 0) ≡ write_verdict d
        unfolding write_checks bit_stray
        dword_stray e =
            fails_first (row_unknown ∷ count_wrong ∷ []) bit_stray (room_short ∷ []) d (seven, (eight, tt)) (rw (free, not-false _ (sym told ∙ e)))

        module _ (clean : kept ≡ true) where
          ten : bit_stray d ≡ Ok tt
          unfolding bit_stray
          ten = rw (free, not-true _ (sym told ∙ clean))

          pub no_room : ltb d.room (d.first + (1 + length d.dwords)) ≡ true → Err (fault NoRoom batch_window 0) ≡ write_verdict d
          unfolding write_checks room_short
          no_room e = fails_first (row_unknown ∷ count_wrong ∷ bit_stray ∷ []) room_short [] d (seven, (eight, (ten, tt))) (rw e)

          pub passes : ltb d.room (d.first + (1 + length d.dwords)) ≡ false → Ok tt ≡ write_verdict d
          unfolding write_checks room_short
          passes e = sym (no_fault d write_checks (seven, (eight, (ten, (rw e, tt)))))

-- the place of a refusal
pub refused_place : (d : Draft) (f : Fault) → write_verdict d ≡ Err f → (f.window < 2 ^ 32) × (f.index < 2 ^ 32) × (0 < 2 ^ 32)
refused_place d f e = let z = write_place d f e in (omega arith, omega arith, omega arith)

-- the promise, where nothing is refused
pub put_passed : {row free first header : ℕ} {dwords old new : List ℕ} {answer : Answer} → write_verdict (draft row free dwords (length old) first) ≡ Ok tt
    → header ≡ header_for row free (length dwords) → new ≡ written_by (Ok tt) (header ∷ dwords) first old → answer ≡ answer_with (Ok tt) 1
    → Written row free dwords first old answer new
unfolding command_for
put_passed {row} {free} {first} {header} {dwords} {old} pass made put told = record {
  answers = told ∙ sym (ap (λ (v : Verdict). answer_with v (write_count v)) pass);
  words =
      put
      ∙ ap (λ (h : ℕ). written_by (Ok tt) (h ∷ dwords) first old) made
      ∙ sym (ap (λ (v : Verdict). written_by v (header_for row free (length dwords) ∷ dwords) first old) pass);
}
