-- Demand 1 from the promise of `walk::check`, the only hypothesis; and that the promise admits one answer only.
-- Assumes nothing.
use Rattle.std.specs.Prelude.{Ok, Err, Option}
use Prim.Native.Nat.{ℕ, zero, suc, ◌≤◌}
use native.Mathlib.Omega.{arith}
use mathlib.Core.Path.{◌≡◌, refl, sym, ap, ◌∙◌}
use mathlib.Core.List.{List}
use lib.ListN.{length, take, drop, length-append, length-drop}
use lib.Seq.{take-append_seam, drop-append_seam}
use Rattle.rules.specs.declared.Answer.{Answer}
use Rattle.rules.specs.declared.Fault.{Fault}
use Rattle.rules.specs.Refusals.{Verdict}
use Rattle.rules.specs.Refusals.{FirstFault, number_of, answer_with}
use Rattle.rules.specs.Windows.{Capture, lengths_of, window_checks, window_fault}
use Rattle.rules.specs.Walk.{Run, ended, then, cut, walk, commands_of, end_of, answer_of}
use Rattle.rules.specs.Records.{Checked, room_of, words_for, words_of, written_of}
use Rattle.rules.proofs.Trying.{first_is}
use Rattle.rules.proofs.Unique.{count_is, one_check}
use Rattle.rules.proofs.Listing.{words_counted, room_has_words}
use Rattle.rules.proofs.Walking.{walk_sound, walk_unsound}
use Rattle.rules.proofs.Places.{window_place}
use Rattle.promises.specs.Demand1.{Demand1}

-- a cut run tells no more commands than there is room for
cut_short : (room : ℕ) (run : Run) → length (commands_of (cut room run)) ≤ room
unfolding cut commands_of
cut_short room (ended v) = omega arith
cut_short zero (then k run) = omega arith
cut_short (suc room) (then k run) = let h = cut_short room run in omega arith

told_short : (base : Option ℕ) (c : Capture) (room : ℕ) → length (commands_of (walk base c room)) ≤ room
unfolding commands_of
told_short base c room = by (window_fault (lengths_of c)) refl
  where
    by : (v : Verdict) → window_fault (lengths_of c) ≡ v → length (commands_of (walk base c room)) ≤ room
    by (Ok _) e = rw (walk_sound base c room e) (cut_short room _)
    by (Err f) e = rw (walk_unsound base c room e) (omega arith)

-- the walk of a capture, with the room that a record buffer has
abbrev pub walk_of : Option ℕ → Capture → List ℕ → Run
walk_of base c old = walk base c (room_of (length old))

module _ {base : Option ℕ} {c : Capture} {old new : List ℕ} {r : Answer} (p : Checked base c old r new) where
  pub count_told : r.count ≡ length (commands_of (walk_of base c old))
  count_told = ap (λ (a : Answer). a.count) p.answers ∙ count_is (walk_of base c old)

  words_told : length (words_of (commands_of (walk_of base c old))) ≡ words_for r.count
  words_told = words_counted _ ∙ ap words_for (sym count_told)

  -- the records stand from word 0 on
  pub records_stand : take (words_for r.count) new ≡ words_of (commands_of (walk_of base c old))
  unfolding written_of
  records_stand = rw (p.written, ← words_told) (take-append_seam _ _)

  bad_windows_lem : (f : Fault) → FirstFault window_checks (lengths_of c) f
      → (r ≡ record { reason = number_of f.reason; window = 0; index = 0; count = 0 }) × (new ≡ old)
  unfolding window_fault answer_of answer_with written_of commands_of end_of words_of
  bad_windows_lem f q =
      let z = window_place (lengths_of c) f (first_is q) in
      let w = walk_unsound base c (room_of (length old)) (first_is q) in
      (p.answers ∙ rw (w, z.0, z.1), p.written ∙ rw w)

  -- THE DEMAND
  pub demand_1 : Demand1 c old r new
  unfolding written_of
  demand_1 =
      let ws = words_of (commands_of (walk_of base c old)) in
      let l = told_short base c (room_of (length old)) in
      let fits = room_has_words _ (length old) l in
      let m = words_counted (commands_of (walk_of base c old)) in
      record {
        bad_windows = bad_windows_lem;
        room = omega (arith, count_told);
        same = rw p.written (omega (arith, length-append ws (drop (length ws) old), length-drop (length ws) old));
        rest = rw (p.written, ← words_told) (drop-append_seam ws (drop (length ws) old));
      }

-- ONE ANSWER ONLY: the promise admits one answer, and one content of the record buffer
pub one_answer : {base : Option ℕ} {c : Capture} {old new new' : List ℕ} {r r' : Answer} → Checked base c old r new → Checked base c old r' new' → (r ≡ r') × (new ≡ new')
one_answer p q = one_check p q
