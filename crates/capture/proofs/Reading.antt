-- What a file that is not refused has shown, and the promise of `read` by it.
-- Assumes nothing.
use Rattle.std.specs.Prelude.{Result, Ok, Err}
use Prim.Native.Nat.{ℕ, ◌+◌, ◌*◌, ◌≤◌}
use native.Mathlib.Nat.{zero-add}
use native.Mathlib.Omega.{arith}
use mathlib.Core.Path.{◌≡◌, refl, sym, ap, ◌∙◌}
use mathlib.Core.Bool.{false, ◌&&◌}
use mathlib.Core.List.{List}
use lib.ListN.{length, take}
use lib.Seq.{take_at}
use lib.Dec.{ltb, eqb}
use borrow.Author.Tests.{ltb-false, eqb-true, not-false}
use Rattle.rules.specs.declared.Contents.{Contents}
use Rattle.rules.specs.declared.Reason.{Reason}
use Rattle.rules.specs.Refusals.{Verdict}
use Rattle.rules.specs.Refusals.{first_fault}
use Rattle.rules.specs.File.{Trailer, offer, trailer_of, contents_of, file_checks, distance_wrong, buffer_short, opened_by, opened_of}
use Rattle.rules.specs.File.{dwords_from, batch_from, batch_dwords, state_dwords, filled, filled_by, FileRead}
use Rattle.rules.proofs.Searching.{some_left, some_right, and_left, and_right}
use Rattle.rules.proofs.Trying.{all_pass, refuse_passes}
use Rattle.rules.proofs.Readings.{opened_told_lem}
use Rattle.opening.proofs.Filling.{length_dwords}

same_contents : {c d : Contents} → ◌≡◌ {A = Result Contents Reason} (Ok c) (Ok d) → c ≡ d
same_contents e = cc

opened_passes : (v : Verdict) (t : Trailer) {contents : Contents} → opened_by v t ≡ Ok contents
    → (v ≡ Ok tt) × (contents_of t ≡ contents)
opened_passes (Ok _) t e = (refl, same_contents e)
opened_passes (Err f) t e = let z : ◌≡◌ {A = ℕ} 0 1 = cc in absurd (omega arith)

-- what a file that is read has shown: its size, that both buffers have room, and where its dwords start
pub record FileHolds (file : List ℕ) (b s : ℕ) (contents : Contents) : Type 0 where
  pub counts : contents_of (trailer_of file) ≡ contents
  pub start : batch_from file ≡ 0
  pub size : length file ≡ 40 + 4 * (contents.batch.count + contents.state.count)
  pub batch_room : contents.batch.count ≤ b
  pub state_room : contents.state.count ≤ s

-- a distance that is right is the file's length, and what the counts come to
right_distance : (file : List ℕ) → distance_wrong (offer file 0 0) ≡ false → ((trailer_of file).distance ≡ length file)
    × ((trailer_of file).distance ≡ 40 + 4 * ((trailer_of file).batch_count + (trailer_of file).state_count))
right_distance file e =
    let t = trailer_of file in
    let told = eqb t.distance (length file) in
    let due = eqb t.distance (40 + 4 * (t.batch_count + t.state_count)) in
    let both = not-false (told && due) e in
    (eqb-true _ _ (and_left told due both), eqb-true _ _ (and_right told due both))

-- and buffers with room hold the counts
right_room : (file : List ℕ) (b s : ℕ) → buffer_short (offer file b s) ≡ false
    → ((trailer_of file).batch_count ≤ b) × ((trailer_of file).state_count ≤ s)
right_room file b s e =
    let first = ltb b (trailer_of file).batch_count in
    let second = ltb s (trailer_of file).state_count in
    (ltb-false _ _ (some_left first second e), ltb-false _ _ (some_right first second e))

pub file_holds : (file : List ℕ) (b s : ℕ) {contents : Contents} → opened_of file b s ≡ Ok contents → FileHolds file b s contents
unfolding opened_of file_checks
file_holds file b s e =
    let p = opened_passes (first_fault file_checks (offer file b s)) (trailer_of file) e in
    let q = all_pass (offer file b s) file_checks p.0 in
    let d = right_distance file (refuse_passes (distance_wrong (offer file 0 0)) _ q.1.0) in
    let r = right_room file b s (refuse_passes (buffer_short (offer file b s)) _ q.1.1.1.0) in
    record {
      counts = p.1;
      start = omega (arith, d.0);
      size = rw (← p.1) (omega (arith, d.0, d.1));
      batch_room = rw (← p.1) r.0;
      state_room = rw (← p.1) r.1;
    }

-- the promise of `read`: of a file that is refused, and of one whose dwords are filled in
module _ {file batch state : List ℕ} where
  pub left_alone : {reason : Reason} → opened_of file (length batch) (length state) ≡ Err reason
      → FileRead file batch state (Err reason) batch state
  unfolding filled_by
  left_alone e = record { answers = sym e; tells = rw (← e) (opened_told_lem file _ _); batch_filled = rw e; state_filled = rw e }

  pub filled_in : {contents : Contents} {new_batch new_state : List ℕ} → opened_of file (length batch) (length state) ≡ Ok contents
      → new_batch ≡ filled (dwords_from file 0 contents.batch.count) batch
      → new_state ≡ filled (dwords_from file (4 * contents.batch.count) contents.state.count) state
      → FileRead file batch state (Ok contents) new_batch new_state
  unfolding filled_by batch_dwords state_dwords
  filled_in e p q =
      let h = file_holds file (length batch) (length state) e in
      let first = ap (λ (c : Contents). c.batch.count) h.counts in
      let second = ap (λ (c : Contents). c.state.count) h.counts in
      record {
        answers = sym e;
        tells = rw (← e) (opened_told_lem file _ _);
        batch_filled = rw (e, h.start, first) p;
        state_filled = rw (e, h.start, first, second, zero-add) q;
      }

  -- the words that were filled are the file's dwords, for whoever goes on with them
  pub parts : {contents : Contents} {new_batch new_state : List ℕ} → FileRead file batch state (Ok contents) new_batch new_state
      → (take contents.batch.count new_batch ≡ batch_dwords file) × (take contents.state.count new_state ≡ state_dwords file)
  unfolding filled_by batch_dwords state_dwords
  parts f =
      let h = file_holds file (length batch) (length state) (sym f.answers) in
      let first = ap (λ (c : Contents). c.batch.count) h.counts in
      let second = ap (λ (c : Contents). c.state.count) h.counts in (
        rw (f.batch_filled, ← f.answers) (take_at _ _ _ (length_dwords file _ _ ∙ first)),
        rw (f.state_filled, ← f.answers) (take_at _ _ _ (length_dwords file _ _ ∙ second)),
      )
