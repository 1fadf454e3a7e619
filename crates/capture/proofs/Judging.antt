-- The promise of `judge`: of a file that is not read, and of one whose words are checked.
-- Assumes nothing.
use Rattle.std.specs.Prelude.{Option, Result, Ok, Err}
use Prim.Native.Nat.{ℕ}
use mathlib.Core.Path.{◌≡◌, sym, ap, ◌∙◌, subst}
use mathlib.Core.List.{List}
use lib.ListN.{take, length}
use Rattle.rules.specs.declared.Answer.{Answer}
use Rattle.rules.specs.declared.BaseChoice.{BaseChoice}
use Rattle.rules.specs.declared.Contents.{Contents}
use Rattle.rules.specs.declared.Reason.{Reason}
use Rattle.rules.specs.Refusals.{batch_window, fault, answer_with, told}
use Rattle.rules.specs.Windows.{Capture}
use Rattle.rules.specs.Walk.{answer_of, commands_of, end_of}
use Rattle.rules.specs.Records.{CheckedFrom, words_of, written_of}
use Rattle.rules.specs.File.{trailer_of, file_capture, opened_verdict, file_run, FileRead, Judged, JudgedFrom}
use Rattle.walk.specs.Lent.{lent_capture}
use Rattle.capture.proofs.Reading.{file_holds, parts}

-- the capture that the buffers hold, by what the file told of itself and the room that the third window has
abbrev held_capture : Contents → List ℕ → List ℕ → ℕ → Capture
held_capture contents batch state scratch =
    lent_capture (take contents.batch.count batch) contents.batch.at (take contents.state.count state)
    contents.state.at contents.scratch.at scratch

module _ {file batch state new_batch new_state : List ℕ} where
  -- what `read` promised of its answer, once the answer is known
  pub known : {opened opened' : Result Contents Reason} → FileRead file batch state opened new_batch new_state → opened ≡ opened'
      → FileRead file batch state opened' new_batch new_state
  known f e = rw e at f

  pub not_read : {base : Option ℕ} {records : List ℕ} {reason : Reason} {answer : Answer}
      → FileRead file batch state (Err reason) new_batch new_state → answer ≡ answer_with (Err (fault reason batch_window 0)) 0
      → Judged base file batch state records answer new_batch new_state records
  unfolding file_run opened_verdict told answer_of end_of commands_of written_of words_of
  not_read f e = record {
    answers = rw (← f.answers) e;
    batch_filled = f.batch_filled;
    state_filled = f.state_filled;
    written = rw (← f.answers);
  }

  -- the words that were checked are the capture that the file holds
  same_capture : {contents : Contents} → FileRead file batch state (Ok contents) new_batch new_state
      → held_capture contents new_batch new_state contents.scratch.bytes ≡ file_capture file
  unfolding file_capture
  same_capture f =
      let p = parts f in
      let h = file_holds file (length batch) (length state) (sym f.answers) in
      rw (p.0, p.1, ← h.counts)

  pub read_and_checked : (choice : BaseChoice) {records new_records : List ℕ} {contents : Contents} {answer : Answer} {scratch : ℕ}
      → FileRead file batch state (Ok contents) new_batch new_state → scratch ≡ (trailer_of file).scratch_bytes
      → CheckedFrom choice (held_capture contents new_batch new_state scratch) records answer new_records
      → JudgedFrom choice file batch state records answer new_batch new_state new_records
  unfolding file_run opened_verdict
  read_and_checked choice {records} {new_records} {contents} {answer} f e k =
      let h = file_holds file (length batch) (length state) (sym f.answers) in
      let scratches = e ∙ ap (λ (c : Contents). c.scratch.bytes) h.counts in
      let same = ap (held_capture contents new_batch new_state) scratches ∙ same_capture f in
      let k' = subst (λ (c : Capture). CheckedFrom choice c records answer new_records) same k in
      record {
        answers = rw (← f.answers) k'.answers;
        batch_filled = f.batch_filled;
        state_filled = f.state_filled;
        written = rw (← f.answers) k'.written;
      }
