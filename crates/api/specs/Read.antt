-- What the exported reader promises: the reader's answer as numbers, and every word of the two buffers.
use Rattle.std.specs.Prelude.{ℕ, ◌^◌, ◌<◌, ◌≡◌, List, length, get_or, Result, Ok, Err}
use Rattle.rules.specs.declared.Contents.{Contents}
use Rattle.rules.specs.declared.Reason.{Reason}
use Rattle.rules.specs.Refusals.{Told}
use Rattle.rules.specs.File.{opened_of, opened_told, filled_by, batch_dwords, state_dwords}
use Rattle.api.specs.declared.FileContents.{FileContents}

-- what the reader's answer tells, number, place and values, as the fields of a struct; a value that is not told, on a refusal, is 0
unfoldable pub flat_of : Result Contents Reason → FileContents
flat_of opened =
    let t : Told ℕ = opened_told opened in
    record {
      reason = t.answer.reason;
      window = t.answer.window;
      index = t.answer.index;
      count = t.answer.count;
      batch_at = get_or t.values 0 0;
      state_at = get_or t.values 1 0;
      scratch_at = get_or t.values 2 0;
      scratch_len = get_or t.values 3 0;
      batch_count = get_or t.values 4 0;
      state_count = get_or t.values 5 0;
    }

-- the numbers of a file fit 32 bits
pub record SmallContents (contents : Contents) : Type 0 where
  pub batch : contents.batch.count < 2 ^ 32
  pub state : contents.state.count < 2 ^ 32
  pub scratch : contents.scratch.bytes < 2 ^ 32

-- the same of what the reader answers: a refusal has no numbers
abbrev pub Small : Result Contents Reason → Type 0
Small (Err reason) = Unit {0}
Small (Ok contents) = SmallContents contents

-- THE PROMISE of `lungevati_read`: its answer, and every word of the two buffers as it returns
pub record ReadOut (file batch state : List ℕ) (answer : FileContents) (new_batch new_state : List ℕ) : Type 0 where
  pub answers : answer ≡ flat_of (opened_of file (length batch) (length state))
  pub batch_filled : new_batch ≡ filled_by (opened_of file (length batch) (length state)) (batch_dwords file) batch
  pub state_filled : new_state ≡ filled_by (opened_of file (length batch) (length state)) (state_dwords file) state
