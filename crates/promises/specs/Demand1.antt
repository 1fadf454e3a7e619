-- DEMAND 1. Whatever comes in, each public call returns; bad input gets its refusal number, place and count; records of accepted commands stay and all
-- other lent memory is unchanged. That a call returns, at every input, is what a proved Rattle function with no `requires` is; the batch and the state
-- are shared borrows, which nothing writes. What is left to say of the answer r, and of the record buffer, `old` as it was lent and `new` as it returns:
use Rattle.std.specs.Prelude.{ℕ, ◌≤◌, ◌≡◌, List, length, drop}
use Rattle.rules.specs.declared.Answer.{Answer}
use Rattle.rules.specs.declared.Fault.{Fault}
use Rattle.rules.specs.Refusals.{FirstFault, number_of}
use Rattle.rules.specs.Windows.{Capture, lengths_of, window_checks}
use Rattle.rules.specs.Records.{room_of, words_for}

pub record Demand1 (c : Capture) (old : List ℕ) (r : Answer) (new : List ℕ) : Type 0 where
  -- windows that are refused, 1 to 4, have their number, place 0,0 and count 0, and nothing is written
  pub bad_windows : (f : Fault) → FirstFault window_checks (lengths_of c) f
      → (r ≡ record { reason = number_of f.reason; window = 0; index = 0; count = 0 }) × (new ≡ old)
  -- there are no more records than there is room for
  pub room : r.count ≤ room_of (length old)
  -- the buffer keeps its length, and every word behind the records is as it was
  pub same : length new ≡ length old
  pub rest : drop (words_for r.count) new ≡ drop (words_for r.count) old
