-- The counts and the scratch length of a file are words, so they fit 32 bits.
-- Assumes nothing.
use Rattle.std.specs.Prelude.{Ok, Err}
use Prim.Native.Nat.{ℕ, ◌+◌, ◌^◌, ◌<◌}
use native.Mathlib.Omega.{arith}
use mathlib.Core.List.{List}
use lib.ListN.{get_or}
use Rattle.rules.specs.Refusals.{Verdict}
use Rattle.rules.specs.Refusals.{first_fault}
use Rattle.rules.specs.File.{word, trailer_of, file_checks, opened_by, opened_of}
use Rattle.api.specs.Read.{Small}

word_small : (file : List ℕ) (at : ℕ) → ((i : ℕ) → get_or file i 0 < 256) → word file at < 2 ^ 32
word_small file at h = omega (arith, h at, h (at + 1), h (at + 2), h (at + 3))

pub small : (file : List ℕ) (b s : ℕ) → ((i : ℕ) → get_or file i 0 < 256) → Small (opened_of file b s)
unfolding opened_of trailer_of
small file b s h = by (first_fault file_checks (record { file = file; batch_room = b; state_room = s }))
  where
    by : (v : Verdict) → Small (opened_by v (trailer_of file))
    by (Ok _) = record { batch = word_small file _ h; state = word_small file _ h; scratch = word_small file _ h }
    by (Err f) = tt
