-- Request 5, worked: the base that a walk starts with, in tables like that of document 01, and the theorems that the walk gives each case.
use Rattle.std.specs.Prelude.{ℕ, ◌≡◌, refl, List, [], ◌∷◌, ◌++◌, replicate}
use Rattle.rules.specs.Windows.{Capture}
use Rattle.rules.specs.Cases.{Case, case, by_default, ample, failing_in}
use Rattle.rules.specs.CanonicalCases.{based}
use Rattle.rules.specs.Book.{book}

-- the windows of "Cases", but the state window has these words and this address
abbrev pub with_state : List ℕ → ℕ → List ℕ → Capture
with_state state state_at batch =
    record { batch = batch; batch_at = 0x100000; state = state; state_at = state_at; scratch_at = 0x300000; scratch_bytes = 4096 }

-- a depth range from 0.0 to 1.0
abbrev pub depth_range : List ℕ
depth_range = 0x00000000 ∷ 0x3F800000 ∷ []

-- a pointer to the depth range so many bytes above the base, and the end
abbrev pub pointing : ℕ → List ℕ
pointing offset = 0x78230000 ∷ offset ∷ 0x05000000 ∷ []

-- "All captures since January are cut after the driver's first STATE_BASE_ADDRESS": the state window has the depth range. 1 and 2: by default it is found, under
-- "none" it is 14. 3: nothing lies behind it. 4: a base that the batch sets goes before the one at the start.
unfoldable pub cut_cases : List Case
cut_cases =
    by_default (case 1 (pointing 0) ample 0 0 2 (0x00000000 ∷ 0x0E020000 ∷ 0x00000002 ∷ 0x01010000 ∷ []))
    ∷ case 2 (pointing 0) ample 14 1 0 []
    ∷ by_default (case 3 (pointing 0x20) ample 15 1 0 [])
    ∷ by_default (case 4 (based 0x00000001 0 (pointing 0)) ample 15 17 1 (0x00000000 ∷ 0x09100000 ∷ []))
    ∷ []

pub cut_cases_hold : failing_in (with_state depth_range 0x200000) cut_cases ≡ []
unfolding cut_cases book
cut_cases_hold = refl

-- an empty state window at exactly 2^48 is the base all the same: a structure is 15, and under "none" 14
unfoldable pub high_cases : List Case
high_cases = by_default (case 1 (pointing 0) ample 15 1 0 []) ∷ case 2 (pointing 0) ample 14 1 0 [] ∷ []

pub high_cases_hold : failing_in (with_state [] 0x1000000000000) high_cases ≡ []
unfolding high_cases book
high_cases_hold = refl

-- an empty state window at the batch's own address: the structure is found in the batch, at its dword 8
unfoldable pub shared_cases : List Case
shared_cases = by_default (case 1 (pointing 0x20 ++ (replicate 5 0 ++ depth_range)) ample 0 0 2 (0x00000000 ∷ 0x0E020000 ∷ 0x00000002 ∷ 0x01010000 ∷ [])) ∷ []

pub shared_cases_hold : failing_in (with_state [] 0x100000) shared_cases ≡ []
unfolding shared_cases book
shared_cases_hold = refl
