-- Request 3, worked: cases of addresses in the upper half of the space, in a table like that of document 01, and the theorem that the walk gives each.
use Rattle.std.specs.Prelude.{ℕ, ◌≡◌, refl, List, [], ◌∷◌, ◌++◌, replicate}
use Rattle.rules.specs.Windows.{Capture}
use Rattle.rules.specs.Cases.{Case, case, ample, failing_in}
use Rattle.rules.specs.Book.{book}

-- scratch begins at 2^47, "half of the space"; the state window, which has no dwords, lies on the last page below 2^48
abbrev pub upper_capture : List ℕ → Capture
upper_capture batch =
    record { batch = batch; batch_at = 0x100000; state = []; state_at = 0xFFFFFFFFF000; scratch_at = 0x800000000000; scratch_bytes = 4096 }

-- a store to the first dword of scratch, with this high dword, and the end
abbrev pub storing : ℕ → List ℕ
storing high = 0x10000002 ∷ 0x00000000 ∷ high ∷ 0 ∷ 0x05000000 ∷ []

-- STATE_BASE_ADDRESS with this pair as dynamic base, and what follows
abbrev pub based : ℕ → ℕ → List ℕ → List ℕ
based low high rest = 0x6101000E ∷ 0 ∷ 0 ∷ 0 ∷ 0 ∷ 0 ∷ low ∷ high ∷ (replicate 8 0 ++ rest)

-- 1 to 3: a store to scratch by the canonical address, with zeros above it, and with a bit above that 10 refused before. 4: an index buffer of size 0, whose
-- address is not used. 5: a 10 in the second vertex buffer goes before the first's high dword. 6 and 7: a base with its modify bit clear, and set. 8: the last
-- page as base, and a pointer that leads past 2^48.
unfoldable pub canonical_cases : List Case
canonical_cases =
    case 1 (storing 0xFFFF8000) ample 0 0 2 (0x00000000 ∷ 0x04040000 ∷ 0x00000004 ∷ 0x01010000 ∷ [])
    ∷ case 2 (storing 0x00008000) ample 12 2 0 []
    ∷ case 3 (storing 0x00018000) ample 12 2 0 []
    ∷ case 4 (0x780A0003 ∷ 0 ∷ 0 ∷ 0x00010000 ∷ 0 ∷ []) ample 10 3 0 []
    ∷ case 5 (0x78080007 ∷ 0x00004000 ∷ 0 ∷ 0x00008000 ∷ 4 ∷ 0x00008000 ∷ 0 ∷ 0 ∷ 0 ∷ []) ample 10 5 0 []
    ∷ case 6 (based 0 0x00008000 (0x05000000 ∷ [])) ample 0 0 2 (0x00000000 ∷ 0x09100000 ∷ 0x00000010 ∷ 0x01010000 ∷ [])
    ∷ case 7 (based 1 0x00008000 (0x05000000 ∷ [])) ample 12 7 0 []
    ∷ case 8 (based 0xFFFFF001 0xFFFFFFFF (0x78230000 ∷ 0x00002000 ∷ [])) ample 15 17 1 (0x00000000 ∷ 0x09100000 ∷ [])
    ∷ []

-- "From now on the high dword of every address that is used must be canonical, and the address is its low 48 bits"
pub canonical_cases_hold : failing_in upper_capture canonical_cases ≡ []
unfolding canonical_cases book
canonical_cases_hold = refl
