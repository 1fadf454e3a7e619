-- Request 1, worked: cases of a blend state, in a table like that of document 01, and the theorem that the walk gives each.
use Rattle.std.specs.Prelude.{ℕ, ◌≡◌, refl, List, [], ◌∷◌, ◌++◌, replicate}
use Rattle.rules.specs.Cases.{Case, case, ample, failing}
use Rattle.rules.specs.Book.{book}

-- STATE_BASE_ADDRESS with the batch as dynamic base, a pointer to the batch's dword 32 with bit 0 set, and the end; the blend state stands at dword 32
abbrev pub pointing : List ℕ → List ℕ
pointing structure =
    0x6101000E ∷ 0 ∷ 0 ∷ 0 ∷ 0 ∷ 0 ∷ 0x00100001 ∷ (replicate 9 0 ++ (0x78240000 ∷ 0x00000081 ∷ 0x05000000 ∷ (replicate 13 0 ++ structure)))

-- an entry that blends with BLENDFACTOR_ONE four times and BLENDFUNCTION_ADD twice, and whose second dword has every bit that is allowed
abbrev pub entry : List ℕ
entry = 0x84202100 ∷ 0xF800001F ∷ []

-- the first six entries behind a leading dword that has every bit that is allowed
abbrev pub six : List ℕ → List ℕ
six rest = 0xFFF80000 ∷ (entry ++ (entry ++ (entry ++ (entry ++ (entry ++ (entry ++ rest))))))

-- what was recorded of the first command, and of all three
abbrev pub first : List ℕ
first = 0x00000000 ∷ 0x09100000 ∷ []

abbrev pub all_three : List ℕ
all_three = 0x00000000 ∷ 0x09100000 ∷ 0x00000010 ∷ 0x11020000 ∷ 0x00000012 ∷ 0x01010000 ∷ []

-- eight entries that blend; the same codes, 0 among the factors, with blending off; 17 at the eighth entry; 16 at its second dword, which goes before
-- the 17 of the seventh entry
unfoldable pub blend_cases : List Case
blend_cases =
    case 1 (pointing (six (entry ++ entry))) ample 0 0 3 all_three
    ∷ case 2 (pointing (six (entry ++ (0x04202000 ∷ 0 ∷ [])))) ample 0 0 3 all_three
    ∷ case 3 (pointing (six (entry ++ (0x84202000 ∷ 0 ∷ [])))) ample 17 47 1 first
    ∷ case 4 (pointing (six (0x84202000 ∷ 0 ∷ 0x84202100 ∷ 0x00000020 ∷ []))) ample 16 48 1 first
    ∷ []

-- "Refusals: 14 to 17 as for row 15, in the same order"
pub blend_cases_hold : failing blend_cases ≡ []
unfolding blend_cases book
blend_cases_hold = refl
