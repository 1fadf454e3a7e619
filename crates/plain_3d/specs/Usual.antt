-- Row 9 as most captures have it: nothing to ask of a base but the masks.
use Rattle.std.specs.Prelude.{ℕ, Bool, true, ◌&&◌, List, [], ◌∷◌, get_or}
use Rattle.rules.specs.Words.{allowed}

-- every one of the words keeps the mask
unfoldable pub all_keep : List ℕ → ℕ → Bool
all_keep [] mask = true
all_keep (x ∷ xs) mask = allowed x mask && all_keep xs mask

-- the low dwords of the bases and their high dwords, which are below 8000h; the one between them; the last four
abbrev pub low_dwords : List ℕ → List ℕ
low_dwords d = get_or d 1 0 ∷ get_or d 4 0 ∷ get_or d 6 0 ∷ get_or d 8 0 ∷ get_or d 10 0 ∷ []

abbrev pub high_dwords : List ℕ → List ℕ
high_dwords d = get_or d 2 0 ∷ get_or d 5 0 ∷ get_or d 7 0 ∷ get_or d 9 0 ∷ get_or d 11 0 ∷ []

abbrev pub last_dwords : List ℕ → List ℕ
last_dwords d = get_or d 12 0 ∷ get_or d 13 0 ∷ get_or d 14 0 ∷ get_or d 15 0 ∷ []

abbrev pub usual_base : List ℕ → Bool
usual_base d =
    all_keep (low_dwords d) 0xFFFFF7F1
    && (all_keep (high_dwords d) 0x00007FFF && (allowed (get_or d 3 0) 0x007F0000 && all_keep (last_dwords d) 0xFFFFF001))
