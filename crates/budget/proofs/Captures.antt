-- The two captures whose runs are computed: the longest run there is, and the loop. They stand apart from what is proved of them.
use Prim.Native.Nat.{ℕ, zero, suc}
use mathlib.Core.List.{List, [], ◌∷◌}
use Rattle.rules.specs.Windows.{Capture}
use Rattle.rules.specs.Cases.{case_capture}

-- n MI_NOOPs, and n calls of dword 766 (address 100BF8h), in front of more
unfoldable pub noops : ℕ → List ℕ → List ℕ
noops zero more = more
noops (suc n) more = 0 ∷ noops n more

unfoldable pub calls : ℕ → List ℕ → List ℕ
calls zero more = more
calls (suc n) more = 0x18C00101 ∷ 0x00100BF8 ∷ 0 ∷ calls n more

-- 255 calls, the end, 255 MI_NOOPs and their end
unfoldable pub longest : Capture
longest = case_capture (calls 255 (0x05000000 ∷ noops 255 (0x05000000 ∷ [])))

-- a jump to the batch's own start
abbrev pub looping : Capture
looping = case_capture (0x18800101 ∷ 0x00100000 ∷ 0 ∷ [])
