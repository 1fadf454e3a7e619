-- No text of the tables has over 64 bytes.
-- Assumes nothing.
use Prim.Native.Nat.{ℕ, zero, suc, ◌≤◌}
use Prim.Native.String.{String}
use native.Mathlib.Omega.{arith}
use mathlib.Core.Path.{◌≡◌, refl}
use mathlib.Core.Bool.{Bool, true, false, cond}
use mathlib.Core.List.{List, [], ◌∷◌}
use lib.ListN.{length}
use lib.Dec.{leb}
use Rattle.std.proofs.lemmas.Bool.{leb-true}
use Rattle.rules.specs.Printout.{bytes}
use Rattle.phrases.specs.Words.{words_in}

abbrev all_short : List String → Bool
all_short [] = true
all_short (text ∷ more) = cond (leb (length (bytes text)) 64) (all_short more) false

both : (a b : Bool) → cond a b false ≡ true → (a ≡ true) × (b ≡ true)
both true b e = (refl, e)
both false b e = cc

-- the words that a table has under a number are short, if all are, which is one computation
pub short : (table : List String) (i : ℕ) → all_short table ≡ true → length (words_in table i) ≤ 64
unfolding words_in
short [] i e = omega arith
short (text ∷ more) zero e = leb-true _ _ (both _ _ e).0
short (text ∷ more) (suc i) e = short more i (both _ _ e).1
