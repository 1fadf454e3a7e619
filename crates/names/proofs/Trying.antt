-- How many bytes of a character stand: the rows tried one behind the other.
-- Assumes nothing.
use Prim.Native.Nat.{ℕ, suc, ◌+◌, ◌<◌, ◌≤◌}
use native.Mathlib.Nat.{add-zero}
use native.Mathlib.Numerals.{add-one}
use native.Mathlib.Omega.{arith}
use mathlib.Core.Path.{◌≡◌, refl, sym, ap, ◌∙◌}
use mathlib.Core.Bool.{true, false}
use mathlib.Core.List.{List, [], ◌∷◌}
use lib.ListN.{length, get_or, drop, drop_of_length-le}
use lib.Seq.{drop-cons, get_or-drop}
use Rattle.names.specs.Names.{no_byte, characters, fits, first_fit, standing}

pub rows : length characters ≡ 15
unfolding characters
rows = refl

-- the rows before i do not fit the character at a place
pub record Trying (name : List ℕ) (at a b c d i : ℕ) : Type 0 where
  pub within : i ≤ 15
  pub same : first_fit (drop i characters) a b c d ≡ standing (drop at name)

pub try_starts : {name : List ℕ} {at a b c d : ℕ} → a ≡ get_or name at no_byte → b ≡ get_or name (at + 1) no_byte
    → c ≡ get_or name (at + 2) no_byte → d ≡ get_or name (at + 3) no_byte → Trying name at a b c d 0
unfolding standing
try_starts {name} {at} ea eb ec ed = record {
  within = omega arith;
  same = rw (ea, eb, ec, ed, get_or-drop at name 0 no_byte, get_or-drop at name 1 no_byte, get_or-drop at name 2 no_byte, get_or-drop at name 3 no_byte, add-zero at);
}

-- the rows that are left, by the first of them
next_row : (i a b c d : ℕ) → i < 15
    → first_fit (drop i characters) a b c d ≡ first_fit (get_or characters i [] ∷ drop (suc i) characters) a b c d
next_row i a b c d h = ap (λ l. first_fit l a b c d) (drop-cons characters i [] (omega (arith, rows)))

module _ {name : List ℕ} {at a b c d i : ℕ} where
  pub try_goes_on : Trying name at a b c d i → i < 15 → fits (get_or characters i []) a b c d ≡ false → Trying name at a b c d (i + 1)
  unfolding first_fit
  try_goes_on t h e = record { within = omega arith; same = rw (add-one i) (sym (next_row i a b c d h ∙ rw e) ∙ t.same) }

  pub try_finds : Trying name at a b c d i → i < 15 → fits (get_or characters i []) a b c d ≡ true
      → get_or (get_or characters i []) 0 0 ≡ standing (drop at name)
  unfolding first_fit
  try_finds t h e = sym (next_row i a b c d h ∙ rw e) ∙ t.same

  pub try_ends : Trying name at a b c d i → 15 ≤ i → 0 ≡ standing (drop at name)
  unfolding first_fit
  try_ends t h = rw (drop_of_length-le characters {i = i} (omega (arith, rows))) at t.same
