-- A name in a file of names, each of which has an ending byte after it.
use Rattle.std.specs.Prelude.{ℕ, suc, ◌+◌, ◌≤◌, ◌≡◌, refl, cond, List, [], ◌∷◌, length, drop, eqb}
use Rattle.rules.specs.Printout.{bytes}

-- how many bytes stand before the first ending byte; all of them if there is none
unfoldable pub name_length : List ℕ → ℕ → ℕ
name_length [] ending = 0
name_length (byte ∷ rest) ending = cond (eqb byte ending) 0 (suc (name_length rest ending))

-- THE PROMISE of `name_end`: the name that starts at `from` ends before `r`, and `r` is the length of the bytes if no ending byte has come
pub record NameEnd (bytes : List ℕ) (from ending r : ℕ) : Type 0 where
  pub is : r ≡ from + name_length (drop from bytes) ending
  pub within : r ≤ length bytes

-- two names and the begin of a third, from the first byte, from behind the first ending byte, and from behind the second
pub three_names : (name_length (bytes "one\ntwo\nth") 10 ≡ 3)
    × (name_length (bytes "two\nth") 10 ≡ 3) × (name_length (bytes "th") 10 ≡ 2)
unfolding name_length
three_names = (refl, refl, refl)
