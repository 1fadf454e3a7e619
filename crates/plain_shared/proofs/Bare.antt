-- A row of whose addresses no range is asked has the same faults with any windows; so what is said of it without windows is said of it with them.
-- Assumes nothing.
use Prim.Native.Nat.{ℕ}
use mathlib.Core.Path.{◌≡◌, ap, fun_ext}
use mathlib.Core.Bool.{false}
use mathlib.Core.List.{List}
use lib.ListN.{get_or}
use Rattle.rules.specs.declared.Windows.{Windows}
use Rattle.rules.specs.declared.Level.{Level}
use Rattle.rules.specs.Commands.{spot}
use Rattle.rules.specs.Uses.{Uses, no_use, access_of, address_at, access_at}
use Rattle.rules.specs.Addresses.{access_wrong, range_wrong}
use Rattle.rules.specs.Step.{nested}
use Rattle.looks.specs.Looks.{content_of}
use Rattle.plain_shared.specs.Plain.{wrong_of, no_windows, bare_of}

-- a row of whose addresses, if it has any, no range is asked
abbrev pub Unasked : ℕ → Type 0
Unasked r = (w : Windows) (d : List ℕ) (k : ℕ) → range_wrong w r d k ≡ false

pub no_address : (r : ℕ) → access_of r ≡ no_use → Unasked r
unfolding access_at range_wrong
no_address r e w d k = ap (λ (u : Uses). access_wrong w (address_at d k) (u d k (spot r k) (get_or d k 0))) e

module _ (r : ℕ) (e : Unasked r) where
  pub no_range : (w : Windows) (d : List ℕ) → range_wrong w r d ≡ (λ (k : ℕ). false)
  no_range w d = fun_ext (e w d)

  pub bare : (w : Windows) (level : Level) → nested r level ≡ false → (rest : List ℕ) → wrong_of w r rest level ≡ bare_of r rest
  unfolding wrong_of content_of
  bare w level n rest = rw (no_range w _, no_range no_windows _, n)
