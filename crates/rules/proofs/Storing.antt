-- What a command that passed 13 stores, and where: only in scratch.
-- Assumes nothing.
use Prim.Native.Nat.{ℕ, ◌+◌, ◌-◌, ◌*◌}
use mathlib.Core.Path.{◌≡◌, refl, ap, ◌∙◌}
use mathlib.Core.Bool.{Bool, true, false, cond}
use mathlib.Core.List.{List}
use lib.ListN.{get_or}
use borrow.Author.Tests.{ne_eqb, eqb-true, not-false}
use Rattle.rules.specs.declared.Windows.{Windows}
use Rattle.rules.specs.declared.Within.{Within}
use Rattle.rules.specs.declared.Within.TheVariants.{BatchOnly, ScratchOnly, AnyWindow}
use Rattle.rules.specs.declared.Access.TheVariants.{Reaches}
use Rattle.rules.specs.Words.{bit, field, in_group}
use Rattle.rules.specs.Windows.{fits, Inside}
use Rattle.rules.specs.Commands.{start_row, store_row, store_register_row, load_register_row, pipe_row, rows, the_row, group_size, length_of, length_right}
use Rattle.rules.specs.Uses.{eight_bytes, post_sync, uses_by_row, access_of, access_at, address_at}
use Rattle.rules.specs.Addresses.{range_wrong}
use Rattle.rules.proofs.Ranges.{in_scratch_lem}

-- an address that is used and whose range is not outside fits where its rule says
pub access_fits : (w : Windows) (r : ℕ) (d : List ℕ) (k : ℕ) {bytes : ℕ} {allowed : Within} → access_at r d k ≡ Reaches bytes allowed
    → range_wrong w r d k ≡ false
    → fits w allowed (address_at d k) bytes ≡ true
unfolding range_wrong
access_fits w r d k e h = not-false _ (rw e at h)

-- the addresses of the rows that move data, at their low dwords
pub start_reaches : (d : List ℕ) → access_at start_row d 1 ≡ Reaches 4 BatchOnly
unfolding access_at access_of uses_by_row rows the_row group_size in_group
start_reaches d = refl

store_reaches : (d : List ℕ) → access_at store_row d 1 ≡ Reaches (cond (eight_bytes d) 8 4) ScratchOnly
unfolding access_at access_of uses_by_row rows the_row group_size in_group
store_reaches d = refl

store_register_reaches : (d : List ℕ) → access_at store_register_row d 2 ≡ Reaches 4 ScratchOnly
unfolding access_at access_of uses_by_row rows the_row group_size in_group
store_register_reaches d = refl

pub load_register_reaches : (d : List ℕ) → access_at load_register_row d 2 ≡ Reaches 4 AnyWindow
unfolding access_at access_of uses_by_row rows the_row group_size in_group
load_register_reaches d = refl

pipe_reaches : (d : List ℕ) → (post_sync d ≡ 0 → ⊥) → access_at pipe_row d 2 ≡ Reaches 8 ScratchOnly
unfolding access_at access_of uses_by_row rows the_row group_size in_group
pipe_reaches d h = rw (ne_eqb (post_sync d) 0 h)

-- the stores of a command: row 4 its data dwords, row 5 one dword, row 7 with post-sync two; the low dword of the address, and the bytes
pub data Stores (d : List ℕ) : ℕ → ℕ → ℕ → Type 0 where
  stores_data : Stores d store_row 1 (4 * (length_of store_row (get_or d 0 0) - 3))
  stores_register : Stores d store_register_row 2 4
  stores_post_sync : (post_sync d ≡ 0 → ⊥) → Stores d pipe_row 2 8

-- the bytes that row 4 stores are its data dwords', by the rule of 8
eight_or_four : (header : ℕ) → length_right store_row header ≡ true → cond (bit header 21) 8 4 ≡ 4 * (length_of store_row header - 3)
unfolding length_right length_of rows the_row group_size
eight_or_four header e = by (bit header 21) (eqb-true _ _ e)
  where
    by : (b : Bool) → field header 7 0 ≡ cond b 3 2 → cond b 8 4 ≡ 4 * (field header 7 0 + 2 - 3)
    by true q = rw q
    by false q = rw q

-- A STORE THAT PASSED 13 LIES IN SCRATCH.
pub stores_in_scratch : (w : Windows) (r : ℕ) (d : List ℕ) (low bytes : ℕ) → Stores d r low bytes
    → length_right r (get_or d 0 0) ≡ true → range_wrong w r d low ≡ false
    → Inside w.scratch (address_at d low) bytes
stores_in_scratch w r d low bytes stores_data h e =
    in_scratch_lem w _ _ (access_fits w store_row d 1 (store_reaches d ∙ ap (λ n. Reaches n ScratchOnly) (eight_or_four (get_or d 0 0) h)) e)
stores_in_scratch w r d low bytes stores_register h e = in_scratch_lem w _ _ (access_fits w store_register_row d 2 (store_register_reaches d) e)
stores_in_scratch w r d low bytes (stores_post_sync p) h e = in_scratch_lem w _ _ (access_fits w pipe_row d 2 (pipe_reaches d p) e)
