-- Laws of what a row's function answers: a refusal's number is above 0, `?` hands the refusal on, and what is asked of a group without an address.
-- Assumes nothing.
use Prim.Native.Nat.{ℕ}
use native.Mathlib.Omega.{arith}
use mathlib.Core.Path.{◌≡◌, refl, sym, ap, ◌∙◌}
use mathlib.Core.Bool.{true, false}
use mathlib.Core.List.{List}
use Rattle.std.specs.Prelude.{Result, Ok, Err, IsErrAnd, is_ok}
use Rattle.rules.specs.declared.Reason.{Reason}
use Rattle.rules.specs.declared.Reason.TheVariants.{BitNotAllowed, ValueBroken, RangeOutside}
use Rattle.rules.specs.declared.Windows.{Windows}
use Rattle.rules.specs.Uses.{no_use, access_of}
use Rattle.rules.specs.Masks.{bit_wrong}
use Rattle.rules.specs.Values.{value_wrong}
use Rattle.rules.specs.Addresses.{range_wrong}
use Rattle.rules.proofs.Searching.{never_both}
use Rattle.plain_shared.specs.declared.wrong.Wrong.{Wrong}
use Rattle.plain_shared.specs.Plain.{as_number, first_by, first_coded, clean_from}
use Rattle.plain_shared.proofs.Cleanness.{bits_fail, values_fail, ranges_decide, no_ranges, free_coded}

-- what `?` hands on
pub handed_on : (r : Result Unit Wrong) (e : Wrong) → IsErrAnd r (λ f. f ≡ e) → as_number r ≡ e.code
handed_on (Ok t) e h = absurd h
handed_on (Err f) e h = ap (λ (w : Wrong). w.code) h

-- and it is a refusal
pub is_refusal : (e : Wrong) → e.code ≡ 0 → ⊥
is_refusal e z = omega (arith, e.some)

-- a part that finds nothing
pub is_right : (r : Result Unit Wrong) → is_ok r ≡ true → as_number r ≡ 0
is_right (Ok t) e = refl
is_right (Err f) e = absurd (never_both e refl)

-- a reason that is neither that of 10 nor that of 12
pub other_by : (w : Windows) (r : ℕ) (d : List ℕ) (reason : Reason) (k n : ℕ) → (reason ≡ BitNotAllowed → ⊥) → (reason ≡ ValueBroken → ⊥)
    → first_by w r d reason k n ≡ first_coded RangeOutside (range_wrong w r d) k n
unfolding first_by
other_by w r d BitNotAllowed k n b v = absurd (b refl)
other_by w r d ValueBroken k n b v = absurd (v refl)
other_by w r d other k n b v = refl

-- a row with no address: 13 finds nothing, and a group is in order where 10 and 12 find nothing
module _ (w : Windows) (r : ℕ) (d : List ℕ) (no : access_of r ≡ no_use) (k n : ℕ) where
  pub no_range_by : (reason : Reason) → (reason ≡ BitNotAllowed → ⊥) → (reason ≡ ValueBroken → ⊥) → 0 ≡ first_by w r d reason k n
  no_range_by reason b v = sym (other_by w r d reason k n b v ∙ free_coded RangeOutside (range_wrong w r d) k n (no_ranges w r d no k n))

  pub bits_say : (b : Result Unit Wrong) → as_number b ≡ first_coded BitNotAllowed (bit_wrong r d) k n → is_ok b ≡ false
      → is_ok b ≡ clean_from w r d k n
  bits_say (Ok t) e z = absurd (never_both refl z)
  bits_say (Err f) e z = z ∙ sym (bits_fail w r d k n (λ q. is_refusal f (e ∙ q)))

  pub values_say : (b v : Result Unit Wrong) → as_number b ≡ first_coded BitNotAllowed (bit_wrong r d) k n
      → as_number v ≡ first_coded ValueBroken (value_wrong r d) k n → is_ok b ≡ true → is_ok v ≡ clean_from w r d k n
  values_say (Err g) v e f z = absurd (never_both z refl)
  values_say (Ok s) (Ok t) e f z = sym (ranges_decide w r d k n (sym e) (sym f) ∙ no_ranges w r d no k n)
  values_say (Ok s) (Err g) e f z = sym (values_fail w r d k n (λ q. is_refusal g (f ∙ q)))
