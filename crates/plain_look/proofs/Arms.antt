-- The arms of the decision by header: the row by the key that the header is matched by, what the row's function asks for, and what is then seen.
-- Assumes nothing.
use Prim.Native.Nat.{ℕ, ◌+◌, ◌-◌, ◌*◌, ◌/◌, ◌^◌, ◌<◌}
use mathlib.Core.Path.{◌≡◌, refl, sym, ◌∙◌}
use mathlib.Core.Bool.{true}
use mathlib.Core.List.{List}
use lib.ListN.{length, get_or, take, drop}
use Rattle.std.specs.Prelude.{Result}
use Rattle.rules.specs.declared.Windows.{Windows}
use Rattle.rules.specs.declared.Level.TheVariants.{First}
use Rattle.rules.specs.Commands.{index_buffer_row, rows, row_count, row_from, row_of, length_of, length_right}
use Rattle.rules.specs.Step.{header_at, row_at}
use Rattle.rules.proofs.Keys.{key_0}
use Rattle.plain_shared.specs.declared.wrong.Wrong.{Wrong}
use Rattle.plain_shared.specs.Plain.{as_number, wrong_of, bare_of}
use Rattle.plain_shared.proofs.Bare.{Unasked}
use Rattle.plain_look.specs.Seeing.{OfType3, Sees}
use Rattle.plain_look.proofs.Deciding.{rest_is, lent, by_key, sees_within, sees_bare}

-- a row of type 0, by bits 31:23
module _ (batch : List ℕ) (at : ℕ) {key r : ℕ} (k : header_at batch at / 2 ^ 23 ≡ key) (small : key < 64) (q : row_from (key * 2 ^ 23) rows ≡ r) where
  pub row_0 : row_at batch at ≡ r
  row_0 = sym (key_0 _ key k small) ∙ q

  pub lent_0 : at < length batch → let rest = take (length batch - at) (drop at batch) in (0 < length rest) × (row_of (get_or rest 0 0) ≡ r)
  lent_0 h = lent batch at (rest_is batch at) h row_0

-- and one of type 3, by bits 31:16
module _ (batch : List ℕ) (at : ℕ) (t : OfType3 batch at) {key r : ℕ} (k : header_at batch at / 2 ^ 16 ≡ key)
    (q : 7 + row_from (key * 2 ^ 16) (drop 7 rows) ≡ r) where
  pub row_3 : row_at batch at ≡ r
  row_3 = by_key batch at t k q

  pub lent_3 : at < length batch → let rest = take (length batch - at) (drop at batch) in (0 < length rest) × (row_of (get_or rest 0 0) ≡ r)
  lent_3 h = lent batch at (rest_is batch at) h row_3

-- what is seen of a command of the row, by what its function answers: with windows or without, and of one length or by its field
module _ (w : Windows) (batch : List ℕ) (at : ℕ) (r : ℕ) (known : r < row_count) (e : row_at batch at ≡ r) (len : ℕ) (x : Result Unit Wrong)
    (counted : length_right r (header_at batch at) ≡ true → len ≡ length_of r (header_at batch at)) where
  pub seen_within : as_number x ≡ wrong_of w r (take (length batch - at) (drop at batch)) First
      → Sees w batch at First (r, len, x)
  seen_within says = sees_within w batch at First r known e _ (refl, refl, refl) counted says (rest_is batch at)

  pub seen_bare : as_number x ≡ bare_of r (take (length batch - at) (drop at batch)) → Unasked r
      → Sees w batch at First (r, len, x)
  seen_bare says unasked = sees_bare w batch at First r known e _ (refl, refl, refl) counted says (rest_is batch at) unasked refl

-- what the index buffer's function asks for, by the key that its arm has: so it is a fact, and no name, that another key lacks
pub index_buffer_lent : (batch : List ℕ) (at : ℕ) → OfType3 batch at → header_at batch at / 2 ^ 16 ≡ 0x780A → at < length batch
    → let rest = take (length batch - at) (drop at batch) in (0 < length rest) × (row_of (get_or rest 0 0) ≡ index_buffer_row)
unfolding rows row_from
index_buffer_lent batch at t k h = lent_3 batch at t k refl h
