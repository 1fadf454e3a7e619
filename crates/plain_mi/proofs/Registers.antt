-- Rows 5 and 6, which differ in their header and in where their address may lie.
-- Assumes nothing.
use Prim.Native.Nat.{ℕ, ◌+◌, ◌%◌, ◌^◌, ◌≤◌, ◌<◌}
use mathlib.Core.Path.{◌≡◌, refl, sym, ap, ◌∙◌}
use mathlib.Core.Bool.{Bool, cond, not, or-false}
use mathlib.Core.List.{List, [], ◌∷◌}
use mathlib.Core.Logic.{⊎_elim}
use lib.ListN.{length, get_or}
use native.Mathlib.Omega.{arith}
use lib.Dec.{eqb, lit≤}
use borrow.Author.Tests.{eqb-true, eqb-false}
use Rattle.rules.specs.declared.Windows.{Windows}
use Rattle.rules.specs.declared.Within.{Within}
use Rattle.rules.specs.declared.Within.TheVariants.{ScratchOnly, AnyWindow}
use Rattle.rules.specs.declared.Level.TheVariants.{First}
use Rattle.rules.specs.declared.Reason.TheVariants.{BitNotAllowed, ValueBroken}
use Rattle.rules.specs.Words.{allowed, in_group}
use Rattle.rules.specs.Refusals.{number_of}
use Rattle.rules.specs.Windows.{fits}
use Rattle.rules.specs.Formats.{known_register}
use Rattle.rules.specs.Commands.{load_register_row, store_register_row, rows, the_row, row_of, group_size}
use Rattle.rules.specs.Uses.{uses_by_row, access_of, access_at, pair_address, address_at, canonical, used_high_of}
use Rattle.rules.specs.Masks.{masks_of, allowed_of, allowed_at, bit_wrong}
use Rattle.rules.specs.Values.{value_rules, rule_of, high_wrong, value_wrong_of, value_wrong}
use Rattle.rules.specs.Addresses.{range_wrong}
use Rattle.rules.proofs.Searching.{either}
use Rattle.plain_shared.specs.Plain.{wrong_of, whole_header, or_then, register_of}
use Rattle.rules.proofs.Used.{any_dword_lem}
use Rattle.plain_shared.proofs.Lengths.{listed}
use Rattle.plain_shared.proofs.Tests.{Test, answered, tested, content, searched, searched_last, passed, stopped}
use Rattle.plain_shared.proofs.Whole.{WholeRow, whole_refuses, head_is, head_fits, whole_decides, first_answers, then_answers, both_zero}

-- 10 and 12 of either, with what comes behind them
abbrev both : List ℕ → ℕ → ℕ
both d later = tested 10 (bit_wrong store_register_row d) 1 3 (tested 12 (value_wrong store_register_row d) 1 3 later)

-- the same as the code asks them, with nothing behind them
abbrev pub register_tests : List ℕ → List Test
register_tests d =
    (not (allowed (get_or d 1 0) 0x007FFFFC), 2561)
    ∷ (not (allowed (get_or d 2 0) 0xFFFFFFFC), 2562)
    ∷ (not (known_register (get_or d 1 0)), 3073)
    ∷ (not (canonical (get_or d 3 0)), 3075)
    ∷ []

module _ (d : List ℕ) (header : ℕ) where
  register_both : register_of d header ≡ or_then (whole_header d header) (both d 0)
  unfolding number_of register_of
  register_both =
      ap (or_then (whole_header d header))
      (searched BitNotAllowed (bit_wrong store_register_row d) 1 3 _
      ∙ ap (tested 10 (bit_wrong store_register_row d) 1 3) (searched_last ValueBroken (value_wrong store_register_row d) 1 3))

  module _ {x : ℕ} (e : x ≡ whole_header d header) where
    pub header_says : (x ≡ 0 → ⊥) → x ≡ register_of d header
    unfolding register_of
    header_says n = e ∙ sym (first_answers _ _ (λ z. n (e ∙ z)))

    pub register_tested : x ≡ 0 → get_or d 3 0 < 2 ^ 32 → answered (register_tests d) 0 ≡ register_of d header
    unfolding tested bit_wrong allowed_at allowed_of masks_of rows the_row group_size in_group
        value_rules rule_of high_wrong value_wrong_of value_wrong uses_by_row access_of used_high_of
    register_tested z third =
        sym
        (register_both
        ∙ then_answers _ _ (sym e ∙ z)
        ∙ rw (any_dword_lem (get_or d 3 0) third, or-false (not (canonical (get_or d 3 0)))))

-- the row r and its header: of the dwords of such a command, 10 and 12 are those of row 5, and its address, of four bytes, lies within these windows
pub record RegisterRow (w : Windows) (r header : ℕ) (within : Within) : Type 0 where
  pub one : WholeRow r header
  pub long : header % 256 + 2 ≡ 4
  pub same : (rest : List ℕ) → get_or rest 0 0 ≡ header
      → content w r (listed rest 0 4) First 4 ≡ both rest (cond (not (fits w within (address_at rest 2) 4)) 3330 0)

pub stores : (w : Windows) → RegisterRow w store_register_row 0x12000002 ScratchOnly
unfolding rows the_row group_size in_group content tested allowed masks_of allowed_of allowed_at bit_wrong
    value_rules rule_of high_wrong value_wrong_of value_wrong uses_by_row access_of access_at used_high_of address_at range_wrong
stores w = record { one = record { known = lit≤ tt; total = refl; key = refl; free = refl }; long = refl; same = λ rest e. rw e }

pub loads : (w : Windows) → RegisterRow w load_register_row 0x14800002 AnyWindow
unfolding rows the_row group_size in_group content tested allowed masks_of allowed_of allowed_at bit_wrong
    value_rules rule_of high_wrong value_wrong_of value_wrong uses_by_row access_of access_at used_high_of address_at range_wrong
loads w = record { one = record { known = lit≤ tt; total = refl; key = refl; free = refl }; long = refl; same = λ rest e. rw e }

-- what the code has asked is 8 to 10 and 12: they decide, or what stands behind them does
module _ {w : Windows} {r header : ℕ} {within : Within} (g : RegisterRow w r header within) (rest : List ℕ) {x : ℕ}
    (e : x ≡ register_of rest header) where
  behind : whole_header rest header ≡ 0 → both rest (cond (not (fits w within (address_at rest 2) 4)) 3330 0) ≡ wrong_of w r rest First
  behind z =
      sym
      (whole_decides g.one w rest First refl z
      ∙ ap (λ (n : ℕ). content w r (listed rest 0 n) First n) g.long
      ∙ g.same rest (head_is rest header refl z))

  pub register_fits : x ≡ 0 → 4 ≤ length rest
  unfolding register_of
  register_fits z =
      omega (arith, head_fits rest header refl (both_zero (whole_header rest header) _ (sym e ∙ z)).0, g.long)

  pub register_refused : row_of (get_or rest 0 0) ≡ r → (x ≡ 0 → ⊥) → x ≡ wrong_of w r rest First
  unfolding register_of
  register_refused row n = ⊎_elim (λ p. dword (eqb-true _ 0 p)) (λ p. header_refuses (eqb-false _ 0 p)) (either (eqb (whole_header rest header) 0))
    where
      header_refuses : (whole_header rest header ≡ 0 → ⊥) → x ≡ wrong_of w r rest First
      header_refuses m = e ∙ first_answers _ _ m ∙ whole_refuses g.one w rest First refl row m

      dword : whole_header rest header ≡ 0 → x ≡ wrong_of w r rest First
      dword z =
          let own = e ∙ register_both rest header ∙ then_answers _ _ z in
          own
          ∙ stopped 10 (lit≤ tt) (bit_wrong store_register_row rest) 1 3 (λ y. n (own ∙ y))
          (λ m. stopped 12 (lit≤ tt) (value_wrong store_register_row rest) 1 3 m (λ y. absurd (y refl)))
          ∙ behind z

  pub addressed : x ≡ 0 → {fit : Bool} (taken : Bool) → fit ≡ fits w within (pair_address (get_or rest 2 0) (get_or rest 3 0)) 4
      → not fit ≡ taken
      → cond taken 3330 0 ≡ wrong_of w r rest First
  unfolding address_at
  addressed z taken f t =
      let both_pass = both_zero (whole_header rest header) _ (sym (register_both rest header) ∙ sym e ∙ z) in
      let bits = passed 10 (lit≤ tt) (bit_wrong store_register_row rest) 1 3 both_pass.1 in
      ap (λ (b : Bool). cond b 3330 0) (sym t ∙ ap not f)
      ∙ sym (passed 12 (lit≤ tt) (value_wrong store_register_row rest) 1 3 bits.0).1
      ∙ sym bits.1
      ∙ behind both_pass.0
