-- A header in its row: the key that it is known by, the bits that it may have, and the header that is not the table's.
-- Assumes nothing.
use Prim.Native.Nat.{ℕ, ◌+◌, ◌-◌, ◌*◌, ◌/◌, ◌%◌, ◌^◌, ◌≤◌, ◌<◌}
use native.Mathlib.Omega.{arith}
use mathlib.Core.Path.{◌≡◌, refl, sym, ap, ◌∙◌}
use mathlib.Core.Bool.{Bool, true, false, cond, not}
use mathlib.Core.List.{List, [], ◌∷◌}
use mathlib.Core.Logic.{⊎_elim}
use lib.ListN.{length, get_or, take}
use lib.Seq.{length-take-le, get_or-take}
use lib.Bits.{bit_and, and_block, and_mask, and_self, and_le_r}
use lib.Dec.{ltb, eqb}
use borrow.Author.Tests.{eqb-true, eq-eqb, ltb-true, ltb-false, not-false}
use Rattle.rules.specs.declared.Windows.{Windows}
use Rattle.rules.specs.declared.Level.{Level}
use Rattle.rules.specs.Words.{field, cleared, allowed, in_group}
use Rattle.rules.specs.Commands.{no_field, exactly, rows, row_count, the_row, key_of, row_of, length_of, length_right}
use Rattle.rules.specs.Uses.{no_use, access_of, access_at}
use Rattle.rules.specs.Masks.{header_mask, allowed_of, allowed_at, bit_wrong}
use Rattle.rules.specs.Values.{no_rule, rule_of, high_wrong, value_wrong_of, value_wrong}
use Rattle.rules.specs.Addresses.{range_wrong}
use Rattle.rules.specs.Step.{nested}
use Rattle.rules.proofs.Searching.{either, never_both}
use Rattle.rules.proofs.Used.{header_no_high, header_bits}
use Rattle.rules.proofs.HeaderParts.{from_row}
use Rattle.plain_shared.specs.Plain.{wrong_of, head_of, other_header}
use Rattle.plain_shared.proofs.Lengths.{field_is, length_says, past_says, content_says}
use Rattle.plain_shared.proofs.Content.{header_says}
use Rattle.plain_shared.proofs.Tests.{tested, content, whole}

-- a key is not above its header
pub key_at_most : (header : ℕ) → key_of header ≤ header
unfolding key_of
key_at_most header = by (eqb (field header 31 29) 0)
  where
    by : (b : Bool) → cond b (cleared header 23) (cleared header 16) ≤ header
    by true = omega arith
    by false = omega arith

-- and is its row's
pub row_key : (header r : ℕ) → r < row_count → row_of header ≡ r → key_of header ≡ (the_row r).key
unfolding row_of the_row rows
row_key header r h q = from_row (key_of header) rows r _ q h

-- what a word keeps within a mask is not above it
pub within_mask : (word mask : ℕ) → allowed word mask ≡ true → word ≤ mask
unfolding allowed
within_mask word mask e = omega (arith, and_le_r word mask, eqb-true (bit_and word mask) word e)

module _ (r : ℕ) (d : List ℕ) where
  -- a header in a row that keeps its mask lies between the row's key and the mask; so one that cannot lie there has a wrong bit
  pub not_between : r < row_count → row_of (get_or d 0 0) ≡ r
      → (bit_wrong r d 0 ≡ false → (the_row r).key ≤ get_or d 0 0 → get_or d 0 0 ≤ header_mask (the_row r) → ⊥)
      → bit_wrong r d 0 ≡ true
  not_between h q n =
      ⊎_elim (λ b. b)
      (λ b.
      let k = row_key (get_or d 0 0) r h q in
      absurd (n b (omega (arith, key_at_most (get_or d 0 0))) (within_mask _ _ (not-false _ (sym (header_bits r d) ∙ b)))))
      (either (bit_wrong r d 0))

  -- without free bits and a field it is the key
  pub other_key : r < row_count → (the_row r).total ≡ no_field → (the_row r).free ≡ 0 → row_of (get_or d 0 0) ≡ r
      → (get_or d 0 0 ≡ (the_row r).key → ⊥)
      → bit_wrong r d 0 ≡ true
  other_key h t free q n =
      let m : header_mask (the_row r) ≡ (the_row r).key + 0 = rw (t, free) in
      not_between h q (λ b low high. n (omega arith))

-- a key of which bits 7:0 are 0, and any field
module _ (x m : ℕ) where
  split : bit_and x (256 * m + 0xFF) ≡ bit_and (x / 256) m * 256 + x % 256
  split =
      let a : x ≡ x / 256 * 2 ^ 8 + x % 256 = omega arith in
      let b : 256 * m + 0xFF ≡ m * 2 ^ 8 + 0xFF = omega arith in
      ap (λ (i : ℕ). bit_and i (256 * m + 0xFF)) a
      ∙ ap (bit_and (x / 256 * 2 ^ 8 + x % 256)) b
      ∙ and_block 8 (x / 256) m (x % 256) 0xFF (omega arith) (omega arith)
      ∙ ap (λ (i : ℕ). bit_and (x / 256) m * 2 ^ 8 + i) (and_mask (x % 256) 8 ∙ (omega arith))

  pub key_and_field : x - x % 256 ≡ 256 * m → allowed x (256 * m + 0xFF) ≡ true
  unfolding allowed
  key_and_field e =
      let q : x / 256 ≡ m = omega arith in
      let s : bit_and (x / 256) m ≡ m = ap (λ (i : ℕ). bit_and i m) q ∙ and_self m in
      eq-eqb _ _ (split ∙ (omega arith))

-- 10 of the header, once 8 and 9 pass
pub bit_says_first : (w : Windows) (r : ℕ) (rest : List ℕ) (level : Level) → length_right r (get_or rest 0 0) ≡ true → (n : ℕ)
    → length_of r (get_or rest 0 0) ≡ n → 0 < n → n ≤ length rest → bit_wrong r rest 0 ≡ true → 2560 ≡ wrong_of w r rest level
bit_says_first w r rest level right n long some h e =
    let own : get_or (take n rest) 0 0 ≡ get_or rest 0 0 = get_or-take n rest 0 0 some in
    let bit = header_bits r (take n rest)
    ∙ ap (λ (x : ℕ). not (allowed x (header_mask (the_row r)))) own
    ∙ sym (header_bits r rest)
    ∙ e in
    sym (header_says w r (take n rest) level (omega (arith, length-take-le n rest h)) bit)
    ∙ content_says w r rest level right long h

-- 8, 9 and 10 at the header of any row: what they say is what is wrong with the command, or they pass
pub head_refuses : (w : Windows) (r : ℕ) (rest : List ℕ) (level : Level) (n : ℕ) (right past kept : Bool)
    → length_right r (get_or rest 0 0) ≡ right → (right ≡ true → length_of r (get_or rest 0 0) ≡ n) → 0 < n → ltb (length rest) n ≡ past
    → (right ≡ true → kept ≡ false → bit_wrong r rest 0 ≡ true) → (head_of right past kept ≡ 0 → ⊥)
    → head_of right past kept ≡ wrong_of w r rest level
unfolding head_of
head_refuses w r rest level n false past kept field long some ends bit z = length_says w r rest level field
head_refuses w r rest level n true true kept field long some ends bit z = past_says w r rest level field (long refl) (ltb-true _ _ ends)
head_refuses w r rest level n true false false field long some ends bit z =
    bit_says_first w r rest level field n (long refl) some (ltb-false _ _ ends) (bit refl refl)
head_refuses w r rest level n true false true field long some ends bit z = absurd (z refl)

pub head_passes : (right past kept : Bool) → head_of right past kept ≡ 0 → (right ≡ true) × (past ≡ false) × (kept ≡ true)
unfolding head_of
head_passes true false true e = (refl, refl, refl)
head_passes true false false e = absurd (omega arith)
head_passes true true kept e = absurd (omega arith)
head_passes false past kept e = absurd (omega arith)

-- the header is not the table's
pub other : (w : Windows) (r : ℕ) (rest : List ℕ) (level : Level) (f : ℕ) → length_right r (get_or rest 0 0) ≡ eqb (field (get_or rest 0 0) 7 0) f
    → length_of r (get_or rest 0 0) ≡ field (get_or rest 0 0) 7 0 + 2
    → (get_or rest 0 0 % 256 ≡ f → bit_wrong r rest 0 ≡ true) → other_header rest f ≡ wrong_of w r rest level
other w r rest level f right long bit =
    head_refuses w r rest level (f + 2) (eqb (get_or rest 0 0 % 256) f) (ltb (length rest) (f + 2)) false
    (right ∙ ap (λ (x : ℕ). eqb x f) (field_is _)) (λ t. long ∙ ap (λ (n : ℕ). n + 2) (field_is _ ∙ eqb-true _ _ t)) (omega arith) refl
    (λ t k. bit (eqb-true _ _ t))
    (λ z. never_both (head_passes (eqb (get_or rest 0 0 % 256) f) (ltb (length rest) (f + 2)) false z).2 refl)

-- of a row with one length: no header between its key and its mask has its field, but the table's
pub other_exact : (w : Windows) (r : ℕ) (rest : List ℕ) (level : Level) (f : ℕ) → r < row_count → (the_row r).total ≡ exactly f
    → row_of (get_or rest 0 0) ≡ r
    → (get_or rest 0 0 % 256 ≡ f → (the_row r).key ≤ get_or rest 0 0 → get_or rest 0 0 ≤ (the_row r).key + ((the_row r).free + 255) → ⊥)
    → other_header rest f ≡ wrong_of w r rest level
unfolding length_right length_of
other_exact w r rest level f known t q n =
    let m : header_mask (the_row r) ≡ (the_row r).key + ((the_row r).free + 255) = rw t in
    other w r rest level f (rw t) (rw t) (λ e. not_between r rest known q (λ b low high. n e low (omega arith)))

-- a command of one dword, of a row that has neither a rule nor an address: its header alone decides
pub one_dword : (w : Windows) (r : ℕ) (rest : List ℕ) (level : Level) → (the_row r).total ≡ no_field → rule_of r ≡ no_rule
    → access_of r ≡ no_use
    → nested r level ≡ false → 0 < length rest → wrong_of w r rest level ≡ cond (bit_wrong r rest 0) 2560 0
unfolding length_right length_of content tested bit_wrong allowed_at allowed_of in_group high_wrong value_wrong_of value_wrong access_at range_wrong
one_dword w r [] level t rule uses up h = elim h [ ]
one_dword w r (x ∷ rest) level t rule uses up h =
    whole w r (x ∷ rest) level (rw t) 1 (rw t) h ∙ rw (up, header_no_high r (x ∷ []) 0, header_no_high r (x ∷ rest) 0, rule, uses)
