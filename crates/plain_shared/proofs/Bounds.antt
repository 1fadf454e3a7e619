-- The number of a refusal lies between 7 * 256 and 14 * 256, and tells its reason and its place: a command has at most 256 dwords.
-- Assumes nothing.
use Rattle.std.specs.Prelude.{Ok, Err, Option, Some, None}
use Prim.Native.Nat.{ℕ, zero, suc, ◌+◌, ◌*◌, ◌/◌, ◌%◌, ◌≤◌, ◌<◌}
use native.Mathlib.Nat.{div-add-mod', add-zero, mul-le-mul_right}
use native.Mathlib.Omega.{arith}
use mathlib.Core.Path.{◌≡◌, refl, sym, ap, ◌∙◌, subst}
use mathlib.Core.Bool.{Bool, true, false, cond, not, ◌&&◌}
use mathlib.Core.List.{List, [], ◌∷◌}
use lib.Dec.{eqb, leb, ltb, lit≤, lit<}
use lib.ListN.{length, get_or, take}
use borrow.Author.Tests.{eqb-true, leb-true}
use Rattle.rules.specs.declared.Fault.{Fault}
use Rattle.rules.specs.declared.Level.{Level}
use Rattle.rules.specs.declared.Reason.{Reason}
use Rattle.rules.specs.declared.Reason.TheVariants.{WrongLength, PastTheWindow, BitNotAllowed, NestedStart, ValueBroken, RangeOutside}
use Rattle.rules.specs.Refusals.{Verdict}
use Rattle.rules.specs.declared.Windows.{Windows}
use Rattle.rules.specs.Words.{first_from, field, bit}
use Rattle.rules.specs.Refusals.{batch_window, number_of, fault, refuse_if, refuse_found}
use Rattle.rules.specs.Commands.{Length, no_field, exactly, by_bit, groups, rows, row_count, the_row, group_size, dword_count, field_right, length_of, length_right}
use Rattle.rules.specs.Masks.{bit_wrong}
use Rattle.rules.specs.Values.{value_wrong}
use Rattle.rules.specs.Addresses.{range_wrong}
use Rattle.rules.specs.Step.{nested}
use Rattle.rules.proofs.Searching.{and_left, and_right, first_found}
use Rattle.rules.proofs.Tables.{each, at_each}
use Rattle.rules.proofs.Trying.{fails_not_pass, same_fault}
use Rattle.looks.specs.Looks.{or_else, content_of}
use Rattle.plain_shared.specs.Plain.{coded, wrong_of}
use Rattle.plain_shared.proofs.Coding.{coded_passes}

-- the lengths that a row has are at most 256: by the field's values, or by as many groups as it may have
short_by : Length → ℕ → Bool
short_by no_field size = true
short_by (exactly f) size = leb f 254
short_by (by_bit b f g) size = leb f 254 && leb g 254
short_by (groups n) size = leb (n * size) 255

short_row : ℕ → Bool
short_row r = short_by (the_row r).total (group_size r)

rows_tested : each short_row row_count ≡ true
unfolding each short_row short_by rows the_row group_size
rows_tested = refl

short_by_lem : (t : Length) (size x : ℕ) → short_by t size ≡ true → field_right t size x ≡ true → dword_count t x ≤ 256
unfolding short_by
short_by_lem no_field size x s e = lit≤ tt
short_by_lem (exactly f) size x s e = omega (arith, leb-true f 254 s, eqb-true (field x 7 0) f e)
short_by_lem (by_bit b f g) size x s e = either_short (bit x b) (eqb-true (field x 7 0) _ e)
  where
    either_short : (t : Bool) → field x 7 0 ≡ cond t g f → field x 7 0 + 2 ≤ 256
    either_short true q = omega (arith, leb-true g 254 (and_right (leb f 254) _ s), q)
    either_short false q = omega (arith, leb-true f 254 (and_left (leb f 254) _ s), q)
short_by_lem (groups n) size x s e =
    by_groups (field x 7 0) (eqb-true _ _ (and_left (eqb ((field x 7 0 + 1) % size) 0) _ e))
    (leb-true _ _ (and_right (leb 1 ((field x 7 0 + 1) / size)) _ (and_right (eqb ((field x 7 0 + 1) % size) 0) _ e)))
  where
    by_groups : (f : ℕ) → (f + 1) % size ≡ 0 → (f + 1) / size ≤ n → f + 2 ≤ 256
    by_groups f z l =
        let all : (f + 1) / size * size ≡ f + 1 =
        sym (add-zero _) ∙ ap (λ (i : ℕ). (f + 1) / size * size + i) (sym z) ∙ div-add-mod' (f + 1) size in
        let most : (f + 1) / size * size ≤ n * size = mul-le-mul_right size l in
        omega (arith, all, most, leb-true (n * size) 255 s)

pub short : (r header : ℕ) → r < row_count → length_right r header ≡ true → length_of r header ≤ 256
unfolding short_row length_right length_of
short r header h e = short_by_lem (the_row r).total (group_size r) header (at_each short_row row_count rows_tested r h) e

-- a refusal 7 to 13, at one of 256 dwords of the batch
pub record Near (f : Fault) : Type 0 where
  pub least : 7 ≤ number_of f.reason
  pub most : number_of f.reason < 14
  pub window : f.window ≡ batch_window
  pub place : f.index < 256

-- a verdict that refuses so, if it does
abbrev pub AllNear : Verdict → Type 0
AllNear v = (f : Fault) → v ≡ Err f → Near f

-- a reason of 7 to 13
abbrev Numbered : Reason → Type 0
Numbered reason = (7 ≤ number_of reason) × (number_of reason < 14)

pub near_at : (reason : Reason) (i : ℕ) → Numbered reason → i < 256 → Near (fault reason batch_window i)
near_at reason i n h = record { least = n.0; most = n.1; window = refl; place = h }

nothing_near : AllNear (Ok tt)
nothing_near f e = absurd (fails_not_pass (sym e))

pub fault_near : {g : Fault} → Near g → AllNear (Err g)
fault_near n f e = subst (λ (h : Fault). Near h) (same_fault e) n

else_near : (u v : Verdict) → AllNear u → AllNear v → AllNear (or_else u v)
else_near (Ok _) v a b = b
else_near (Err f) v a b = a

test_near : (reason : Reason) (b : Bool) → Numbered reason → AllNear (refuse_if b (fault reason batch_window 0))
test_near reason true n = fault_near (near_at reason 0 n (lit< tt))
test_near reason false n = nothing_near

search_near : (reason : Reason) (bad : ℕ → Bool) (n : ℕ) → Numbered reason → n ≤ 256
    → AllNear (refuse_found reason batch_window 0 (first_from bad 0 n))
search_near reason bad n numbered h = by (first_from bad 0 n) (λ i e. (first_found bad 0 n e).below)
  where
    by : (found : Option ℕ) → ((i : ℕ) → found ≡ Some i → i < 0 + n) → AllNear (refuse_found reason batch_window 0 found)
    by None l = nothing_near
    by (Some i) l = fault_near (near_at reason (0 + i) numbered (omega (arith, l i refl)))

content_near : (w : Windows) (r : ℕ) (d : List ℕ) (level : Level) → length d ≤ 256 → AllNear (content_of w r d 0 level)
unfolding content_of number_of
content_near w r d level h =
    else_near (refuse_found BitNotAllowed batch_window 0 (first_from (bit_wrong r d) 0 (length d))) _
    (search_near BitNotAllowed (bit_wrong r d) (length d) (lit≤ tt, lit< tt) h)
    (else_near (refuse_if (nested r level) (fault NestedStart batch_window 0)) _ (test_near NestedStart (nested r level) (lit≤ tt, lit< tt))
    (else_near (refuse_found ValueBroken batch_window 0 (first_from (value_wrong r d) 0 (length d))) _
    (search_near ValueBroken (value_wrong r d) (length d) (lit≤ tt, lit< tt) h)
    (search_near RangeOutside (range_wrong w r d) (length d) (lit≤ tt, lit< tt) h)))

length_take_most : (n : ℕ) (l : List ℕ) → length (take n l) ≤ n
length_take_most zero l = omega arith
length_take_most (suc n) [] = omega arith
length_take_most (suc n) (x ∷ l) = omega (arith, length_take_most n l)

-- 8 to 13 of a command, with the place counted from its header: `wrong_of` is its number
abbrev pub verdict_of : Windows → ℕ → List ℕ → Level → Verdict
verdict_of w r rest level =
    or_else (refuse_if (not (length_right r (get_or rest 0 0))) (fault WrongLength batch_window 0))
    (or_else (refuse_if (ltb (length rest) (length_of r (get_or rest 0 0))) (fault PastTheWindow batch_window 0))
    (content_of w r (take (length_of r (get_or rest 0 0)) rest) 0 level))

pub verdict_near : (w : Windows) (r : ℕ) (rest : List ℕ) (level : Level) → r < row_count → AllNear (verdict_of w r rest level)
unfolding number_of
verdict_near w r rest level h = by_length (length_right r (get_or rest 0 0)) refl
  where
    long : ℕ
    long = length_of r (get_or rest 0 0)

    by_length : (b : Bool) → length_right r (get_or rest 0 0) ≡ b
        → AllNear (or_else (refuse_if (not b) (fault WrongLength batch_window 0))
        (or_else (refuse_if (ltb (length rest) long) (fault PastTheWindow batch_window 0)) (content_of w r (take long rest) 0 level)))
    by_length false e = fault_near (near_at WrongLength 0 (lit≤ tt, lit< tt) (lit< tt))
    by_length true e =
        let few : length (take long rest) ≤ 256 = omega (arith, length_take_most long rest, short r (get_or rest 0 0) h e) in
        else_near (refuse_if (ltb (length rest) long) (fault PastTheWindow batch_window 0)) _
        (test_near PastTheWindow (ltb (length rest) long) (lit≤ tt, lit< tt))
        (content_near w r (take long rest) level few)

-- what the number of such a refusal tells
pub record Told (v : Verdict) : Type 0 where
  pub first : Fault
  pub fails : v ≡ Err first
  pub window : first.window ≡ batch_window
  pub reason : number_of first.reason ≡ coded v / 256
  pub place : first.index ≡ coded v % 256
  pub least : 7 * 256 ≤ coded v
  pub most : coded v < 14 * 256

pub told : (v : Verdict) → AllNear v → (coded v ≡ 0 → ⊥) → Told v
unfolding coded
told (Ok _) a n = absurd (n refl)
told (Err f) a n =
    let near = a f refl in
    let place = near.place in
    record {
      first = f;
      fails = refl;
      window = near.window;
      reason = omega (arith, place);
      place = omega (arith, place);
      least = omega (arith, near.least);
      most = omega (arith, near.most, place);
    }

-- a command of which nothing is wrong passes
pub wrong_passes : (w : Windows) (r : ℕ) (rest : List ℕ) (level : Level) → wrong_of w r rest level ≡ 0 → verdict_of w r rest level ≡ Ok tt
unfolding wrong_of
wrong_passes w r rest level e = coded_passes _ e
