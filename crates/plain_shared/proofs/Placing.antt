-- A verdict of a command at a position: that of its dwords by themselves, with the position added to the place.
-- Assumes nothing.
use Rattle.std.specs.Prelude.{Ok, Err, Option, Some, None}
use Prim.Native.Nat.{ℕ, ◌+◌, ◌-◌, ◌/◌, ◌%◌, ◌≤◌, ◌<◌}
use native.Mathlib.Omega.{arith}
use mathlib.Core.Path.{◌≡◌, refl, sym, ap, ◌∙◌}
use mathlib.Core.Bool.{Bool, true, false, not}
use mathlib.Core.List.{List, [], ◌∷◌}
use lib.ListN.{length, get_or, take, drop, length-drop}
use lib.Seq.{get_or-drop}
use lib.Dec.{ltb}
use borrow.Author.Tests.{lt-leb, lt-ltb, le-ltb, ltb-true, ltb-false}
use Rattle.rules.specs.declared.Windows.{Windows}
use Rattle.rules.specs.declared.Level.{Level}
use Rattle.rules.specs.Refusals.{Verdict}
use Rattle.rules.specs.declared.Reason.{Reason}
use Rattle.rules.specs.declared.Fault.{Fault}
use Rattle.rules.specs.declared.Reason.TheVariants.{WrongCounts, AddressUnaligned, EndsTooHigh, WindowsShare, BudgetSpent, RanOff}
use Rattle.rules.specs.declared.Reason.TheVariants.{UnknownHeader, WrongLength, PastTheWindow, BitNotAllowed, NestedStart, ValueBroken}
use Rattle.rules.specs.declared.Reason.TheVariants.{RangeOutside, BaseNeverSet, StructureNowhere, StructureBit, StructureValue}
use Rattle.rules.specs.declared.Reason.TheVariants.{RecordsFull, FileSize, FileDistance, BufferShort, NoRoom}
use Rattle.rules.specs.Words.{first_of}
use Rattle.rules.specs.Refusals.{batch_window, number_of, fault, refuse_if, refuse_found}
use Rattle.rules.specs.Commands.{row_count, length_right}
use Rattle.rules.specs.Masks.{bit_wrong}
use Rattle.rules.specs.Values.{value_wrong}
use Rattle.rules.specs.Addresses.{range_wrong}
use Rattle.rules.specs.Step.{header_at, row_at, length_at, dwords_at, nested}
use Rattle.looks.specs.Looks.{or_else, content_of, own_of}
use Rattle.plain_shared.specs.Plain.{coded}
use Rattle.plain_shared.proofs.Bounds.{verdict_of, Told}

-- a verdict of a command, told from the start of the window
unfoldable pub placed : ℕ → Verdict → Verdict
placed at (Ok _) = Ok tt
placed at (Err f) = Err (fault f.reason f.window (at + f.index))

module _ (at : ℕ) where
  pub else_placed : {u x : Verdict} (v y : Verdict) → u ≡ placed at v → x ≡ placed at y → or_else u x ≡ placed at (or_else v y)
  unfolding placed
  else_placed {x = x} (Ok _) y e f = ap (λ (v : Verdict). or_else v x) e ∙ f
  else_placed {x = x} (Err g) y e f = ap (λ (v : Verdict). or_else v x) e

  found_placed : (reason : Reason) (found : Option ℕ)
      → refuse_found reason batch_window at found ≡ placed at (refuse_found reason batch_window 0 found)
  unfolding placed
  found_placed reason None = refl
  found_placed reason (Some k) = ap (λ (i : ℕ). Err (fault reason batch_window i)) (omega arith)

  pub test_placed : (b : Bool) (reason : Reason)
      → refuse_if b (fault reason batch_window at) ≡ placed at (refuse_if b (fault reason batch_window 0))
  unfolding placed
  test_placed true reason = ap (λ (i : ℕ). Err (fault reason batch_window i)) (omega arith)
  test_placed false reason = refl

  pub content_placed : (w : Windows) (r : ℕ) (d : List ℕ) (level : Level)
      → content_of w r d at level ≡ placed at (content_of w r d 0 level)
  unfolding content_of
  content_placed w r d level =
      else_placed (refuse_found BitNotAllowed batch_window 0 (first_of (bit_wrong r d) (length d))) _
      (found_placed BitNotAllowed (first_of (bit_wrong r d) (length d)))
      (else_placed (refuse_if (nested r level) (fault NestedStart batch_window 0)) _ (test_placed (nested r level) NestedStart)
      (else_placed (refuse_found ValueBroken batch_window 0 (first_of (value_wrong r d) (length d))) _
      (found_placed ValueBroken (first_of (value_wrong r d) (length d)))
      (found_placed RangeOutside (first_of (range_wrong w r d) (length d)))))

-- the checks 8 to 13 of the command at a position of the batch, where its header is in a row
ends_alike : (long at n : ℕ) → at ≤ long → ltb (long - at) n ≡ ltb long (at + n)
ends_alike long at n h = by (ltb long (at + n)) refl
  where
    by : (b : Bool) → ltb long (at + n) ≡ b → ltb (long - at) n ≡ b
    by true e = lt-ltb (long - at) n (omega (arith, ltb-true long (at + n) e))
    by false e = le-ltb (long - at) n (omega (arith, ltb-false long (at + n) e))

pub own_placed : (w : Windows) (batch : List ℕ) (at : ℕ) (level : Level) → row_at batch at < row_count → at ≤ length batch
    → own_of w batch at level ≡ placed at (verdict_of w (row_at batch at) (drop at batch) level)
unfolding own_of dwords_at
own_placed w batch at level k h =
    let same : at + 0 ≡ at = omega arith in
    let first : get_or (drop at batch) 0 0 ≡ get_or batch at 0 = get_or-drop at batch 0 0 ∙ ap (λ (i : ℕ). get_or batch i 0) same in
    let past : ltb (length (drop at batch)) (length_at batch at) ≡ ltb (length batch) (at + length_at batch at) =
    ap (λ (n : ℕ). ltb n (length_at batch at)) (length-drop at batch) ∙ ends_alike (length batch) at (length_at batch at) h in
    rw (lt-leb _ _ k, first, past)
    (else_placed at (refuse_if (not (length_right (row_at batch at) (header_at batch at))) (fault WrongLength batch_window 0)) _
    (test_placed at (not (length_right (row_at batch at) (header_at batch at))) WrongLength)
    (else_placed at (refuse_if (ltb (length batch) (at + length_at batch at)) (fault PastTheWindow batch_window 0)) _
    (test_placed at (ltb (length batch) (at + length_at batch at)) PastTheWindow)
    (content_placed at w (row_at batch at) (take (length_at batch at) (drop at batch)) level)))

-- no two refusals have the same number: a reason is found again by it
reason_at : ℕ → Reason
reason_at n =
    get_or
    (WrongCounts ∷ WrongCounts ∷ AddressUnaligned ∷ EndsTooHigh ∷ WindowsShare ∷ BudgetSpent ∷ RanOff ∷ UnknownHeader ∷ WrongLength
    ∷ PastTheWindow ∷ BitNotAllowed ∷ NestedStart ∷ ValueBroken ∷ RangeOutside ∷ BaseNeverSet ∷ StructureNowhere ∷ StructureBit
    ∷ StructureValue ∷ RecordsFull ∷ FileSize ∷ FileDistance ∷ BufferShort ∷ NoRoom ∷ []) n WrongCounts

by_number : (r : Reason) → reason_at (number_of r) ≡ r
unfolding reason_at number_of
by_number WrongCounts = refl
by_number AddressUnaligned = refl
by_number EndsTooHigh = refl
by_number WindowsShare = refl
by_number BudgetSpent = refl
by_number RanOff = refl
by_number UnknownHeader = refl
by_number WrongLength = refl
by_number PastTheWindow = refl
by_number BitNotAllowed = refl
by_number NestedStart = refl
by_number ValueBroken = refl
by_number RangeOutside = refl
by_number BaseNeverSet = refl
by_number StructureNowhere = refl
by_number StructureBit = refl
by_number StructureValue = refl
by_number RecordsFull = refl
by_number FileSize = refl
by_number FileDistance = refl
by_number BufferShort = refl
by_number NoRoom = refl

same_reason : (r s : Reason) → number_of r ≡ number_of s → r ≡ s
same_reason r s e = sym (by_number r) ∙ ap reason_at e ∙ by_number s

-- a fault with the reason and the place that a number tells is that of the verdict, told from the start of the window
pub told_placed : (v : Verdict) → Told v → (at : ℕ) (g : Fault) → number_of g.reason ≡ coded v / 256 → g.window ≡ batch_window
    → g.index ≡ at + coded v % 256
    → Err g ≡ placed at v
unfolding placed
told_placed v t at g reason window index =
    let r = same_reason g.reason t.first.reason (reason ∙ sym t.reason) in
    let w = window ∙ sym t.window in
    let i : g.index ≡ at + t.first.index = index ∙ ap (λ (n : ℕ). at + n) (sym t.place) in
    ap (λ (x : Reason). Err (fault x g.window g.index)) r
    ∙ ap (λ (x : ℕ). Err (fault t.first.reason x g.index)) w
    ∙ ap (λ (x : ℕ). Err (fault t.first.reason t.first.window x)) i
    ∙ ap (placed at) (sym t.fails)
