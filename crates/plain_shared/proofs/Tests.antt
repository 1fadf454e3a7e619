-- An answer of the plain engine as tests, one behind another, each with the number that it gives: the form that early returns have.
-- Assumes nothing.
use Rattle.std.specs.Prelude.{Ok, Some}
use Prim.Native.Nat.{ℕ, zero, suc, ◌+◌, ◌*◌, ◌≤◌, ◌<◌}
use native.Mathlib.Omega.{arith}
use mathlib.Core.Path.{◌≡◌, refl, sym, ap, ◌∙◌}
use mathlib.Core.Bool.{Bool, true, false, cond, not, ◌&&◌, ◌||◌}
use mathlib.Core.List.{List, [], ◌∷◌}
use lib.ListN.{length, get_or}
use Rattle.rules.specs.declared.Windows.{Windows}
use Rattle.rules.specs.declared.Level.{Level}
use Rattle.rules.specs.declared.Fault.{Fault}
use Rattle.rules.specs.Refusals.{Verdict}
use Rattle.rules.specs.declared.Reason.{Reason}
use Rattle.rules.specs.declared.Reason.TheVariants.{BitNotAllowed, NestedStart, ValueBroken, RangeOutside}
use Rattle.rules.specs.Words.{first_from}
use Rattle.rules.specs.Refusals.{batch_window, number_of, fault, refuse_if, refuse_found}
use Rattle.rules.specs.Commands.{length_of, length_right}
use Rattle.rules.specs.Masks.{bit_wrong}
use Rattle.rules.specs.Values.{value_wrong}
use Rattle.rules.specs.Addresses.{range_wrong}
use Rattle.rules.specs.Step.{nested}
use Rattle.looks.specs.Looks.{or_else, content_of}
use Rattle.plain_shared.specs.Plain.{coded, first_coded, wrong_of}
use Rattle.plain_shared.proofs.Coding.{alone}
use Rattle.plain_shared.proofs.Lengths.{listed, as_many, past_says, listed_says}

-- the n dwords from k on, tested in turn: the first that the test finds, under this number; behind them, the answer `later`
unfoldable pub tested : ℕ → (ℕ → Bool) → ℕ → ℕ → ℕ → ℕ
tested number bad k zero later = later
tested number bad k (suc n) later = cond (bad k) (256 * number + k) (tested number bad (k + 1) n later)

-- one verdict before another: a refusal with one place, and one whose place is searched
one_place : (b : Bool) (f : Fault) (v : Verdict)
    → coded (or_else (refuse_if b f) v) ≡ cond b (256 * number_of f.reason + f.index) (coded v)
unfolding coded
one_place true f v = refl
one_place false f v = refl

pub searched : (reason : Reason) (bad : ℕ → Bool) (k n : ℕ) (v : Verdict)
    → coded (or_else (refuse_found reason batch_window 0 (first_from bad k n)) v) ≡ tested (number_of reason) bad k n (coded v)
unfolding coded first_from tested
searched reason bad k zero v = refl
searched reason bad k (suc n) v = by (bad k) (searched reason bad (k + 1) n v)
  where
    by : (b : Bool) {later : ℕ} → coded (or_else (refuse_found reason batch_window 0 (first_from bad (k + 1) n)) v) ≡ later
        → coded (or_else (refuse_found reason batch_window 0 (cond b (Some k) (first_from bad (k + 1) n))) v)
        ≡ cond b (256 * number_of reason + k) later
    by true e = ap (λ (i : ℕ). 256 * number_of reason + i) (omega arith)
    by false e = e

-- and one behind which nothing comes
pub searched_last : (reason : Reason) (bad : ℕ → Bool) (k n : ℕ)
    → coded (refuse_found reason batch_window 0 (first_from bad k n)) ≡ tested (number_of reason) bad k n 0
unfolding coded
searched_last reason bad k n = alone (refuse_found reason batch_window 0 (first_from bad k n)) ∙ searched reason bad k n (Ok tt)

-- tests in a list, each with its answer: that of the first that holds, and else the answer behind them
abbrev pub Test : Type 0
Test = Bool × ℕ

abbrev pub answered : List Test → ℕ → ℕ
answered [] later = later
answered (t ∷ ts) later = cond t.0 t.1 (answered ts later)

-- the dwords of a group, each with what the test says of it
module _ (reason : Reason) (bad : ℕ → Bool) (k : ℕ) {a b : Bool} (first : bad k ≡ a) (second : bad (k + 1) ≡ b) where
  pub in_two : answered ((a, 256 * number_of reason + k) ∷ (b, 256 * number_of reason + (k + 1)) ∷ []) 0 ≡ first_coded reason bad k 2
  unfolding tested
  in_two = sym (searched_last reason bad k 2 ∙ rw (first, second))

  pub in_four : {e f : Bool} → bad (k + 2) ≡ e → bad (k + 3) ≡ f
      → answered ((a, 256 * number_of reason + k) ∷ (b, 256 * number_of reason + (k + 1)) ∷ (e, 256 * number_of reason + (k + 2))
      ∷ (f, 256 * number_of reason + (k + 3)) ∷ []) 0
      ≡ first_coded reason bad k 4
  unfolding tested
  in_four third fourth =
      let p : k + 1 + 1 ≡ k + 2 = omega arith in
      let q : k + 2 + 1 ≡ k + 3 = omega arith in
      sym (searched_last reason bad k 4 ∙ rw (first, second, p, third, q, fourth))

-- two tests with one answer
pub one_by_one : (a b : Bool) (n later : ℕ) → cond a n (cond b n later) ≡ cond (a || b) n later
one_by_one true b n later = refl
one_by_one false b n later = refl

-- 10 to 13 of n dwords, in turn
unfoldable pub content : Windows → ℕ → List ℕ → Level → ℕ → ℕ
content w r d level n =
    tested 10 (bit_wrong r d) 0 n
    (cond (nested r level) (256 * 11) (tested 12 (value_wrong r d) 0 n (tested 13 (range_wrong w r d) 0 n 0)))

content_tested : (w : Windows) (r : ℕ) (d : List ℕ) (level : Level) → coded (content_of w r d 0 level) ≡ content w r d level (length d)
unfolding content_of content number_of
content_tested w r d level =
    searched BitNotAllowed (bit_wrong r d) 0 (length d) _
    ∙ ap (tested 10 (bit_wrong r d) 0 (length d))
    (one_place (nested r level) (fault NestedStart batch_window 0) _
    ∙ ap (cond (nested r level) (256 * 11))
    (searched ValueBroken (value_wrong r d) 0 (length d) _
    ∙ ap (tested 12 (value_wrong r d) 0 (length d)) (searched_last RangeOutside (range_wrong w r d) 0 (length d))))

-- the answer, once 8 and 9 pass
pub whole : (w : Windows) (r : ℕ) (rest : List ℕ) (level : Level) → length_right r (get_or rest 0 0) ≡ true → (n : ℕ)
    → length_of r (get_or rest 0 0) ≡ n → n ≤ length rest → wrong_of w r rest level ≡ content w r (listed rest 0 n) level n
whole w r rest level right n long h =
    sym (listed_says w r rest level right long h)
    ∙ content_tested w r (listed rest 0 n) level
    ∙ ap (content w r (listed rest 0 n) level) (as_many rest 0 n)

-- a command whose header is right: it has n dwords, and its tests give this answer
pub record Own (w : Windows) (r : ℕ) (rest : List ℕ) (level : Level) (n answer : ℕ) : Type 0 where
  pub right : length_right r (get_or rest 0 0) ≡ true
  pub long : length_of r (get_or rest 0 0) ≡ n
  pub same : content w r (listed rest 0 n) level n ≡ answer

module _ {w : Windows} {r : ℕ} {rest : List ℕ} {level : Level} {n answer : ℕ} (own : Own w r rest level n answer) where
  pub own_past : length rest < n → 256 * 9 ≡ wrong_of w r rest level
  own_past h = past_says w r rest level own.right own.long h

  pub own_answer : n ≤ length rest → answer ≡ wrong_of w r rest level
  own_answer h = sym (whole w r rest level own.right n own.long h ∙ own.same)

-- what a call says of a test, where the code asks its negation
pub asked : {result test taken : Bool} → result ≡ test → not result ≡ taken → not test ≡ taken
asked e f = ap not (sym e) ∙ f

-- the first of them holds, or the others decide
pub refuses : (n later : ℕ) {test : Bool} {answer : ℕ} → test ≡ true → cond test n later ≡ answer → n ≡ answer
refuses n later e f = ap (λ (t : Bool). cond t n later) (sym e) ∙ f

pub passes : (n later : ℕ) {test : Bool} {answer : ℕ} → test ≡ false → cond test n later ≡ answer → later ≡ answer
passes n later e f = ap (λ (t : Bool). cond t n later) (sym e) ∙ f

-- the same where the answer is yes or no
pub fails : (later : Bool) {test answer : Bool} → test ≡ false → (test && later) ≡ answer → false ≡ answer
fails later e f = ap (λ (t : Bool). t && later) (sym e) ∙ f

pub holds : (later : Bool) {test answer : Bool} → test ≡ true → (test && later) ≡ answer → later ≡ answer
holds later e f = ap (λ (t : Bool). t && later) (sym e) ∙ f

-- tests behind which one answer stands, and then another: all pass, or one of them stops at the same number
module _ (number : ℕ) (some : 0 < number) (bad : ℕ → Bool) where
  pub passed : (k n : ℕ) {first later : ℕ} → tested number bad k n first ≡ 0 → (first ≡ 0) × (tested number bad k n later ≡ later)
  unfolding tested
  passed k zero e = (e, refl)
  passed k (suc n) {first} {later} e = by (bad k) e (λ f. passed (k + 1) n f)
    where
      by : (b : Bool) → cond b (256 * number + k) (tested number bad (k + 1) n first) ≡ 0
          → (tested number bad (k + 1) n first ≡ 0 → (first ≡ 0) × (tested number bad (k + 1) n later ≡ later))
          → (first ≡ 0) × (cond b (256 * number + k) (tested number bad (k + 1) n later) ≡ later)
      by true e on = absurd (omega arith)
      by false e on = on e

  pub stopped : (k n : ℕ) {first later : ℕ} → (tested number bad k n first ≡ 0 → ⊥) → ((first ≡ 0 → ⊥) → first ≡ later)
      → tested number bad k n first ≡ tested number bad k n later
  unfolding tested
  stopped k zero h same = same h
  stopped k (suc n) {first} {later} h same = by (bad k) h (λ f. stopped (k + 1) n f same)
    where
      by : (b : Bool) → (cond b (256 * number + k) (tested number bad (k + 1) n first) ≡ 0 → ⊥)
          → ((tested number bad (k + 1) n first ≡ 0 → ⊥) → tested number bad (k + 1) n first ≡ tested number bad (k + 1) n later)
          → cond b (256 * number + k) (tested number bad (k + 1) n first)
          ≡ cond b (256 * number + k) (tested number bad (k + 1) n later)
      by true h on = refl
      by false h on = on h
