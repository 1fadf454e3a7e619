-- Laws of the decision by header: from what a row's function answers to what is seen of the command at a position, and to the look at it.
-- Assumes nothing.
use Rattle.std.specs.Prelude.{Err, Ok}
use Prim.Native.Nat.{ℕ, ◌+◌, ◌-◌, ◌*◌, ◌/◌, ◌%◌, ◌^◌, ◌≤◌, ◌<◌}
use native.Mathlib.Omega.{arith}
use mathlib.Core.Path.{◌≡◌, refl, sym, ap, ◌∙◌}
use mathlib.Core.Bool.{Bool, true, false, not, cond}
use mathlib.Core.List.{List, [], ◌∷◌}
use lib.ListN.{length, get_or, take, drop, length-drop}
use lib.Seq.{get_or-drop, take_all}
use lib.Dec.{leb, lit≤, lit<}
use borrow.Author.Tests.{eqb-true, ne_eqb, leb-false, le-leb, lt-leb, not-false}
use Rattle.rules.specs.declared.Windows.{Windows}
use Rattle.rules.specs.declared.Level.{Level}
use Rattle.rules.specs.declared.Level.TheVariants.{First, Second}
use Rattle.rules.specs.declared.Fault.{Fault}
use Rattle.rules.specs.Refusals.{Verdict}
use Rattle.rules.specs.declared.Reason.TheVariants.{UnknownHeader, WrongLength}
use Rattle.rules.specs.Words.{field}
use Rattle.rules.specs.Refusals.{batch_window, number_of, fault, refuse_if}
use Rattle.rules.specs.Commands.{start_row, no_field, exactly, rows, the_row, row_from, row_of, length_of, length_right, row_count}
use Rattle.rules.specs.Uses.{no_use, access_of}
use Rattle.rules.specs.Values.{no_rule, rule_of}
use Rattle.rules.specs.Step.{header_at, row_at, nested}
use Rattle.rules.proofs.Trying.{refuse_passes}
use Rattle.looks.specs.Looks.{content_of, own_of, look_of}
use Rattle.looks.proofs.LookLaws.{both_pass}
use Rattle.plain_shared.specs.Plain.{as_number, coded, wrong_of, bare_of, no_windows}
use Rattle.plain_shared.proofs.Bare.{Unasked, bare}
use Rattle.plain_shared.proofs.Bounds.{AllNear, near_at, fault_near, verdict_of, verdict_near, Told, told, wrong_passes}
use Rattle.plain_shared.proofs.Coding.{coded_passes}
use Rattle.rules.proofs.Used.{header_bits}
use Rattle.plain_shared.proofs.Headers.{one_dword}
use Rattle.plain_shared.proofs.Placing.{placed, own_placed, told_placed}
use Rattle.plain_look.specs.Seeing.{OfType3, Seen, Sees}

-- what is left of a batch is all that comes behind a position
pub rest_is : (batch : List ℕ) (at : ℕ) → take (length batch - at) (drop at batch) ≡ drop at batch
rest_is batch at = take_all (length batch - at) (drop at batch) (omega (arith, length-drop at batch))

pub header_first : (batch : List ℕ) (at : ℕ) → get_or (drop at batch) 0 0 ≡ header_at batch at
header_first batch at = get_or-drop at batch 0 0 ∙ ap (λ (i : ℕ). get_or batch i 0) (omega arith)

-- so what a row's function asks for is there
pub lent : (batch : List ℕ) (at : ℕ) {rest : List ℕ} {r : ℕ} → rest ≡ drop at batch → at < length batch → row_at batch at ≡ r
    → (0 < length rest) × (row_of (get_or rest 0 0) ≡ r)
lent batch at e h q = rw e (omega (arith, length-drop at batch), ap row_of (header_first batch at) ∙ q)

-- the row by bits 31:16, where it is not of type 0
pub by_key : (batch : List ℕ) (at : ℕ) {key r : ℕ} → OfType3 batch at → header_at batch at / 2 ^ 16 ≡ key
    → 7 + row_from (key * 2 ^ 16) (drop 7 rows) ≡ r → row_at batch at ≡ r
by_key batch at t e q = t ∙ ap (λ (k : ℕ). 7 + row_from (k * 2 ^ 16) (drop 7 rows)) e ∙ q

-- the level counts for a start alone
pub never_nested : (r : ℕ) (level : Level) → (r ≡ start_row → ⊥) → nested r level ≡ false
never_nested r First n = refl
never_nested r (Second back) n = ne_eqb r start_row n

pub any_level : (w : Windows) (r : ℕ) (rest : List ℕ) (level : Level) → nested r level ≡ false
    → wrong_of w r rest level ≡ wrong_of w r rest First
unfolding wrong_of content_of
any_level w r rest level n = rw n

-- a command of one dword is known by its header
pub header_alone : (w : Windows) (r : ℕ) (rest : List ℕ) (level : Level) → (the_row r).total ≡ no_field → rule_of r ≡ no_rule
    → access_of r ≡ no_use → nested r level ≡ false → 0 < length rest → bare_of r (get_or rest 0 0 ∷ []) ≡ wrong_of w r rest level
header_alone w r [] level t rule uses n h = elim h [ ]
header_alone w r (x ∷ rest) level t rule uses n h =
    one_dword no_windows r (x ∷ []) First t rule uses refl (omega arith)
    ∙ ap (λ (b : Bool). cond b 2560 0) (header_bits r (x ∷ []) ∙ sym (header_bits r (x ∷ rest)))
    ∙ sym (one_dword w r (x ∷ rest) level t rule uses n h)

-- how long a command of a row is: of one dword, of one length where its field is right
pub one_long : (r header : ℕ) → (the_row r).total ≡ no_field → 1 ≡ length_of r header
unfolding length_of
one_long r header e = rw e

pub exactly_long : (r header f : ℕ) → (the_row r).total ≡ exactly f → length_right r header ≡ true → f + 2 ≡ length_of r header
unfolding length_right length_of
exactly_long r header f e q =
    let right : field header 7 0 ≡ f = eqb-true (field header 7 0) f (rw e at q) in
    rw (e, right)

-- what is seen of a command of a row, by what the row's function answers
module _ (w : Windows) (batch : List ℕ) (at : ℕ) (level : Level) (r : ℕ) (known : r < row_count) (e : row_at batch at ≡ r) where
  right_there : wrong_of w r (drop at batch) level ≡ 0 → length_right r (header_at batch at) ≡ true
  right_there z =
      let first = refuse_if (not (length_right r (get_or (drop at batch) 0 0))) (fault WrongLength batch_window 0) in
      let right : length_right r (get_or (drop at batch) 0 0) ≡ true =
      not-false _ (refuse_passes _ _ (both_pass first _ (wrong_passes w r (drop at batch) level z)).0) in
      rw (header_first batch at) at right

  pub sees : (s : Seen) → s.0 ≡ r → (length_right r (header_at batch at) ≡ true → s.1 ≡ length_of r (header_at batch at))
      → (as_number s.2) ≡ wrong_of w r (drop at batch) level → Sees w batch at level s
  sees s named counted answered = record {
    wrong = answered ∙ rw (e, lt-leb row_count r known);
    row = λ z. named ∙ sym e;
    long = λ z. counted (right_there (sym answered ∙ z)) ∙ ap (λ (i : ℕ). length_of i (header_at batch at)) (sym e);
  }

  -- by a function that is given windows, by one that needs none, and by one that needs no more than the header
  pub sees_within : (s : Seen) {len answer : ℕ} {rest : List ℕ} → (s.0 ≡ r) × (s.1 ≡ len) × ((as_number s.2) ≡ answer)
      → (length_right r (header_at batch at) ≡ true → len ≡ length_of r (header_at batch at)) → answer ≡ wrong_of w r rest level
      → rest ≡ drop at batch → Sees w batch at level s
  sees_within s found counted says lent =
      sees s found.0 (λ q. found.1 ∙ counted q) (found.2 ∙ says ∙ ap (λ (l : List ℕ). wrong_of w r l level) lent)

  pub sees_bare : (s : Seen) {len answer : ℕ} {rest : List ℕ} → (s.0 ≡ r) × (s.1 ≡ len) × ((as_number s.2) ≡ answer)
      → (length_right r (header_at batch at) ≡ true → len ≡ length_of r (header_at batch at)) → answer ≡ bare_of r rest
      → rest ≡ drop at batch → Unasked r → nested r level ≡ false → Sees w batch at level s
  sees_bare s {rest = rest} found counted says lent unasked n =
      sees_within s found counted (says ∙ sym (bare r unasked w level n rest)) lent

  pub sees_alone : (s : Seen) {answer header : ℕ} → (s.0 ≡ r) × (s.1 ≡ 1) × ((as_number s.2) ≡ answer)
      → answer ≡ bare_of r (header ∷ []) → header ≡ header_at batch at → at < length batch → (the_row r).total ≡ no_field → rule_of r ≡ no_rule
      → access_of r ≡ no_use → nested r level ≡ false → Sees w batch at level s
  sees_alone s found says first h total rule uses n =
      let there : 0 < length (drop at batch) = omega (arith, length-drop at batch) in
      let header = ap (λ (x : ℕ). bare_of r (x ∷ [])) (first ∙ sym (header_first batch at)) in
      sees s found.0 (λ q. found.1 ∙ one_long r (header_at batch at) total)
      (found.2 ∙ says ∙ header ∙ header_alone w r (drop at batch) level total rule uses n there)

pub sees_at_level : (w : Windows) (batch : List ℕ) (at : ℕ) (level : Level) (s : Seen) → OfType3 batch at → Sees w batch at First s
    → Sees w batch at level s
sees_at_level w batch at level s t p = record {
  wrong = p.wrong ∙ ap (λ (n : ℕ). cond (leb row_count (row_at batch at)) 1792 n)
      (sym (any_level w (row_at batch at) (drop at batch) level (never_nested (row_at batch at) level (λ e. omega arith))));
  row = p.row;
  long = p.long;
}

-- a header that no row has
pub sees_nothing : (w : Windows) (batch : List ℕ) (at : ℕ) (level : Level) (s : Seen) → row_count ≡ row_at batch at → (as_number s.2) ≡ 1792
    → Sees w batch at level s
sees_nothing w batch at level s e u = record {
  wrong = u ∙ rw (le-leb row_count (row_at batch at) (omega arith));
  row = λ z. absurd (omega arith);
  long = λ z. absurd (omega arith);
}

-- 7 to 13 of the command, with the place counted from its header: what is seen is their number, and the look is what they say at the position
record Judged (w : Windows) (batch : List ℕ) (at : ℕ) (level : Level) (s : Seen) : Type 0 where
  verdict : Verdict
  number : (as_number s.2) ≡ coded verdict
  there : own_of w batch at level ≡ placed at verdict
  near : AllNear verdict

module _ (w : Windows) (batch : List ℕ) (at : ℕ) (level : Level) (h : at < length batch) (s : Seen) (p : Sees w batch at level s) where
  judged : Judged w batch at level s
  unfolding coded wrong_of own_of placed number_of
  judged = by (leb row_count (row_at batch at)) refl
    where
      by : (b : Bool) → leb row_count (row_at batch at) ≡ b → Judged w batch at level s
      by true e = record {
        verdict = Err (fault UnknownHeader batch_window 0);
        number = p.wrong ∙ rw e;
        there = rw e (ap (λ (i : ℕ). Err (fault UnknownHeader batch_window i)) (omega arith));
        near = fault_near (near_at UnknownHeader 0 (lit≤ tt, lit< tt) (lit< tt));
      }
      by false e = record {
        verdict = verdict_of w (row_at batch at) (drop at batch) level;
        number = p.wrong ∙ rw e;
        there = own_placed w batch at level (leb-false _ _ e) (omega arith);
        near = verdict_near w (row_at batch at) (drop at batch) level (leb-false _ _ e);
      }

  pub look_whole : (as_number s.2) ≡ 0 → Ok (s.0, s.1) ≡ look_of w batch at level
  unfolding look_of placed
  look_whole z =
      let passes = coded_passes judged.verdict (sym judged.number ∙ z) in
      rw (p.row z, p.long z, judged.there, passes)

  fault_told : ((as_number s.2) ≡ 0 → ⊥) → Told judged.verdict
  fault_told n = told judged.verdict judged.near (λ z. n (judged.number ∙ z))

  pub answer_bounded : ((as_number s.2) ≡ 0 → ⊥) → (7 * 256 ≤ (as_number s.2)) × ((as_number s.2) < 14 * 256)
  answer_bounded n = rw judged.number ((fault_told n).least, (fault_told n).most)

  pub look_wrong : ((as_number s.2) ≡ 0 → ⊥) → (g : Fault) → (number_of g.reason ≡ (as_number s.2) / 256) × (g.window ≡ batch_window) × (g.index ≡ at + (as_number s.2) % 256)
      → Err g ≡ look_of w batch at level
  unfolding look_of
  look_wrong n g e =
      let same : Err g ≡ placed at judged.verdict =
      told_placed judged.verdict (fault_told n) at g (e.0 ∙ ap (λ (i : ℕ). i / 256) judged.number) e.1
      (e.2 ∙ ap (λ (i : ℕ). at + i % 256) judged.number) in
      rw (judged.there, ← same)
