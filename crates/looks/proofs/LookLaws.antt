-- The ways out of the checks 7 to 13, and what their answer tells.
-- Assumes nothing.
use Rattle.std.specs.Prelude.{Ok, Err}
use Prim.Native.Nat.{ℕ, ◌+◌, ◌-◌, ◌≤◌, ◌<◌}
use native.Mathlib.Nat.{add-sub_cancel_left}
use native.Mathlib.Omega.{arith}
use mathlib.Core.Path.{◌≡◌, refl, sym, ap}
use mathlib.Core.Bool.{true, false, not}
use mathlib.Core.List.{List}
use lib.ListN.{length, take, drop}
use lib.Dec.{leb, ltb}
use borrow.Author.Tests.{leb-false, ltb-false, le-leb, lt-leb, lt-ltb, le-ltb, not-false}
use Rattle.rules.specs.declared.Windows.{Windows}
use Rattle.rules.specs.declared.Level.{Level}
use Rattle.rules.specs.declared.Fault.{Fault}
use Rattle.rules.specs.Refusals.{Verdict}
use Rattle.rules.specs.declared.Reason.TheVariants.{UnknownHeader, WrongLength, PastTheWindow}
use Rattle.rules.specs.Refusals.{batch_window, fault, refuse_if}
use Rattle.rules.specs.Commands.{length_right, row_count}
use Rattle.rules.specs.Step.{header_at, row_at, length_at, dwords_at}
use Rattle.rules.proofs.Trying.{fails_not_pass, same_answer, refuse_passes}
use Rattle.looks.specs.Looks.{or_else, content_of, own_of, Look, look_by, look_of}

-- two verdicts in order pass where both do
pub both_pass : (v later : Verdict) → or_else v later ≡ Ok tt → (v ≡ Ok tt) × (later ≡ Ok tt)
both_pass (Ok _) later e = (refl, e)
both_pass (Err f) later e = absurd (fails_not_pass e)

-- the ways out, in their order
module _ (w : Windows) (batch : List ℕ) (at : ℕ) (level : Level) where
  pub unknown_look : row_count ≤ row_at batch at → Err (fault UnknownHeader batch_window at) ≡ look_of w batch at level
  unfolding look_of own_of
  unknown_look h = rw (le-leb _ _ h)

  module _ (k : row_at batch at < row_count) where
    pub misfit_look : length_right (row_at batch at) (header_at batch at) ≡ false
        → Err (fault WrongLength batch_window at) ≡ look_of w batch at level
    unfolding look_of own_of
    misfit_look e = rw (lt-leb _ _ k, e)

    module _ (r : length_right (row_at batch at) (header_at batch at) ≡ true) where
      pub past_look : length batch < at + length_at batch at → Err (fault PastTheWindow batch_window at) ≡ look_of w batch at level
      unfolding look_of own_of
      past_look h = rw (lt-leb _ _ k, r, lt-ltb _ _ h)

      module _ (l : at + length_at batch at ≤ length batch) where
        pub content_look : {f : Fault} → content_of w (row_at batch at) (dwords_at batch at) at level ≡ Err f
            → Err f ≡ look_of w batch at level
        unfolding look_of own_of
        content_look e = rw (lt-leb _ _ k, r, le-ltb _ _ l, e)

        pub whole_look : content_of w (row_at batch at) (dwords_at batch at) at level ≡ Ok tt
            → Ok (row_at batch at, length_at batch at) ≡ look_of w batch at level
        unfolding look_of own_of
        whole_look e = rw (lt-leb _ _ k, r, le-ltb _ _ l, e)

-- the part of the batch that the code takes for a command is its dwords
pub dwords_are : (batch : List ℕ) (at : ℕ) {len : ℕ} → len ≡ length_at batch at
    → take (at + len - at) (drop at batch) ≡ dwords_at batch at
unfolding dwords_at
dwords_are batch at e = rw (add-sub_cancel_left, e)

-- what an answer tells
unlike : {f : Fault} {r n : ℕ} → ◌≡◌ {A = Look} (Err f) (Ok (r, n)) → ⊥
unlike e = let z : ◌≡◌ {A = ℕ} 0 1 = cc in omega arith

wrong_by : (v : Verdict) (r n : ℕ) {f : Fault} → look_by v r n ≡ Err f → v ≡ Err f
wrong_by (Ok _) r n e = absurd (unlike (sym e))
wrong_by (Err g) r n e = cc

record Told (v : Verdict) (r n row len : ℕ) : Type 0 where
  passes : v ≡ Ok tt
  named : row ≡ r
  counted : len ≡ n

whole_by_lem : (v : Verdict) (r n : ℕ) {row len : ℕ} → look_by v r n ≡ Ok (row, len) → Told v r n row len
whole_by_lem (Ok _) r n e =
    let same = sym (same_answer e) in
    record { passes = refl; named = ap (λ (p : ℕ × ℕ). p.0) same; counted = ap (λ (p : ℕ × ℕ). p.1) same }
whole_by_lem (Err f) r n e = absurd (unlike e)

pub own_wrong : (w : Windows) (batch : List ℕ) (at : ℕ) (level : Level) {f : Fault} → look_of w batch at level ≡ Err f
    → own_of w batch at level ≡ Err f
unfolding look_of
own_wrong w batch at level = wrong_by (own_of w batch at level) (row_at batch at) (length_at batch at)

pub record Looked (w : Windows) (batch : List ℕ) (at : ℕ) (level : Level) (row len : ℕ) : Type 0 where
  pub own : own_of w batch at level ≡ Ok tt
  pub known : row_at batch at < row_count
  pub right : length_right (row_at batch at) (header_at batch at) ≡ true
  pub within : at + length_at batch at ≤ length batch
  pub passes : content_of w (row_at batch at) (dwords_at batch at) at level ≡ Ok tt
  pub named : row ≡ row_at batch at
  pub counted : len ≡ length_at batch at

pub looked_whole : (w : Windows) (batch : List ℕ) (at : ℕ) (level : Level) {row len : ℕ} → look_of w batch at level ≡ Ok (row, len)
    → Looked w batch at level row len
unfolding look_of own_of
looked_whole w batch at level e =
    let look = whole_by_lem (own_of w batch at level) (row_at batch at) (length_at batch at) e in
    let known = both_pass (refuse_if (leb row_count (row_at batch at)) (fault UnknownHeader batch_window at)) _ look.passes in
    let right = both_pass (refuse_if (not (length_right (row_at batch at) (header_at batch at))) (fault WrongLength batch_window at)) _ known.1 in
    let within = both_pass (refuse_if (ltb (length batch) (at + length_at batch at)) (fault PastTheWindow batch_window at)) _ right.1 in
    record {
      own = look.passes;
      known = leb-false _ _ (refuse_passes _ _ known.0);
      right = not-false _ (refuse_passes _ _ right.0);
      within = ltb-false _ _ (refuse_passes _ _ within.0);
      passes = within.1;
      named = look.named;
      counted = look.counted;
    }
