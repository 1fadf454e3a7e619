-- What trying a list of checks in order gives: that all pass, or the first that does not.
-- Assumes nothing.
use Rattle.std.specs.Prelude.{Result, Ok, Err, Option, Some, None}
use Prim.Native.Nat.{ℕ}
use native.Mathlib.Omega.{arith}
use mathlib.Core.Path.{◌≡◌, refl, sym, ap, ◌∙◌}
use mathlib.Core.Logic.{◌⊎◌, inl, inr, ⊎_elim}
use mathlib.Core.Bool.{Bool, true, false}
use mathlib.Core.List.{List, [], ◌∷◌, ◌++◌}
use Rattle.rules.specs.declared.Fault.{Fault}
use Rattle.rules.specs.Refusals.{Verdict}
use Rattle.rules.specs.declared.Reason.{Reason}
use Rattle.rules.specs.Refusals.{tried, first_fault, refuse_if, refuse_found, AllPass, FirstFault}

pub fails_not_pass : {f : Fault} → ◌≡◌ {A = Verdict} (Err f) (Ok tt) → ⊥
fails_not_pass e = let z : ◌≡◌ {A = ℕ} 0 1 = cc in omega arith

-- two answers that pass with the same say the same
pub same_answer : {A : Type 0} {p q : A} → ◌≡◌ {A = Result A Fault} (Ok p) (Ok q) → p ≡ q
same_answer e = cc

pub same_fault : {f g : Fault} → ◌≡◌ {A = Verdict} (Err f) (Err g) → f ≡ g
same_fault e = cc

-- what has failed stays so
pub stays_failed : {A : Type 0} (checks : List (A → Verdict)) (f : Fault) (a : A) → tried checks (Err f) a ≡ Err f
unfolding tried
stays_failed [] f a = refl
stays_failed (check ∷ checks) f a = refl

module _ {A : Type 0} (a : A) where
  passing : (checks : List (A → Verdict)) (said : Verdict) → tried checks said a ≡ Ok tt → (said ≡ Ok tt) × AllPass checks a
  unfolding tried
  passing [] said e = (e, tt)
  passing (check ∷ checks) (Ok _) e = (refl, passing checks (check a) e)
  passing (check ∷ checks) (Err f) e = absurd (fails_not_pass e)

  failing : (checks : List (A → Verdict)) (said : Verdict) (f : Fault) → tried checks said a ≡ Err f
      → (said ≡ Err f) ⊎ ((said ≡ Ok tt) × FirstFault checks a f)
  unfolding tried
  failing [] said f e = inl e
  failing (check ∷ checks) (Err g) f e = inl e
  failing (check ∷ checks) (Ok _) f e =
      inr (
        refl,
        ⊎_elim (λ p. record { before = []; check = check; after = checks; order = refl; passes = tt; fails = p })
            (λ r. record {
              before = check ∷ r.1.before;
              check = r.1.check;
              after = r.1.after;
              order = ap (λ l. check ∷ l) r.1.order;
              passes = (r.0, r.1.passes);
              fails = r.1.fails;
            }) (failing checks (check a) f e),
      )

  -- no fault: every check passes
  pub all_pass : (checks : List (A → Verdict)) → first_fault checks a ≡ Ok tt → AllPass checks a
  all_pass checks e = (passing checks (Ok tt) e).1

  -- a fault: it is the first
  pub first_fault_lem : (checks : List (A → Verdict)) (f : Fault) → first_fault checks a ≡ Err f → FirstFault checks a f
  first_fault_lem checks f e = ⊎_elim (λ p. absurd (fails_not_pass (sym p))) (λ r. r.1) (failing checks (Ok tt) f e)

  -- and where every check passes there is none
  pub no_fault : (checks : List (A → Verdict)) → AllPass checks a → first_fault checks a ≡ Ok tt
  unfolding tried
  no_fault [] p = refl
  no_fault (check ∷ checks) p = rw p.0 (no_fault checks p.1)

  -- a list tried behind another
  pub tried_append : (checks more : List (A → Verdict)) (said : Verdict)
      → tried (checks ++ more) said a ≡ tried more (tried checks said a) a
  unfolding tried
  tried_append [] more said = refl
  tried_append (check ∷ checks) more (Ok _) = tried_append checks more (check a)
  tried_append (check ∷ checks) more (Err f) = sym (stays_failed more f a)

-- the other way: the fault of a check that fails where all before it pass is the first
pub fails_first : {A : Type 0} (before : List (A → Verdict)) (check : A → Verdict) (after : List (A → Verdict)) (a : A) {f : Fault}
    → AllPass before a → check a ≡ Err f → Err f ≡ first_fault (before ++ (check ∷ after)) a
unfolding tried
fails_first [] check after a {f} p e = sym (ap (λ v. tried after v a) e ∙ stays_failed after f a)
fails_first (b ∷ before) check after a p e =
    fails_first before check after a p.1 e ∙ sym (ap (λ v. tried (before ++ (check ∷ after)) v a) p.0)

-- so a first fault is the one that trying the list gives, and there is one only
pub first_is : {A : Type 0} {checks : List (A → Verdict)} {a : A} {f : Fault} → FirstFault checks a f
    → first_fault checks a ≡ Err f
first_is {a = a} p = ap (λ l. first_fault l a) p.order ∙ sym (fails_first p.before p.check p.after a p.passes p.fails)

-- a check with one place passes exactly where its condition does not hold
pub refuse_passes : (given : Bool) (f : Fault) → refuse_if given f ≡ Ok tt → given ≡ false
refuse_passes true f e = absurd (fails_not_pass e)
refuse_passes false f e = refl

-- and one with a search where the search finds nothing
pub search_clear : (reason : Reason) (window from : ℕ) (found : Option ℕ) → refuse_found reason window from found ≡ Ok tt
    → found ≡ None
search_clear reason window from None e = refl
search_clear reason window from (Some k) e = absurd (fails_not_pass e)
