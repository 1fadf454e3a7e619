-- Demand 2 from the promise of `walk::check`, the only hypothesis; and back: demand 2 leaves no other answer and no other records than the walk's, and
-- demands 1 and 2 together are the promise.
-- Assumes nothing.
use Rattle.std.specs.Prelude.{Ok, Err, Option}
use Prim.Native.Nat.{ℕ}
use mathlib.Core.Path.{◌≡◌, refl, sym, ap, ◌∙◌}
use mathlib.Core.List.{List, []}
use mathlib.Core.Logic.{inl, inr, ⊎_elim}
use lib.ListN.{length, take, take-append-drop}
use lib.Dec.{eqb}
use borrow.Author.Tests.{eqb-true, eqb-false}
use Rattle.rules.specs.declared.Answer.{Answer}
use Rattle.rules.specs.declared.Fault.{Fault}
use Rattle.rules.specs.Refusals.{Verdict}
use Rattle.rules.specs.Refusals.{FirstFault, answer_with}
use Rattle.rules.specs.Windows.{Capture, lengths_of, window_checks, window_fault}
use Rattle.rules.specs.Walk.{commands_of, end_of, answer_of, Complete, WalkFault}
use Rattle.rules.specs.Records.{Checked, room_of, words_for, words_of, written_of}
use Rattle.rules.proofs.Searching.{either}
use Rattle.rules.proofs.Trying.{first_fault_lem, first_is}
use Rattle.rules.proofs.Unique.{count_is, zero_is_pass, pass_is_zero}
use Rattle.rules.proofs.Listing.{words_counted}
use Rattle.rules.proofs.Walking.{walk_unsound, refusal, accepted_passes, passes_accepted, completion}
use Rattle.rules.proofs.Deciding.{complete_told, fault_told}
use Rattle.promises.specs.Demand1.{Demand1}
use Rattle.promises.specs.Demand2.{Refusal, Demand2}
use Rattle.promises.proofs.Demand1.{walk_of, records_stand}

module _ {base : Option ℕ} {c : Capture} {old : List ℕ} where
  module _ {new : List ℕ} {r : Answer} (p : Checked base c old r new) where
    answer_is : r ≡ answer_with (end_of (walk_of base c old)) (length (commands_of (walk_of base c old)))
    unfolding answer_of
    answer_is = p.answers

    pub passes : r.reason ≡ 0 → end_of (walk_of base c old) ≡ Ok tt
    passes e = zero_is_pass (end_of (walk_of base c old)) (length (commands_of (walk_of base c old))) (ap (λ (a : Answer). a.reason) (sym answer_is) ∙ e)

    accepted : end_of (walk_of base c old) ≡ Ok tt → r.reason ≡ 0
    accepted e = ap (λ (a : Answer). a.reason) answer_is ∙ pass_is_zero (end_of (walk_of base c old)) (length (commands_of (walk_of base c old))) e

    completes : r.reason ≡ 0 → (r ≡ record { reason = 0; window = 0; index = 0; count = length (commands_of (walk_of base c old)) }) × Complete base c (commands_of (walk_of base c old))
    unfolding answer_with
    completes e = (answer_is ∙ ap (λ (v : Verdict). answer_with v (length (commands_of (walk_of base c old)))) (passes e), completion base c (room_of (length old)) (passes e))

    refuses : (r.reason ≡ 0 → ⊥) → Refusal base c (room_of (length old)) r (commands_of (walk_of base c old))
    unfolding answer_with window_fault
    refuses n = by (end_of (walk_of base c old)) refl
      where
        windows : {f : Fault} → (window_fault (lengths_of c) ≡ Err f) × (commands_of (walk_of base c old) ≡ [])
            → FirstFault window_checks (lengths_of c) f × (commands_of (walk_of base c old) ≡ [])
        windows q = (first_fault_lem (lengths_of c) window_checks _ q.0, q.1)

        by : (v : Verdict) → end_of (walk_of base c old) ≡ v → Refusal base c (room_of (length old)) r (commands_of (walk_of base c old))
        by (Ok _) e = absurd (n (accepted e))
        by (Err f) e = record {
          fault = f;
          answer = answer_is ∙ ap (λ (v : Verdict). answer_with v (length (commands_of (walk_of base c old)))) e;
          first = ⊎_elim (λ q. inl (windows q)) (λ q. inr q) (refusal base c (room_of (length old)) e);
        }

    -- THE DEMAND
    pub demand_2 : Demand2 base c old r new
    demand_2 = record {
      commands = commands_of (walk_of base c old);
      listed = records_stand p;
      accepted = (λ e. accepted_passes base c (room_of (length old)) (passes e), λ q. accepted (passes_accepted base c (room_of (length old)) q));
      complete = completes;
      refused = refuses;
    }

  -- AND BACK: what demand 2 admits
  module _ {new : List ℕ} {r : Answer} (d : Demand2 base c old r new) where
    accepts : r.reason ≡ 0 → (r ≡ answer_of (walk_of base c old)) × (d.commands ≡ commands_of (walk_of base c old))
    unfolding answer_of answer_with
    accepts e =
        let w = passes_accepted base c (room_of (length old)) (d.accepted.0 e) in
        let q = d.complete e in
        let k = complete_told base c (room_of (length old)) w q.1 in
        (q.0 ∙ rw (w, k), k)

    windows_refuse : (f : Fault) → FirstFault window_checks (lengths_of c) f → d.commands ≡ [] → r ≡ answer_with (Err f) (length d.commands)
        → (r ≡ answer_of (walk_of base c old)) × (d.commands ≡ commands_of (walk_of base c old))
    unfolding window_fault answer_of commands_of end_of
    windows_refuse f q k a = let w = walk_unsound base c (room_of (length old)) (first_is q) in (a ∙ rw (w, k), k ∙ rw w)

    walk_refuses : (f : Fault) → WalkFault base c (room_of (length old)) d.commands f → r ≡ answer_with (Err f) (length d.commands)
        → (r ≡ answer_of (walk_of base c old)) × (d.commands ≡ commands_of (walk_of base c old))
    unfolding answer_of
    walk_refuses f q a = let w = fault_told base c (room_of (length old)) q in (a ∙ rw (w.0, w.1), w.1)

    decided : (r ≡ answer_of (walk_of base c old)) × (d.commands ≡ commands_of (walk_of base c old))
    unfolding answer_with
    decided = ⊎_elim (λ q. accepts (eqb-true r.reason 0 q)) (λ q. refusing (d.refused (eqb-false r.reason 0 q))) (either (eqb r.reason 0))
      where
        refusing : Refusal base c (room_of (length old)) r d.commands → (r ≡ answer_of (walk_of base c old)) × (d.commands ≡ commands_of (walk_of base c old))
        refusing q = ⊎_elim (λ x. windows_refuse q.fault x.0 x.1 q.answer) (λ x. walk_refuses q.fault x q.answer) q.first

    -- the walk's answer, and the walk's commands in the records
    pub answer_decided : r ≡ answer_of (walk_of base c old)
    answer_decided = decided.0

    pub records_decided : take (words_for r.count) new ≡ words_of (commands_of (walk_of base c old))
    records_decided = d.listed ∙ ap words_of decided.1

    -- with demand 1 it is the whole promise
    pub promise : Demand1 c old r new → Checked base c old r new
    unfolding written_of
    promise o =
        let n = ap (λ (a : Answer). words_for a.count) answer_decided ∙ ap words_for (count_is (walk_of base c old)) ∙ sym (words_counted (commands_of (walk_of base c old))) in
        record {
          answers = answer_decided;
          written = sym (take-append-drop (words_for r.count) new) ∙ rw (records_decided, o.rest, n);
        }
