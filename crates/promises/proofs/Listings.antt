-- A turned listing names the same commands: from the promise of `listing::turn`, the only hypothesis.
-- Assumes nothing.
use Rattle.std.specs.Prelude.{Ok, Err}
use Prim.Native.Nat.{ℕ, ◌≤◌}
use native.Mathlib.Omega.{arith}
use mathlib.Core.Path.{◌≡◌, refl, sym, ap, ◌∙◌}
use mathlib.Core.List.{List}
use lib.ListN.{length, take, drop, length-append, length-drop}
use lib.Seq.{take_at, drop_at}
use borrow.Author.Tests.{ltb-false}
use Rattle.rules.specs.declared.LongAnswer.{LongAnswer}
use Rattle.rules.specs.Refusals.{Verdict}
use Rattle.rules.specs.Records.{words_of, words_for, commands_in}
use Rattle.rules.specs.Listings.{old_commands_in, turning, listing_full, turn_checks, turn_verdict, long_answer, turned_by, Turned}
use Rattle.rules.proofs.Trying.{all_pass, refuse_passes}
use Rattle.rules.proofs.Unique.{above_zero}
use Rattle.rules.proofs.Listing.{words_counted}
use Rattle.rules.proofs.Recording.{old_counted, turned_read_back}
use Rattle.promises.specs.Listings.{SameCommands}

-- a success has turned, and a refusal has a number
verdict_told : (v : Verdict) (n : ℕ) → (long_answer v n).reason ≡ 0 → v ≡ Ok tt
verdict_told (Ok _) n e = refl
verdict_told (Err f) n e = absurd (omega (arith, above_zero f.reason))

module _ {old before after : List ℕ} {answer : LongAnswer} (t : Turned old before answer after) (accepted : answer.reason ≡ 0) where
  pass : turn_verdict (turning old (length before)) ≡ Ok tt
  pass = verdict_told (turn_verdict (turning old (length before))) _ (ap (λ (a : LongAnswer). a.reason) (sym t.answers) ∙ accepted)

  fits : words_for (length old) ≤ length before
  unfolding turn_checks listing_full
  fits = ltb-false (length before) _ (refuse_passes _ _ (all_pass (turning old (length before)) turn_checks pass).1.0)

  after_is : after ≡ turned_by (Ok tt) old before
  after_is = t.words ∙ ap (λ (v : Verdict). turned_by v old before) pass

  counted : length (words_of (old_commands_in old)) ≡ words_for (length old)
  counted = words_counted (old_commands_in old) ∙ ap words_for (old_counted old)

  records : take (words_for (length old)) after ≡ words_of (old_commands_in old)
  records = ap (take (words_for (length old))) after_is ∙ take_at (words_of (old_commands_in old)) _ _ counted

  pub turned_names_the_same : SameCommands old before after
  turned_names_the_same = record {
    named = ap commands_in records ∙ turned_read_back old;
    recorded = records;
    kept = ap (drop (words_for (length old))) after_is ∙ drop_at (words_of (old_commands_in old)) _ _ counted;
    long = ap length after_is ∙ length-append (words_of (old_commands_in old)) _ ∙ omega (arith, counted, fits, length-drop (words_for (length old)) before);
  }
