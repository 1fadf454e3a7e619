-- What `listing::turn` has asked when it answers: the refusals in their order, and how the promise follows from the one that was found, or from none.
-- Assumes nothing.
use Rattle.std.specs.Prelude.{Ok, Err, Option, Some, None}
use Prim.Native.Nat.{ℕ, suc, ◌+◌, ◌/◌, ◌≤◌, ◌<◌}
use native.Mathlib.Nat.{zero-add}
use native.Mathlib.Omega.{arith}
use mathlib.Core.Path.{◌≡◌, refl, sym, ap, ◌∙◌}
use mathlib.Core.Bool.{Bool}
use mathlib.Core.List.{List, [], ◌∷◌}
use lib.ListN.{length, get_or}
use borrow.Author.Tests.{lt-ltb, le-ltb}
use Rattle.rules.specs.declared.LongAnswer.{LongAnswer}
use Rattle.rules.specs.declared.Reason.TheVariants.{BitNotAllowed, RecordsFull}
use Rattle.rules.specs.Refusals.{Verdict}
use Rattle.std.specs.List.{position, position_from}
use Rattle.std.proofs.lemmas.Iterator.Adapters.{position_from-zero}
use Rattle.rules.specs.Words.{first_from, first_of}
use Rattle.rules.specs.Refusals.{batch_window, fault}
use Rattle.rules.specs.Records.{words_for}
use Rattle.rules.specs.Listings.{turning, stray_bits, word_stray, listing_full, turn_checks, turn_verdict, turn_count, long_answer, turned_by, Turned}
use Rattle.rules.proofs.Trying.{fails_first, no_fault}
use Rattle.rules.proofs.Listing.{words_for_is}

-- a search by position is that of the rules
as_first : (bad f : ℕ → Bool) (k : ℕ) (words : List ℕ) → ((i : ℕ) → f (k + i) ≡ bad (get_or words i 0)) → position_from bad k words ≡ first_from f k (length words)
unfolding first_from
as_first bad f k [] same = refl
as_first bad f k (word ∷ words) same =
    let here : f k ≡ bad word = ap f (omega arith) ∙ same 0 in
    rw (here, as_first bad f (k + 1) words (λ i. ap f (omega arith) ∙ same (suc i)))

-- the first stray word of a listing
abbrev pub first_stray : List ℕ → Option ℕ
first_stray old = position (λ word. stray_bits word) old

search_is : (old : List ℕ) → first_of (λ i. stray_bits (get_or old i 0)) (length old) ≡ first_stray old
search_is old = sym (position_from-zero stray_bits old ∙ as_first stray_bits (λ i. stray_bits (get_or old i 0)) 0 old (λ i. ap (λ n. stray_bits (get_or old n 0)) (zero-add i)))

module _ (old : List ℕ) (room : ℕ) where
  -- 10
  pub stray_fails : {i : ℕ} → first_stray old ≡ Some i → turn_verdict (turning old room) ≡ Err (fault BitNotAllowed batch_window i)
  unfolding turn_checks word_stray
  stray_fails e = sym (fails_first [] word_stray (listing_full ∷ []) (turning old room) tt (rw (search_is old, e, zero-add)))

  none_stray : first_stray old ≡ None → word_stray (turning old room) ≡ Ok tt
  unfolding word_stray
  none_stray e = rw (search_is old, e)

  -- 18: fewer halves than words are fewer words than the double
  pub full_fails : first_stray old ≡ None → room / 2 < length old → turn_verdict (turning old room) ≡ Err (fault RecordsFull batch_window 0)
  unfolding turn_checks listing_full
  full_fails e h =
      sym (fails_first (word_stray ∷ []) listing_full [] (turning old room) (none_stray e, tt)
      (rw (lt-ltb room (words_for (length old)) (omega (arith, words_for_is (length old))))))

  pub has_room : length old ≤ room / 2 → words_for (length old) ≤ room
  has_room h = omega (arith, words_for_is (length old))

  pub none_fails : first_stray old ≡ None → length old ≤ room / 2 → turn_verdict (turning old room) ≡ Ok tt
  unfolding turn_checks listing_full
  none_fails e h = no_fault (turning old room) turn_checks (none_stray e, (rw (le-ltb room (words_for (length old)) (has_room h)), tt))

-- the promise, by what was found
pub as_judged : {old before after : List ℕ} {answer : LongAnswer} (v : Verdict) → turn_verdict (turning old (length before)) ≡ v
    → answer ≡ long_answer v (turn_count v old) → after ≡ turned_by v old before → Turned old before answer after
as_judged {old} {before} v e answers words =
    record {
      answers = answers ∙ sym (ap (λ (u : Verdict). long_answer u (turn_count u old)) e);
      words = words ∙ sym (ap (λ (u : Verdict). turned_by u old before) e);
    }
