-- A buffer filled record by record from its first word on: what the loop of `listing::fill` has written when it has come to the old word i.
-- Assumes nothing.
use Rattle.std.specs.Prelude.{Ok}
use Prim.Native.Nat.{ℕ, ◌+◌, ◌*◌, ◌≤◌, ◌<◌}
use native.Mathlib.Numerals.{add-one}
use native.Mathlib.Omega.{arith}
use mathlib.Core.Path.{◌≡◌, refl, ap, ◌∙◌}
use mathlib.Core.List.{List, [], ◌∷◌, ◌++◌}
use lib.ListN.{length, get_or, take, drop, set, length-set}
use lib.Seq.{length-take-le, take-suc, take_all}
use Rattle.rules.specs.declared.Command.{Command}
use Rattle.rules.specs.Records.{first_word, second_word, words_of, words_for}
use Rattle.rules.specs.Listings.{old_command_of, old_commands_in, turned_by}
use Rattle.rules.proofs.Recording.{old_counted}
use Rattle.rules.proofs.Listing.{no_words, words_for_is, room_is, with_record, record_added, record_put}

-- an old listing names the commands of its two parts one after the other
old_join : (ws vs : List ℕ) → old_commands_in (ws ++ vs) ≡ old_commands_in ws ++ old_commands_in vs
unfolding old_commands_in
old_join [] vs = refl
old_join (w ∷ ws) vs = ap (λ (l : List Command). old_command_of w ∷ l) (old_join ws vs)

-- one command more
next_command : (old : List ℕ) (i : ℕ) → i < length old
    → old_commands_in (take i old) ++ (old_command_of (get_or old i 0) ∷ []) ≡ old_commands_in (take (i + 1) old)
unfolding old_commands_in
next_command old i h = rw (add-one i, take-suc old i 0 h, old_join)

-- the records of the words before i stand in the buffer, and what was behind them still does; there is room for all
pub record Filling (old before new : List ℕ) (i : ℕ) : Type 0 where
  pub within : i ≤ length old
  pub room : 2 * length old ≤ length new
  pub same : length new ≡ length before
  pub held : new ≡ words_of (old_commands_in (take i old)) ++ drop (words_for i) before

module _ {old before : List ℕ} where
  pub fill_starts : words_for (length old) ≤ length before → Filling old before before 0
  unfolding old_commands_in words_of
  fill_starts h = record { within = omega arith; room = omega (arith, words_for_is (length old)); same = refl; held = rw no_words }

  pub fill_goes_on : {new : List ℕ} {i : ℕ} → Filling old before new i → i < length old
      → let k = old_command_of (get_or old i 0) in Filling old before (set (set new (2 * i) (first_word k)) (2 * i + 1) (second_word k)) (i + 1)
  fill_goes_on {new} {i} f h =
      let k : Command = old_command_of (get_or old i 0) in
      let done : List Command = old_commands_in (take i old) in
      record {
        within = omega arith;
        room = simp length-set f.room;
        same = simp length-set f.same;
        held =
            record_put new i k (omega (arith, room_is (length new)))
            ∙ ap (λ (l : List ℕ). with_record l i k) f.held
            ∙ record_added done k before (old_counted (take i old) ∙ length-take-le i old f.within)
            ∙ ap (λ (ks : List Command). words_of ks ++ drop (words_for (i + 1)) before) (next_command old i h);
      }

  pub fill_ends : {new : List ℕ} {i : ℕ} → Filling old before new i → length old ≤ i → new ≡ turned_by (Ok tt) old before
  fill_ends {new} {i} f h =
      let all : i ≡ length old = omega (arith, f.within) in
      f.held
      ∙ ap (λ (l : List ℕ). words_of (old_commands_in l) ++ drop (words_for i) before) (take_all i old h)
      ∙ ap (λ (n : ℕ). words_of (old_commands_in old) ++ drop (words_for n) before) all
