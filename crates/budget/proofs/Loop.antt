-- A batch that jumps back to its own start (C6, with room for more records than the budget): number 5, after exactly 65,536
-- commands.
-- Assumes nothing.
use Rattle.std.specs.Prelude.{Ok, Err, None, Some}
use Prim.Native.Nat.{ℕ, zero, suc, ◌+◌}
use native.Mathlib.Nat.{add-zero}
use mathlib.Core.Path.{◌≡◌, refl, sym, ap, ◌∙◌}
use mathlib.Core.List.{List, [], ◌∷◌, ◌++◌, append-nil}
use lib.ListN.{length, drop, replicate, length-replicate}
use Rattle.rules.specs.declared.Reason.TheVariants.{BudgetSpent}
use Rattle.rules.specs.declared.Command.{Command}
use Rattle.rules.specs.Refusals.{batch_window, fault, number_of, answer_with}
use Rattle.rules.specs.Windows.{lengths_of, window_fault}
use Rattle.rules.specs.Step.{budget, step_of}
use Rattle.rules.specs.Walk.{Run, ended, trace, trace_from, cut, start, walk, Leads, stays, onward, commands_of, end_of, answer_of}
use Rattle.rules.specs.Records.{first_word, second_word, words_of, words_for, written_of}
use Rattle.rules.specs.Book.{book}
use Rattle.budget.proofs.Captures.{looping}
use Rattle.rules.proofs.Listing.{words_counted}
use Rattle.rules.proofs.Walking.{walk_sound}
use Rattle.rules.proofs.Running.{follow, trace_follows, cut_follows, commands_follow, end_follows}

abbrev jump : Command
jump = record { index = 0; level = 0; row = 2; length = 3 }

-- one turn, computed
turn : step_of looping (start None) ≡ Ok (jump, Some (start None))
unfolding book
turn = refl

-- n of them; shut, so that nobody writes 65,536 of them out
turns : ℕ → List Command
turns n = replicate n jump

counted : (n : ℕ) → length (turns n) ≡ n
unfolding turns
counted n = length-replicate n jump

leads : (n : ℕ) → Leads looping (start None) (turns n) (start None)
unfolding turns
leads zero = stays
leads (suc n) = onward turn (leads n)

-- the record of a turn, n times
pub turn_words : ℕ → List ℕ
turn_words zero = []
turn_words (suc n) = 0x00000000 ∷ 0x02030000 ∷ turn_words n

words_of_turns : (n : ℕ) → words_of (turns n) ≡ turn_words n
unfolding turns words_of turn_words first_word second_word
words_of_turns zero = refl
words_of_turns (suc n) = ap (λ l. 0x00000000 ∷ 0x02030000 ∷ l) (words_of_turns n)

words_of_budget : length (turn_words budget) ≡ 131072
unfolding words_for
words_of_budget = ap length (sym (words_of_turns budget)) ∙ words_counted (turns budget) ∙ ap words_for (counted budget)

-- a run with a budget of n and room for more is stopped by the budget
abbrev spent : Run
spent = ended (Err (fault BudgetSpent batch_window 0))

spends : (n more : ℕ) → cut (n + more) (trace_from n looping (start None)) ≡ follow (turns n) spent
unfolding trace cut
spends n more =
    ap (λ (m : ℕ). cut (n + more) (trace_from m looping (start None))) (sym (add-zero n))
    ∙ ap (λ (m : ℕ). cut (n + more) (trace_from (m + 0) looping (start None))) (sym (counted n))
    ∙ ap (cut (n + more)) (trace_follows looping 0 (leads n))
    ∙ ap (λ (m : ℕ). cut (m + more) (follow (turns n) spent)) (sym (counted n))
    ∙ cut_follows (turns n) more _

sound : window_fault (lengths_of looping) ≡ Ok tt
unfolding book
sound = refl

whole : (more : ℕ) → walk None looping (budget + more) ≡ follow (turns budget) spent
whole more = walk_sound None looping (budget + more) sound ∙ spends budget more

-- NUMBER 5: at the next position, 0, after 65,536 commands
pub answers : (more : ℕ)
    → answer_of (walk None looping (budget + more)) ≡ record { reason = 5; window = 0; index = 0; count = 65536 }
unfolding answer_of answer_with commands_of end_of number_of
answers more =
    ap answer_of (whole more)
    ∙ rw (end_follows (turns budget) _, commands_follow (turns budget) _, append-nil, counted budget)

-- and each of the 65,536 records is the jump's; the words behind them stay
pub written : (more : ℕ) (old : List ℕ) → written_of (walk None looping (budget + more)) old ≡ turn_words budget ++ drop 131072 old
unfolding written_of commands_of
written more old =
    ap (λ run. written_of run old) (whole more)
    ∙ rw (commands_follow (turns budget) _, append-nil, words_of_turns budget, words_of_budget)
