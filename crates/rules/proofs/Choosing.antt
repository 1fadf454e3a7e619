-- Request 5: where a walk with no base at the start does not end in 14, a walk with one takes the same commands and ends in the same way.
-- Assumes nothing.
use Rattle.std.specs.Prelude.{Ok, Err, None, Some, Option}
use Prim.Native.Nat.{ℕ, zero, suc, ◌+◌}
use mathlib.Core.Path.{◌≡◌, refl, sym, ap, ◌∙◌}
use mathlib.Core.Bool.{Bool, true, false, cond, ◌&&◌}
use mathlib.Core.List.{List, [], ◌∷◌}
use mathlib.Core.Logic.{◌⊎◌, inl, inr, ⊎_elim}
use lib.ListN.{get_or}
use lib.Dec.{eqb}
use Rattle.rules.specs.declared.Kind.{Kind}
use Rattle.rules.specs.declared.Cursor.{Cursor}
use Rattle.rules.specs.declared.Command.{Command}
use Rattle.rules.specs.declared.Level.{Level}
use Rattle.rules.specs.declared.Level.TheVariants.{First, Second}
use Rattle.rules.specs.declared.Fault.{Fault}
use Rattle.rules.specs.declared.Reason.TheVariants.{BaseNeverSet}
use Rattle.rules.specs.Refusals.{Verdict}
use Rattle.rules.specs.Words.{bit}
use Rattle.rules.specs.Refusals.{number_of, batch_window, fault, tried, first_fault}
use Rattle.rules.specs.Windows.{Capture, lengths_of, windows_of, window_fault, dword_of}
use Rattle.rules.specs.Commands.{base_row, end_row, start_row}
use Rattle.rules.specs.Uses.{address_at}
use Rattle.rules.specs.Structures.{structure_nowhere, structure_bit, structure_value, structure_checks}
use Rattle.rules.specs.Step.{Here, here, row_at, length_at, dwords_at, pointer_of, of_structure, cursor, after_end, level_after_start, new_base, base_after, move_of, command_at}
use Rattle.rules.specs.Step.{ran_off, unknown_header, wrong_length, past_the_window, bit_not_allowed, nested_start, value_broken, range_outside}
use Rattle.rules.specs.Step.{base_never_set, step_checks, budget, step_of, outcome_of}
use Rattle.rules.specs.Walk.{Run, then, trace, cut, walk, end_of}
use Rattle.rules.proofs.Trying.{stays_failed, tried_append}
use Rattle.rules.proofs.Walking.{walk_sound, walk_unsound}

-- the checks that look at no base, and those that do
abbrev before : List (Here → Verdict)
before = ran_off ∷ unknown_header ∷ wrong_length ∷ past_the_window ∷ bit_not_allowed ∷ nested_start ∷ value_broken ∷ range_outside ∷ []

abbrev behind : List (Here → Verdict)
behind = base_never_set ∷ of_structure structure_nowhere ∷ of_structure structure_bit ∷ of_structure structure_value ∷ []

-- where two moves lead that differ in the base alone: to the same place, or to places that differ in the base alone
data Near (b : ℕ) : Option Cursor → Option Cursor → Type 0 where
  both : {a : Option Cursor} → Near b a a
  apart : {at : ℕ} {level : Level} → Near b (Some (cursor at level None)) (Some (cursor at level (Some b)))

moves : (b : ℕ) (e s t : Bool) (l : Level) (target next : ℕ) (start level : Level) (new : ℕ)
    → Near b (cond e (after_end l None) (cond s (Some (cursor target start None)) (Some (cursor next level (cond t (Some new) None)))))
    (cond e (after_end l (Some b)) (cond s (Some (cursor target start (Some b))) (Some (cursor next level (cond t (Some new) (Some b))))))
unfolding after_end
moves b true s t First target next start level new = both
moves b true s t (Second back) target next start level new = apart
moves b false true t l target next start level new = apart
moves b false false true l target next start level new = both
moves b false false false l target next start level new = apart

-- an end in 14
abbrev pub Fourteen : Verdict → Type 0
Fourteen v = (f : Fault) × (v ≡ Err f) × (number_of f.reason ≡ 14)

-- checks that say the same at two places
abbrev AllSame : {A : Type 0} → List (A → Verdict) → A → A → Type 0
AllSame [] x y = Unit {0}
AllSame (check ∷ checks) x y = (check x ≡ check y) × AllSame checks x y

tried_same : {A : Type 0} (x y : A) (checks : List (A → Verdict)) (said : Verdict) → AllSame checks x y → tried checks said x ≡ tried checks said y
unfolding tried
tried_same x y [] said p = refl
tried_same x y (check ∷ checks) (Err f) p = refl
tried_same x y (check ∷ checks) (Ok _) p = ap (λ (v : Verdict). tried checks v x) p.0 ∙ tried_same x y checks (check y) p.1

module _ (c : Capture) (b at : ℕ) (level : Level) where
  abbrev without : Cursor
  without = cursor at level None

  abbrev with : Cursor
  with = cursor at level (Some b)

  abbrev verdict : Cursor → Verdict
  verdict s = first_fault step_checks (here c s)

  split : (s : Cursor) → verdict s ≡ tried behind (first_fault before (here c s)) (here c s)
  unfolding step_checks structure_checks
  split s = tried_append (here c s) before behind (Ok tt)

  same_before : first_fault before (here c without) ≡ first_fault before (here c with)
  unfolding ran_off unknown_header wrong_length past_the_window bit_not_allowed nested_start value_broken range_outside
  same_before = tried_same (here c without) (here c with) before (Ok tt) (refl, (refl, (refl, (refl, (refl, (refl, (refl, (refl, tt))))))))

  abbrev pointer : Option (Kind × ℕ)
  pointer = pointer_of (row_at c.batch at) (dwords_at c.batch at)

  abbrev missing : Fault
  missing = fault BaseNeverSet batch_window (at + 1)

  -- behind them: the same, or 14
  behind_alike : (v : Verdict) (p : Option (Kind × ℕ)) → pointer ≡ p
      → Fourteen (tried behind v (here c without)) ⊎ (tried behind v (here c without) ≡ tried behind v (here c with))
  unfolding tried base_never_set number_of
  behind_alike (Err f) p e = inr (stays_failed behind f (here c without) ∙ sym (stays_failed behind f (here c with)))
  behind_alike (Ok _) None e = inr (tried_same (here c without) (here c with) behind (Ok tt) (rw e, (rw e, (rw e, (rw e, tt)))))
  behind_alike (Ok _) (Some (kind, offset)) e =
      let rest = of_structure structure_nowhere ∷ of_structure structure_bit ∷ of_structure structure_value ∷ [] in
      let fourteen : base_never_set (here c without) ≡ Err missing = rw e in
      inl (missing, ap (λ (v : Verdict). tried rest v (here c without)) fourteen ∙ stays_failed rest missing (here c without), refl)

  alike : Fourteen (verdict without) ⊎ (verdict without ≡ verdict with)
  alike =
      ⊎_elim (λ x. inl (x.0, split without ∙ x.1, x.2))
      (λ e. inr (split without ∙ e ∙ ap (λ (v : Verdict). tried behind v (here c with)) same_before ∙ sym (split with)))
      (behind_alike (first_fault before (here c without)) pointer refl)

  -- the moves of the command there
  move : Cursor → Option Cursor
  move s = move_of c s (row_at c.batch at) (dwords_at c.batch at) (at + length_at c.batch at)

  near : Near b (move without) (move with)
  unfolding move move_of base_after
  near =
      let r = row_at c.batch at in
      let d = dwords_at c.batch at in
      let next = at + length_at c.batch at in
      moves b (eqb r end_row) (eqb r start_row) (eqb r base_row && bit (get_or d 6 0) 0) level (dword_of (windows_of c).batch (address_at d 1)) next
      (level_after_start (get_or d 0 0) next level) level (new_base d)

  -- the command there, which has no base
  abbrev command : Command
  command = command_at c.batch without

  step_without : {v : Verdict} → verdict without ≡ v → step_of c without ≡ outcome_of v command (move without)
  unfolding step_of move
  step_without e = ap (λ (v : Verdict). outcome_of v command (move without)) e

  step_with_lem : {v : Verdict} → verdict with ≡ v → step_of c with ≡ outcome_of v command (move with)
  unfolding step_of move command_at
  step_with_lem e = ap (λ (v : Verdict). outcome_of v command (move with)) e

-- the rest of a run with no base, and of one with a base, with so much of the budget left
abbrev rest : Capture → ℕ → ℕ → Cursor → Run
rest c left room s = cut room (trace left c s (step_of c s))

abbrev Follows : Capture → ℕ → ℕ → Type 0
Follows c b left =
    (room at : ℕ) (level : Level) → (Fourteen (end_of (rest c left room (cursor at level None))) → ⊥)
    → rest c left room (cursor at level (Some b)) ≡ rest c left room (cursor at level None)

one_more : (c : Capture) (b left : ℕ) → Follows c b left → Follows c b (suc left)
unfolding trace cut end_of
one_more c b left ih room at level h = ⊎_elim fourteen (λ e. same (verdict c b at level (without c b at level)) refl (sym e)) (alike c b at level)
  where
    fourteen : Fourteen (verdict c b at level (without c b at level)) → rest c (suc left) room (with c b at level) ≡ rest c (suc left) room (without c b at level)
    fourteen x = absurd (h (x.0, rw (step_without c b at level x.1), x.2))

    again : (a : Option Cursor) → step_of c (without c b at level) ≡ Ok (command c b at level, a) → step_of c (with c b at level) ≡ Ok (command c b at level, a)
        → (n : ℕ) → rest c (suc left) n (with c b at level) ≡ rest c (suc left) n (without c b at level)
    again None o o' n = rw (o, o')
    again (Some t) o o' n = rw (o, o')

    onward : (at' : ℕ) (level' : Level) → step_of c (without c b at level) ≡ Ok (command c b at level, Some (cursor at' level' None))
        → step_of c (with c b at level) ≡ Ok (command c b at level, Some (cursor at' level' (Some b))) → (n : ℕ) → n ≡ room
        → rest c (suc left) n (with c b at level) ≡ rest c (suc left) n (without c b at level)
    onward at' level' o o' zero e = rw (o, o')
    onward at' level' o o' (suc n) e =
        let not_there : Fourteen (end_of (rest c left n (cursor at' level' None))) → ⊥ = λ x. h (x.0, rw (← e, o) x.1, x.2) in
        rw (o, o') (ap (then (command c b at level)) (ih n at' level' not_there))

    taken : (a a' : Option Cursor) → Near b a a' → step_of c (without c b at level) ≡ Ok (command c b at level, a)
        → step_of c (with c b at level) ≡ Ok (command c b at level, a') → rest c (suc left) room (with c b at level) ≡ rest c (suc left) room (without c b at level)
    taken a a' both o o' = again a o o' room
    taken a a' (apart {at = at'} {level = level'}) o o' = onward at' level' o o' room refl

    same : (v : Verdict) → verdict c b at level (without c b at level) ≡ v → verdict c b at level (with c b at level) ≡ verdict c b at level (without c b at level)
        → rest c (suc left) room (with c b at level) ≡ rest c (suc left) room (without c b at level)
    same (Err f) e q = rw (step_without c b at level e, step_with_lem c b at level (q ∙ e))
    same (Ok _) e q = taken _ _ (near c b at level) (step_without c b at level e) (step_with_lem c b at level (q ∙ e))

follows : (c : Capture) (b left : ℕ) → Follows c b left
unfolding trace cut
follows c b zero room at level h = refl
follows c b (suc left) room at level h = one_more c b left (follows c b left) room at level h

-- THE SAME RUN: whatever the base at the start, where none does not end in 14
pub same_unless_fourteen : (b : ℕ) (c : Capture) (room : ℕ) → (Fourteen (end_of (walk None c room)) → ⊥) → walk (Some b) c room ≡ walk None c room
same_unless_fourteen b c room h = by (window_fault (lengths_of c)) refl
  where
    by : (v : Verdict) → window_fault (lengths_of c) ≡ v → walk (Some b) c room ≡ walk None c room
    by (Ok _) e =
        let not_there : Fourteen (end_of (rest c budget room (cursor 0 First None))) → ⊥ = λ x. h (x.0, rw (walk_sound None c room e) x.1, x.2) in
        walk_sound (Some b) c room e ∙ follows c b budget room 0 First not_there ∙ sym (walk_sound None c room e)
    by (Err f) e = walk_unsound (Some b) c room e ∙ sym (walk_unsound None c room e)
