-- A level-1 end finds a kept position, the dword after a start of this very run: what a step of the walk says of the moments up to it.
-- Assumes nothing.
use Rattle.std.specs.Prelude.{Option, None, Some, Ok}
use Prim.Native.Nat.{ℕ, ◌+◌}
use native.Mathlib.Omega.{arith}
use mathlib.Core.Path.{◌≡◌, refl, sym, ap, ◌∙◌}
use mathlib.Core.Bool.{true}
use mathlib.Core.List.{List, ◌∷◌}
use mathlib.Core.Logic.{inl, inr}
use lib.ListN.{get_or}
use Rattle.rules.specs.declared.Level.TheVariants.{First, Second}
use Rattle.rules.specs.declared.Cursor.{Cursor}
use Rattle.rules.specs.declared.Command.{Command}
use Rattle.rules.specs.Words.{bit}
use Rattle.rules.specs.Windows.{Capture}
use Rattle.rules.specs.Commands.{end_row, start_row}
use Rattle.rules.specs.Step.{row_at, dwords_at, command_at as walk_command, step_of}
use Rattle.rules.proofs.Stepping.{took, passed}
use Rattle.rules.proofs.Moving.{Way, ends, returns, jumps, calls, goes_on, taken_way, next_at, same_cursor, ends_nowhere, first_keeps_none, same_kept, return_level}
use Rattle.replay.specs.Streamer.{Machine, Effect}
use Rattle.replay.specs.Runs.{Moment, moment, fetched_command}
use Rattle.replay.specs.Conduct.{Keeps, Kept, Returns}
use Rattle.replay.proofs.Fetching.{is_second, Agrees, header_is}

-- at level 1 the position that the walk keeps is one that a moment of the run has kept
abbrev pub Origin : Capture → List Moment → Cursor → Type 0
Origin c past s = (back : ℕ) → s.level ≡ Second back → Kept c.batch past back

pub first_origin : (c : Capture) (past : List Moment) (s : Cursor) → s.level ≡ First → Origin c past s
first_origin c past s e = λ back q. absurd (first_keeps_none (sym e ∙ q))

-- the streamer's command at a moment is the walk's
module _ (c : Capture) (s : Cursor) (m : Machine) (g : Agrees c s m) (k : Command) (same : fetched_command m ≡ k) (past : List Moment) (o : Origin c past s) where
  module _ {a : Option Cursor} (e : step_of c s ≡ Ok (k, a)) where
    told : fetched_command m ≡ walk_command c.batch s
    told = same ∙ (took c s e).command

    row_is : (fetched_command m).row ≡ row_at c.batch s.at
    unfolding walk_command
    row_is = ap (λ (j : Command). j.row) told

    header_bit : bit (get_or (dwords_at c.batch s.at) 0 0) 22 ≡ true
        → bit (get_or c.batch (fetched_command m).index 0) 22 ≡ true
    unfolding walk_command
    header_bit b =
        ap (λ (j : Command). bit (get_or c.batch j.index 0) 22) told
        ∙ ap (λ (w : ℕ). bit w 22) (sym (header_is c s m (passed c s (took c s e).passes) g)) ∙ b

    keeps_here : (effect : Effect) → row_at c.batch s.at ≡ start_row → bit (get_or (dwords_at c.batch s.at) 0 0) 22 ≡ true
        → Keeps c.batch (moment m effect) (next_at c s)
    unfolding walk_command
    keeps_here effect r b = record { starts = row_is ∙ r; calls = header_bit b; after = ap (λ (j : Command). j.index + j.length) (sym told) }

  -- what was kept before, and what this moment keeps, is what the next cursor has kept
  pub origin_next : (effect : Effect) {t : Cursor} → step_of c s ≡ Ok (k, Some t) → Origin c (moment m effect ∷ past) t
  origin_next effect {t} e = by (Some t) refl (taken_way c s e)
    where
      level : {u : Cursor} → Some u ≡ Some t → t.level ≡ u.level
      level q = sym (ap (λ (u : Cursor). u.level) (same_cursor q))

      by : (a : Option Cursor) → a ≡ Some t → Way c s a → Origin c (moment m effect ∷ past) t
      by a q (ends r l) = absurd (ends_nowhere q)
      by a q (returns r l) = first_origin c (moment m effect ∷ past) t (level q)
      by a q (jumps r b) = λ back x. inr (o back (sym (level q) ∙ x))
      by a q (calls r b) = λ back x. let h = same_kept (sym x ∙ level q) in rw h (inl (keeps_here e effect r b))
      by a q (goes_on r n) = λ back x. inr (o back (sym (level q) ∙ x))

  -- an end at level 1 goes where one of them says
  pub returns_here : (effect : Effect) {t : Cursor} → step_of c s ≡ Ok (k, Some t) → Agrees c t effect.machine
      → (fetched_command m).row ≡ end_row
      → Returns c.batch past m (moment m effect)
  returns_here effect {t} e h r =
      let l = return_level c s t e (sym (row_is e) ∙ r) in
      record { back = t.at; kept = g.kept t.at l.1; own = o t.at l.1; goes = h.at; level = h.level ∙ ap is_second l.0 }

  -- and one that ends the run is at level 0
  pub ends_first : step_of c s ≡ Ok (k, None) → (fetched_command m).level ≡ 1 → ⊥
  unfolding walk_command
  ends_first e second = by None refl (taken_way c s e)
    where
      by : (a : Option Cursor) → a ≡ None → Way c s a → ⊥
      by a q (ends r l) = let z : ◌≡◌ {A = ℕ} 0 1 = ap Rattle.rules.specs.Step.level_number (sym l) ∙ ap (λ (j : Command). j.level) (sym (told e)) ∙ second in omega arith
      by a q (returns r l) = absurd (ends_nowhere (sym q))
      by a q (jumps r b) = absurd (ends_nowhere (sym q))
      by a q (calls r b) = absurd (ends_nowhere (sym q))
      by a q (goes_on r n) = absurd (ends_nowhere (sym q))
