-- THE POSITION IS THE WALK'S OWN: wherever commands lead the walk from its start, the position after them is where it stands.
-- Assumes nothing.
use Rattle.std.specs.Prelude.{Option, Some, Ok}
use Prim.Native.Nat.{ℕ, ◌+◌, ◌-◌, ◌/◌, ◌<◌}
use native.Mathlib.Omega.{arith}
use mathlib.Core.Path.{◌≡◌, refl, sym, ap, ◌∙◌}
use mathlib.Core.Bool.{true, false}
use mathlib.Core.List.{List}
use lib.ListN.{length, get_or, take, drop}
use lib.Seq.{get_or-take, get_or-drop, take_at}
use borrow.Author.Tests.{eqb-true, eq-eqb, ne_eqb}
use Rattle.rules.specs.declared.Level.{Level}
use Rattle.rules.specs.declared.Level.TheVariants.{First, Second}
use Rattle.rules.specs.declared.Cursor.{Cursor}
use Rattle.rules.specs.declared.Command.{Command}
use Rattle.rules.specs.Words.{field}
use Rattle.rules.specs.Windows.{Capture, windows_of}
use Rattle.rules.specs.Commands.{rows, the_row, length_of, end_row, start_row, length_right}
use Rattle.rules.specs.Uses.{address_at}
use Rattle.rules.specs.Step.{header_at, row_at, length_at, dwords_at, nested, level_number, command_at, step_of}
use Rattle.rules.specs.declared.Fault.{Fault}
use Rattle.rules.specs.declared.Answer.{Answer}
use Rattle.rules.specs.Walk.{start, walk, commands_of, Leads, stays, onward, WalkFault}
use Rattle.rules.specs.Records.{words_of, words_for, commands_in, written_of, room_of, Checked}
use Rattle.rules.proofs.Searching.{never_both}
use Rattle.rules.proofs.Stepping.{Passed, passed, took}
use Rattle.rules.proofs.Moving.{Way, ends, returns, jumps, calls, goes_on, taken_way, same_cursor, same_kept, ends_nowhere, first_keeps_none, next_at, target_at}
use Rattle.rules.proofs.Recording.{walk_read_back}
use Rattle.rules.proofs.Listing.{words_counted}
use Rattle.rules.proofs.Unique.{count_is}
use Rattle.causes.specs.Causes.{kept_by, leads_to, stands_after, position_after}

-- a start has three dwords
start_length : (header : ℕ) → length_right start_row header ≡ true → length_of start_row header ≡ 3
unfolding length_of length_right rows the_row
start_length header e = let f : field header 7 0 ≡ 1 = eqb-true _ 1 e in omega arith

module _ (c : Capture) where
  -- what the record of the command at a cursor says, with a kept position: where it leads, and what is kept then
  abbrev leads : Cursor → ℕ → ℕ
  leads s kept = leads_to c.batch c.batch_at kept (command_at c.batch s)

  abbrev keeps : Cursor → ℕ → ℕ
  keeps s kept = kept_by kept (command_at c.batch s)

  end_leads : (s : Cursor) (kept : ℕ) → row_at c.batch s.at ≡ end_row → leads s kept ≡ kept
  unfolding command_at leads_to
  end_leads s kept r = rw (eq-eqb _ _ r)

  start_leads : (s : Cursor) (kept : ℕ) → row_at c.batch s.at ≡ start_row
      → leads s kept ≡ (address_at c.batch (s.at + 1) - c.batch_at) / 4
  unfolding command_at leads_to
  start_leads s kept r = rw (ne_eqb (row_at c.batch s.at) end_row (λ q. omega (arith, q, r)), eq-eqb _ _ r)

  next_leads : (s : Cursor) (kept : ℕ) → (row_at c.batch s.at ≡ end_row → ⊥) → (row_at c.batch s.at ≡ start_row → ⊥)
      → leads s kept ≡ next_at c s
  unfolding command_at leads_to
  next_leads s kept p q = rw (ne_eqb _ _ p, ne_eqb _ _ q)

  first_keeps : (s : Cursor) (kept : ℕ) → level_number s.level ≡ 0 → keeps s kept ≡ next_at c s
  unfolding command_at kept_by
  first_keeps s kept e = rw (eq-eqb _ _ e)

  second_keeps : (s : Cursor) (kept : ℕ) {back : ℕ} → s.level ≡ Second back → keeps s kept ≡ kept
  unfolding command_at kept_by
  second_keeps s kept m = rw (ne_eqb (level_number s.level) 0 (λ q. omega (arith, q, ap level_number m)))

  -- a dword of a start, in the batch
  own_dword : (s : Cursor) (k : ℕ) → k < length_at c.batch s.at → get_or (dwords_at c.batch s.at) k 0 ≡ get_or c.batch (s.at + k) 0
  unfolding dwords_at
  own_dword s k h = get_or-take (length_at c.batch s.at) (drop s.at c.batch) k 0 h ∙ get_or-drop s.at c.batch k 0

  target_is : (s : Cursor) → Passed c s → row_at c.batch s.at ≡ start_row
      → target_at c s ≡ (address_at c.batch (s.at + 1) - c.batch_at) / 4
  unfolding windows_of address_at
  target_is s p r =
      let l : length_at c.batch s.at ≡ 3 = rw r (start_length (header_at c.batch s.at) (rw r at p.right)) in
      let e : s.at + 2 ≡ s.at + 1 + 1 = omega arith in
      rw (own_dword s 1 (omega arith), own_dword s 2 (omega arith), e)

  -- a start that is taken is of level 0
  start_first : (s : Cursor) (l : Level) → row_at c.batch s.at ≡ start_row → nested (row_at c.batch s.at) l ≡ false → level_number l ≡ 0
  start_first s First r n = refl
  start_first s (Second back) r n = absurd (never_both (eq-eqb _ _ r) n)

  -- the kept position is that of the level, where it has one
  abbrev Keeps : Level → ℕ → Type 0
  Keeps level kept = (back : ℕ) → level ≡ Second back → kept ≡ back

  -- a command that is taken leads to where its record says, and keeps what its record says
  record Stands (s t : Cursor) (kept : ℕ) : Type 0 where
    pub position : leads s kept ≡ t.at
    pub keeping : Keeps t.level (keeps s kept)

  stood : (s t : Cursor) {k : Command} (kept : ℕ) → step_of c s ≡ Ok (k, Some t) → Keeps s.level kept → Stands s t kept
  stood s t kept e known = by (Some t) refl (taken_way c s e)
    where
      p : Passed c s
      p = passed c s (took c s e).passes

      by : (a : Option Cursor) → a ≡ Some t → Way c s a → Stands s t kept
      by a q (ends r l) = absurd (ends_nowhere q)
      by a q (returns {back = back} r l) =
          rw (← same_cursor q) (record { position = end_leads s kept r ∙ known back l; keeping = λ b m. absurd (first_keeps_none m) })
      by a q (jumps r b) =
          rw (← same_cursor q) (record {
            position = start_leads s kept r ∙ sym (target_is s p r);
            keeping = λ back m. absurd (omega (arith, start_first s s.level r p.unnested, ap level_number m));
          })
      by a q (calls r b) =
          rw (← same_cursor q) (record {
            position = start_leads s kept r ∙ sym (target_is s p r);
            keeping = λ back m. first_keeps s kept (start_first s s.level r p.unnested) ∙ same_kept m;
          })
      by a q (goes_on r n) =
          rw (← same_cursor q) (record { position = next_leads s kept r n; keeping = λ back m. second_keeps s kept m ∙ known back m })

  all_stand : {s t : Cursor} {ks : List Command} (kept : ℕ) → Keeps s.level kept → Leads c s ks t
      → stands_after c.batch c.batch_at s.at kept ks ≡ t.at
  unfolding stands_after
  all_stand kept known stays = refl
  all_stand {s} kept known (onward {t = u} e l) =
      let led = stood s u kept e known in
      rw ((took c s e).command, led.position) (all_stand (keeps s kept) led.keeping l)

  -- from the start on
  pub position_of_the_walk : (base : Option ℕ) {t : Cursor} {ks : List Command} → Leads c (start base) ks t
      → stands_after c.batch c.batch_at 0 0 ks ≡ t.at
  position_of_the_walk base l = all_stand 0 (λ back m. absurd (first_keeps_none m)) l

  -- the words of a run's records name its commands
  words_name : (base : Option ℕ) (room : ℕ) (old : List ℕ)
      → commands_in (take (words_for (length (commands_of (walk base c room)))) (written_of (walk base c room) old)) ≡ commands_of (walk base c room)
  unfolding written_of
  words_name base room old =
      let commands = commands_of (walk base c room) in
      ap commands_in (take_at (words_of commands) _ (words_for (length commands)) (words_counted commands)) ∙ walk_read_back base c room

  -- THE REFUSED COMMAND: after a check that refuses, the position that its records tell is that of the cursor where the fault was met
  pub position_of_the_fault : {base : Option ℕ} {old new : List ℕ} {answer : Answer} {f : Fault} → Checked base c old answer new
      → (w : WalkFault base c (room_of (length old)) (commands_of (walk base c (room_of (length old)))) f)
      → position_after c.batch c.batch_at new answer.count ≡ w.cursor.at
  position_of_the_fault {base} {old} k w =
      let room = room_of (length old) in
      let counted = ap (λ (a : Answer). a.count) k.answers ∙ count_is (walk base c room) in
      rw (counted, k.written, words_name base room old) (position_of_the_walk base w.reached)
