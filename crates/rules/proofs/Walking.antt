-- Demand 2 of the walk: a capture is accepted exactly when no check faults at any command that is reached; a refusal is the first
-- fault in the order of checks, and the commands told are those before it.
-- Assumes nothing.
use Rattle.std.specs.Prelude.{Ok, Err, Option, None, Some}
use Prim.Native.Nat.{ℕ, zero, suc, ◌+◌, ◌≤◌, ◌<◌}
use native.Mathlib.Nat.{add-zero, zero-add}
use native.Mathlib.Omega.{arith}
use mathlib.Core.Path.{◌≡◌, refl, sym, ap, ◌∙◌, subst}
use mathlib.Core.List.{List, [], ◌∷◌, ◌++◌}
use mathlib.Core.Logic.{◌⊎◌, inl, inr, ⊎_elim}
use lib.ListN.{length, length-append}
use borrow.Author.Tests.{le-leb, lt-leb}
use Rattle.rules.specs.declared.Cursor.{Cursor}
use Rattle.rules.specs.declared.Command.{Command}
use Rattle.rules.specs.Step.{Outcome}
use Rattle.rules.specs.declared.Fault.{Fault}
use Rattle.rules.specs.Refusals.{Verdict}
use Rattle.rules.specs.Refusals.{tried, first_fault, AllPass}
use Rattle.rules.specs.Windows.{Capture, Lengths, lengths_of, window_checks, window_fault}
use Rattle.rules.specs.Step.{Here, here, budget, spent_at, full_at, budget_spent, records_full, step_checks, checks, command_at, step_of}
use Rattle.rules.specs.Walk.{Run, ended, then, trace, trace_from, cut, start, walk, Leads, stays, onward, commands_of, end_of, NoFault, Complete, WalkFault}
use Rattle.rules.proofs.Trying.{all_pass, first_fault_lem, no_fault, stays_failed, tried_append, fails_not_pass, same_fault}
use Rattle.rules.proofs.Stepping.{took, taken_after, refused_by}

-- the first fault of the checks 5 to 18 at a cursor, with n commands done and room for so many records
abbrev pub fault_at : Capture → ℕ → ℕ → Cursor → Verdict
fault_at c room n s = first_fault (checks n room) (here c s)

-- 5 is tried first, then 6 to 17, then 18
module _ (c : Capture) (room n : ℕ) (s : Cursor) where
  rest : List (Here → Verdict)
  rest = step_checks ++ (records_full n room ∷ [])

  spent_fails : budget ≤ n → budget_spent n (here c s) ≡ Err (spent_at s.at)
  unfolding budget_spent
  spent_fails h = rw (le-leb _ _ h)

  spent_passes : n < budget → budget_spent n (here c s) ≡ Ok tt
  unfolding budget_spent
  spent_passes h = rw (lt-leb _ _ h)

  room_fails : room ≤ n → records_full n room (here c s) ≡ Err (full_at s.at)
  unfolding records_full
  room_fails h = rw (le-leb _ _ h)

  room_passes : n < room → records_full n room (here c s) ≡ Ok tt
  unfolding records_full
  room_passes h = rw (lt-leb _ _ h)

  spent : budget ≤ n → fault_at c room n s ≡ Err (spent_at s.at)
  unfolding checks tried rest
  spent h = ap (λ v. tried rest v (here c s)) (spent_fails h) ∙ stays_failed rest _ _

  below : n < budget → fault_at c room n s ≡ tried (records_full n room ∷ []) (first_fault step_checks (here c s)) (here c s)
  unfolding checks tried rest
  below h = ap (λ v. tried rest v (here c s)) (spent_passes h) ∙ tried_append (here c s) step_checks (records_full n room ∷ []) (Ok tt)

  step_fails : {f : Fault} → n < budget → step_of c s ≡ Err f → fault_at c room n s ≡ Err f
  step_fails {f} h e = below h ∙ ap (λ v. tried (records_full n room ∷ []) v (here c s)) (refused_by c s e) ∙ stays_failed _ f _

  step_passes : {k : Command} {a : Option Cursor} → n < budget → step_of c s ≡ Ok (k, a) → fault_at c room n s ≡ records_full n room (here c s)
  unfolding tried
  step_passes h e = below h ∙ ap (λ v. tried (records_full n room ∷ []) v (here c s)) (took c s e).passes

  full : {k : Command} {a : Option Cursor} → n < budget → room ≤ n → step_of c s ≡ Ok (k, a) → fault_at c room n s ≡ Err (full_at s.at)
  full h r e = step_passes h e ∙ room_fails r

  passes : {k : Command} {a : Option Cursor} → n < budget → n < room → step_of c s ≡ Ok (k, a) → fault_at c room n s ≡ Ok tt
  passes h r e = step_passes h e ∙ room_passes r

-- how a run from the cursor s, with n commands done before it, comes to its end: it stops at a fault, or it completes
pub record Stops (c : Capture) (room n : ℕ) (s : Cursor) (run : Run) : Type 0 where
  pub cursor : Cursor
  pub fault : Fault
  pub reached : Leads c s (commands_of run) cursor
  pub first : fault_at c room (n + length (commands_of run)) cursor ≡ Err fault
  pub told : end_of run ≡ Err fault

pub record Completes (c : Capture) (room n : ℕ) (s : Cursor) (run : Run) : Type 0 where
  pub cursor : Cursor
  pub before : List Command
  pub last : Command
  pub reached : Leads c s before cursor
  pub ends : step_of c cursor ≡ Ok (last, None)
  pub commands : commands_of run ≡ before ++ (last ∷ [])
  pub told : end_of run ≡ Ok tt

-- and every check passes at each command that it tells
pub record Explained (c : Capture) (room n : ℕ) (s : Cursor) (run : Run) : Type 0 where
  pub way : Stops c room n s run ⊎ Completes c room n s run
  pub earlier : (ks : List Command) (t : Cursor) → Leads c s ks t → length ks < length (commands_of run)
      → fault_at c room (n + length ks) t ≡ Ok tt

same_way : {k l : Command} {t u : Cursor} → ◌≡◌ {A = Outcome} (Ok (k, Some t)) (Ok (l, Some u)) → t ≡ u
same_way e = let q = taken_after e in cc

never_ends : {k l : Command} {t : Cursor} → ◌≡◌ {A = Outcome} (Ok (k, Some t)) (Ok (l, None)) → ⊥
never_ends e = let q = taken_after e in let z : ◌≡◌ {A = ℕ} 0 1 = cc in omega arith

-- none is told, and the run stops where it stands
stopped : (c : Capture) (room n : ℕ) (s : Cursor) (f : Fault) → fault_at c room n s ≡ Err f
    → Explained c room n s (ended (Err f))
unfolding commands_of end_of
stopped c room n s f e = record {
  way = inl (record { cursor = s; fault = f; reached = stays; first = rw (add-zero n) e; told = refl });
  earlier = λ ks t l h. absurd (omega arith);
}

completed : (c : Capture) (room n : ℕ) (s : Cursor) (k : Command) → step_of c s ≡ Ok (k, None) → fault_at c room n s ≡ Ok tt
    → Explained c room n s (then k (ended (Ok tt)))
unfolding commands_of end_of
completed c room n s k e p = record {
  way = inr (record { cursor = s; before = []; last = k; reached = stays; ends = e; commands = refl; told = refl });
  earlier = first;
}
  where
    first : (ks : List Command) (t : Cursor) → Leads c s ks t → length ks < 1 → fault_at c room (n + length ks) t ≡ Ok tt
    first [] t stays h = rw (add-zero n) p
    first (k ∷ ks) t (onward q l) h = absurd (omega arith)

-- one command more in front of a run
module _ (c : Capture) (room n : ℕ) (s t : Cursor) (k : Command) (run : Run) (e : step_of c s ≡ Ok (k, Some t)) (p : fault_at c room n s ≡ Ok tt) (x : Explained c room (n + 1) t run) where
  moved : (m : ℕ) (u : Cursor) (v : Verdict) → fault_at c room (n + 1 + m) u ≡ v → fault_at c room (n + suc m) u ≡ v
  moved m u v q = subst (λ (i : ℕ). fault_at c room i u ≡ v) (omega arith) q

  longer_way : Stops c room (n + 1) t run ⊎ Completes c room (n + 1) t run
      → Stops c room n s (then k run) ⊎ Completes c room n s (then k run)
  unfolding commands_of end_of
  longer_way (inl w) = inl (record {
    cursor = w.cursor;
    fault = w.fault;
    reached = onward e w.reached;
    first = moved (length (commands_of run)) w.cursor _ w.first;
    told = w.told;
  })
  longer_way (inr w) = inr (record {
    cursor = w.cursor;
    before = k ∷ w.before;
    last = w.last;
    reached = onward e w.reached;
    ends = w.ends;
    commands = ap (λ l. k ∷ l) w.commands;
    told = w.told;
  })

  longer_earlier : (ks : List Command) (u : Cursor) → Leads c s ks u → length ks < length (commands_of (then k run))
      → fault_at c room (n + length ks) u ≡ Ok tt
  unfolding commands_of
  longer_earlier [] u stays h = rw (add-zero n) p
  longer_earlier (l ∷ ks) u (onward {t = v} q r) h =
      moved (length ks) u _ (x.earlier ks u (subst (λ (w : Cursor). Leads c w ks u) (same_way (sym q ∙ e)) r) (omega arith))

  longer : Explained c room n s (then k run)
  longer = record { way = longer_way x.way; earlier = longer_earlier }

-- the index of a command that is taken is the cursor's position
index_is : (c : Capture) (s : Cursor) {k : Command} {a : Option Cursor} → step_of c s ≡ Ok (k, a) → k.index ≡ s.at
unfolding command_at
index_is c s e = ap (λ (k : Command). k.index) (took c s e).command

full_stop : (c : Capture) (room n : ℕ) (s : Cursor) {k : Command} {a : Option Cursor} → n < budget → room ≤ n → step_of c s ≡ Ok (k, a)
    → Explained c room n s (ended (Err (full_at k.index)))
full_stop c room n s h r e = rw (index_is c s e) (stopped c room n s _ (full c room n s h r e))

-- every run of the walk, told
pub explained : (left m : ℕ) (c : Capture) (s : Cursor) (o : Outcome) → step_of c s ≡ o → (room n : ℕ) → n + left ≡ budget
    → n + m ≡ room
    → Explained c room n s (cut m (trace left c s o))
unfolding trace cut
explained zero m c s o e room n b r = stopped c room n s _ (spent c room n s (omega arith))
explained (suc left) m c s (Err f) e room n b r = stopped c room n s f (step_fails c room n s (omega arith) e)
explained (suc left) zero c s (Ok (k, None)) e room n b r = full_stop c room n s (omega arith) (omega arith) e
explained (suc left) zero c s (Ok (k, Some t)) e room n b r = full_stop c room n s (omega arith) (omega arith) e
explained (suc left) (suc m) c s (Ok (k, None)) e room n b r = completed c room n s k e (passes c room n s (omega arith) (omega arith) e)
explained (suc left) (suc m) c s (Ok (k, Some t)) e room n b r =
    longer c room n s t k (cut m (trace left c t (step_of c t))) e (passes c room n s (omega arith) (omega arith) e)
    (explained left m c t (step_of c t) refl room (n + 1) (omega arith) (omega arith))

-- whoever is led on from where a completed run started is led no further than it
no_further : (c : Capture) {s t u : Cursor} {last : Command} (before ks : List Command) → Leads c s before t
    → step_of c t ≡ Ok (last, None) → Leads c s ks u → length ks ≤ length before
no_further c before [] l e r = omega arith
no_further c [] (k ∷ ks) stays e (onward q r) = absurd (never_ends (sym q ∙ e))
no_further c {u = u} (b ∷ before) (k ∷ ks) (onward p l) e (onward q r) =
    let h = no_further c {u = u} before ks l e (subst (λ (w : Cursor). Leads c w ks u) (same_way (sym q ∙ p)) r) in omega arith

-- the checks 1 to 4 pass one by one exactly where none of them is met
pub windows_pass : (l : Lengths) → window_fault l ≡ Ok tt → AllPass window_checks l
unfolding window_fault
windows_pass l e = all_pass l window_checks e

pub no_window_fault : (l : Lengths) → AllPass window_checks l → window_fault l ≡ Ok tt
unfolding window_fault
no_window_fault l p = no_fault l window_checks p

-- THE WALK'S REFUSAL (`refusal`). A number of 1 to 4 comes before the walk and tells no command. Any other is the walk's first fault, and the
-- commands told are those before it. THE WALK'S ACCEPTANCE (`accepted-passes`, `passes-accepted`, `completion`): no check faults, and the commands told
-- are a run to the end.
module _ (base : Option ℕ) (c : Capture) (room : ℕ) where
  run : Run
  run = cut room (trace_from budget c (start base))

  told : Explained c room 0 (start base) run
  unfolding run
  told = explained budget room c (start base) (step_of c (start base)) refl room 0 (zero-add budget) (zero-add room)

  pub walk_sound : window_fault (lengths_of c) ≡ Ok tt → walk base c room ≡ cut room (trace_from budget c (start base))
  unfolding walk
  walk_sound e = rw e

  pub walk_unsound : {f : Fault} → window_fault (lengths_of c) ≡ Err f → walk base c room ≡ ended (Err f)
  unfolding walk
  walk_unsound e = rw e

  counted : (m : ℕ) (s : Cursor) (v : Verdict) → fault_at c room (0 + m) s ≡ v → fault_at c room m s ≡ v
  counted m s v e = subst (λ (i : ℕ). fault_at c room i s ≡ v) (zero-add m) e

  stops_told : {f : Fault} → window_fault (lengths_of c) ≡ Ok tt → end_of run ≡ Err f
      → WalkFault base c room (commands_of (walk base c room)) f
  unfolding run
  stops_told {f} w e = ⊎_elim at_fault (λ q. absurd (fails_not_pass (sym e ∙ q.told))) told.way
    where
      at_fault : Stops c room 0 (start base) run → WalkFault base c room (commands_of (walk base c room)) f
      at_fault q =
          let g : q.fault ≡ f = same_fault (sym q.told ∙ e) in
          record {
            sound = windows_pass (lengths_of c) w;
            cursor = q.cursor;
            reached = rw (walk_sound w) q.reached;
            first = rw (walk_sound w) (first_fault_lem (here c q.cursor) _ f (counted _ _ _ q.first ∙ ap Err g));
            earlier = λ ks t l h. all_pass (here c t) _ (counted _ t _ (told.earlier ks t l (rw (walk_sound w) at h)));
          }

  pub refusal : {f : Fault} → end_of (walk base c room) ≡ Err f
      → ((window_fault (lengths_of c) ≡ Err f) × (commands_of (walk base c room) ≡ [])) ⊎ WalkFault base c room (commands_of (walk base c room)) f
  unfolding run commands_of end_of
  refusal {f} e = by (window_fault (lengths_of c)) refl
    where
      by : (v : Verdict) → window_fault (lengths_of c) ≡ v
          → ((window_fault (lengths_of c) ≡ Err f) × (commands_of (walk base c room) ≡ [])) ⊎ WalkFault base c room (commands_of (walk base c room)) f
      by (Ok _) w = inr (stops_told w (rw (walk_sound w) at e))
      by (Err g) w = inl (w ∙ rw (walk_unsound w) at e, rw (walk_unsound w))

  sound_told : window_fault (lengths_of c) ≡ Ok tt → end_of run ≡ Ok tt → NoFault base c room
  sound_told w e = record { sound = windows_pass (lengths_of c) w; passes = at_each }
    where
      at_each : (ks : List Command) (s : Cursor) → Leads c (start base) ks s → AllPass (checks (length ks) room) (here c s)
      at_each ks s l =
          ⊎_elim (λ q. absurd (fails_not_pass (sym q.told ∙ e)))
          (λ q.
          let h = no_further c q.before ks q.reached q.ends l in
          let n = ap length q.commands ∙ length-append q.before (q.last ∷ []) in
          all_pass (here c s) _ (counted _ s _ (told.earlier ks s l (omega arith)))) told.way

  pub accepted_passes : end_of (walk base c room) ≡ Ok tt → NoFault base c room
  unfolding run end_of
  accepted_passes e = by (window_fault (lengths_of c)) refl
    where
      by : (v : Verdict) → window_fault (lengths_of c) ≡ v → NoFault base c room
      by (Ok _) w = sound_told w (rw (walk_sound w) at e)
      by (Err g) w = absurd (fails_not_pass (rw (walk_unsound w) at e))

  pub accepted_sound : end_of (walk base c room) ≡ Ok tt → window_fault (lengths_of c) ≡ Ok tt
  accepted_sound e = no_window_fault (lengths_of c) (accepted_passes e).sound

  pub passes_accepted : NoFault base c room → end_of (walk base c room) ≡ Ok tt
  unfolding run
  passes_accepted n =
      rw (walk_sound (no_window_fault (lengths_of c) n.sound))
      (⊎_elim
      (λ q. absurd (fails_not_pass (sym (counted _ _ _ q.first) ∙ no_fault (here c q.cursor) _ (n.passes _ _ q.reached))))
      (λ q. q.told) told.way)

  -- and then the commands told lead to a batch end at level 0, the last of them
  pub completion : end_of (walk base c room) ≡ Ok tt → Complete base c (commands_of (walk base c room))
  unfolding run
  completion e =
      rw (walk_sound (accepted_sound e)) (⊎_elim (λ q. absurd (fails_not_pass (sym q.told ∙ rw (walk_sound (accepted_sound e)) at e))) whole told.way)
    where
      whole : Completes c room 0 (start base) run → Complete base c (commands_of run)
      whole q = record { before = q.before; last = q.last; cursor = q.cursor; reached = q.reached; ends = q.ends; all = q.commands }
