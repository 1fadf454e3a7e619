-- The longest run there is: 255 calls of a second-level batch of 255 MI_NOOPs and its end, then the end of the first-level batch,
-- the 65,536th command. It is accepted.
-- Assumes nothing.
use Rattle.std.specs.Prelude.{Ok, Option, None, Some, Err}
use Prim.Native.Nat.{ℕ, zero, suc, ◌+◌, ◌*◌, ◌≤◌, ◌<◌}
use native.Mathlib.Omega.{arith}
use mathlib.Core.Path.{◌≡◌, refl, sym, ap, ◌∙◌, subst}
use mathlib.Core.Bool.{Bool, true, false, ◌&&◌}
use mathlib.Core.List.{List, [], ◌∷◌, ◌++◌}
use lib.ListN.{length, length-append}
use lib.Dec.{eqb}
use borrow.Author.Tests.{eqb-true}
use Rattle.rules.specs.declared.Level.{Level}
use Rattle.rules.specs.declared.Level.TheVariants.{First, Second}
use Rattle.rules.specs.declared.Cursor.{Cursor}
use Rattle.rules.specs.declared.Command.{Command}
use Rattle.rules.specs.Step.{Outcome}
use Rattle.rules.specs.Refusals.{answer_with}
use Rattle.rules.specs.Windows.{Capture, lengths_of, window_fault}
use Rattle.rules.specs.Step.{budget, cursor, step_of}
use Rattle.rules.specs.Walk.{ended, then, trace, trace_from, cut, start, walk, Leads, stays, onward, commands_of, end_of}
use Rattle.rules.specs.Walk.{answer_of}
use Rattle.rules.specs.Book.{book}
use Rattle.rules.proofs.Searching.{and_left, and_right, never_both}
use Rattle.rules.proofs.Tables.{each, at_each}
use Rattle.rules.proofs.Walking.{walk_sound}
use Rattle.budget.proofs.Captures.{noops, calls, longest}
use Rattle.rules.proofs.Running.{follow, leads_on, trace_follows, cut_follows, commands_follow, end_follows}

-- the commands run from a cursor on, n at most, and where they lead: a run that antt computes
record Ran (c : Capture) (s : Cursor) : Type 0 where
  commands : List Command
  cursor : Cursor
  leads : Leads c s commands cursor

ran : ℕ → (c : Capture) (s : Cursor) → Ran c s
ran zero c s = record { commands = []; cursor = s; leads = stays }
ran (suc n) c s = next (step_of c s) refl (ran n c)
  where
    next : (o : Outcome) → step_of c s ≡ o → ((t : Cursor) → Ran c t) → Ran c s
    next (Err f) e on = record { commands = []; cursor = s; leads = stays }
    next (Ok (k, None)) e on = record { commands = []; cursor = s; leads = stays }
    next (Ok (k, Some t)) e on =
        let r = on t in record { commands = k ∷ r.commands; cursor = r.cursor; leads = onward e r.leads }

command : ℕ → ℕ → ℕ → ℕ → Command
command at level row length = record { index = at; level = level; row = row; length = length }

-- the commands of the second-level batch
inner : ℕ → ℕ → List Command
inner zero at = command at 1 1 1 ∷ []
inner (suc n) at = command at 1 0 1 ∷ inner n (at + 1)

-- the second-level batch, computed, whatever position is kept
called : (back : ℕ) → Leads longest (cursor 766 (Second back) None) (inner 255 766) (cursor back First None)
unfolding book longest calls noops command inner ran
called back = (ran 256 longest (cursor 766 (Second back) None)).leads

-- a call: it keeps the position after itself
call_at : ℕ → Command
call_at at = command at 0 2 3

same_command : Command → Command → Bool
same_command k l = (eqb k.index l.index && eqb k.level l.level) && (eqb k.row l.row && eqb k.length l.length)

same_level : Level → ℕ → Bool
same_level First back = false
same_level (Second b) back = eqb b back

no_base : Option ℕ → Bool
no_base None = true
no_base (Some b) = false

-- the step at a position is the call there
is_call : Outcome → ℕ → Bool
is_call (Err f) at = false
is_call (Ok (k, None)) at = false
is_call (Ok (k, Some t)) at = same_command k (call_at at) && (eqb t.at 766 && (same_level t.level (at + 3) && no_base t.base))

-- computed at each of the 255 positions
calls_tested : each (λ i. is_call (step_of longest (cursor (3 * i) First None)) (3 * i)) 255 ≡ true
unfolding book each longest calls noops command call_at same_command same_level no_base is_call
calls_tested = refl

same_command_lem : (k l : Command) → same_command k l ≡ true → k ≡ l
unfolding same_command
same_command_lem k l e =
    let a = and_left (eqb k.index l.index && eqb k.level l.level) _ e in
    let b = and_right (eqb k.index l.index && eqb k.level l.level) _ e in
    let p = eqb-true _ _ (and_left (eqb k.index l.index) _ a) in
    let q = eqb-true _ _ (and_right (eqb k.index l.index) _ a) in
    let r = eqb-true _ _ (and_left (eqb k.row l.row) _ b) in
    let t = eqb-true _ _ (and_right (eqb k.row l.row) _ b) in
    λ i. record { index = p i; level = q i; row = r i; length = t i }

same_level_lem : (l : Level) (back : ℕ) → same_level l back ≡ true → l ≡ Second back
unfolding same_level
same_level_lem First back e = absurd (never_both e refl)
same_level_lem (Second b) back e = ap Second (eqb-true _ _ e)

no_base_lem : (b : Option ℕ) → no_base b ≡ true → b ≡ None
unfolding no_base
no_base_lem None e = refl
no_base_lem (Some b) e = absurd (never_both e refl)

is_call_lem : (o : Outcome) (at : ℕ) → is_call o at ≡ true → o ≡ Ok (call_at at, Some (cursor 766 (Second (at + 3)) None))
unfolding is_call
is_call_lem (Err f) at e = absurd (never_both e refl)
is_call_lem (Ok (k, None)) at e = absurd (never_both e refl)
is_call_lem (Ok (k, Some t)) at e =
    let p = same_command_lem k (call_at at) (and_left (same_command k (call_at at)) _ e) in
    let b = and_right (same_command k (call_at at)) _ e in
    let q = eqb-true _ _ (and_left (eqb t.at 766) _ b) in
    let m = and_right (eqb t.at 766) _ b in
    let r = same_level_lem t.level (at + 3) (and_left (same_level t.level (at + 3)) _ m) in
    let u = no_base_lem t.base (and_right (same_level t.level (at + 3)) _ m) in
    λ i. Ok (p i, Some (record { at = q i; level = r i; base = u i }))

call_step : (i : ℕ) → i < 255
    → step_of longest (cursor (3 * i) First None) ≡ Ok (call_at (3 * i), Some (cursor 766 (Second (3 * i + 3)) None))
call_step i h = is_call_lem _ (3 * i) (at_each (λ k. is_call (step_of longest (cursor (3 * k) First None)) (3 * k)) 255 calls_tested i h)

-- the commands of n calls; shut, so that nobody writes them out
pub outer : ℕ → List Command
outer zero = []
outer (suc n) = outer n ++ (call_at (3 * n) ∷ inner 255 766)

calls_lead : (n : ℕ) → n ≤ 255 → Leads longest (start None) (outer n) (cursor (3 * n) First None)
unfolding outer
calls_lead zero h = stays
calls_lead (suc n) h =
    let e : 3 * n + 3 ≡ 3 * suc n = omega arith in
    leads_on longest (calls_lead n (omega arith))
    (subst (λ (at : ℕ). Leads longest (cursor (3 * n) First None) (call_at (3 * n) ∷ inner 255 766) (cursor at First None)) e
    (onward (call_step n h) (called (3 * n + 3))))

inner_counted : length (inner 255 766) ≡ 256
unfolding inner
inner_counted = refl

outer_counted : (n : ℕ) → length (outer n) ≡ 257 * n
unfolding outer
outer_counted zero = refl
outer_counted (suc n) =
    let a = length-append (outer n) (call_at (3 * n) ∷ inner 255 766) in
    let b = outer_counted n in
    let c = inner_counted in
    omega arith

-- the last command, the end of the first-level batch, computed
pub last_command : Command
last_command = command 765 0 1 1

last_step : step_of longest (cursor 765 First None) ≡ Ok (last_command, None)
unfolding book longest calls noops command last_command
last_step = refl

sound : window_fault (lengths_of longest) ≡ Ok tt
unfolding book longest calls noops
sound = refl

last_run : trace_from 1 longest (cursor 765 First None) ≡ then last_command (ended (Ok tt))
unfolding trace
last_run = rw last_step

all_counted : length (outer 255) ≡ 65535
all_counted = outer_counted 255

whole : (more : ℕ) → walk None longest (budget + more) ≡ follow (outer 255) (then last_command (ended (Ok tt)))
unfolding cut
whole more =
    let few : budget + more ≡ length (outer 255) + suc more = omega (arith, all_counted) in
    walk_sound None longest (budget + more) sound
    ∙ ap (λ (n : ℕ). cut (budget + more) (trace_from (n + 1) longest (start None))) (sym all_counted)
    ∙ ap (cut (budget + more)) (trace_follows longest 1 (calls_lead 255 (omega arith)) ∙ ap (follow (outer 255)) last_run)
    ∙ ap (λ (n : ℕ). cut n (follow (outer 255) (then last_command (ended (Ok tt))))) few
    ∙ cut_follows (outer 255) (suc more) (then last_command (ended (Ok tt)))

-- ACCEPTED, with 65,536 commands
pub answers : (more : ℕ)
    → answer_of (walk None longest (budget + more)) ≡ record { reason = 0; window = 0; index = 0; count = 65536 }
unfolding answer_of answer_with commands_of end_of
answers more =
    ap answer_of (whole more)
    ∙ rw (end_follows (outer 255) _, commands_follow (outer 255) _, length-append (outer 255) (last_command ∷ []), all_counted)

-- in this order: 255 times a call and the second-level batch, and the end last
pub commands : (more : ℕ) → commands_of (walk None longest (budget + more)) ≡ outer 255 ++ (last_command ∷ [])
unfolding commands_of
commands more = ap commands_of (whole more) ∙ commands_follow (outer 255) (then last_command (ended (Ok tt)))
