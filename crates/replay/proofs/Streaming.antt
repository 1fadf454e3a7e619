-- The whole run: where the walk accepts, the streamer runs to the end in exactly the walk's commands.
-- Assumes nothing.
use Rattle.std.specs.Prelude.{Ok, None, Some, Err}
use Prim.Native.Nat.{ℕ, zero, suc, ◌+◌, ◌/◌}
use mathlib.Core.Path.{◌≡◌, refl, sym, ap, ap₂}
use mathlib.Core.List.{List, [], ◌∷◌, map}
use mathlib.Core.Option.{Option, some, none}
use lib.ListN.{length}
use Rattle.rules.specs.Step.{Base}
use Rattle.rules.specs.declared.Cursor.{Cursor}
use Rattle.rules.specs.declared.Command.{Command}
use Rattle.rules.specs.Step.{Outcome}
use Rattle.rules.specs.Windows.{Capture, windows_of, lengths_of, listed}
use Rattle.rules.specs.Step.{budget, step_of}
use Rattle.rules.specs.Walk.{trace, cut, start, walk, commands_of, end_of}
use Rattle.rules.proofs.Trying.{fails_not_pass}
use Rattle.rules.proofs.Ranges.{Sound, sound}
use Rattle.rules.proofs.Moving.{first_keeps_none}
use Rattle.rules.proofs.Walking.{walk_sound, accepted_sound}
use Rattle.replay.specs.Streamer.{Map, Machine, Step, goes, ends, fails, Hardware, step}
use Rattle.replay.specs.Runs.{Moment, moment, more, run, after_all}
use Rattle.replay.specs.Conduct.{map_of, at_start, AllFair, AllReturn}
use Rattle.replay.proofs.Stores.{some_not_none}
use Rattle.replay.proofs.Fetching.{Agrees}
use Rattle.replay.proofs.Simulating.{simulated}
use Rattle.replay.proofs.Returning.{Origin, first_origin, origin_next, returns_here, ends_first}

-- from a machine on the streamer ends after exactly these commands, in this order, each moment is fair, and each level-1 end returns to where a start
-- of the run came from; `past` are the moments before, the latest first
pub record Streams (c : Capture) (hardware : Hardware) (done : ℕ) (past : List Moment) (m : Machine) (ks : List Command) : Type 0 where
  pub moments : List Moment
  pub runs : run (length ks) (map_of c) hardware done m (step (map_of c) hardware done m) ≡ some moments
  pub commands : map (λ x. x.command) moments ≡ ks
  pub fair : AllFair c moments
  pub returns : AllReturn c.batch past m moments

follows : (left room : ℕ) (c : Capture) → Sound (listed (windows_of c))
    → (hardware : Hardware) (done : ℕ) (past : List Moment) (s : Cursor) (m : Machine) (o : Outcome)
    → step_of c s ≡ o → Agrees c s m → Origin c past s → end_of (cut room (trace left c s o)) ≡ Ok tt
    → Streams c hardware done past m (commands_of (cut room (trace left c s o)))
unfolding trace cut commands_of end_of run
follows zero room c w hardware done past s m o e g a h = absurd (fails_not_pass h)
follows (suc left) room c w hardware done past s m (Err f) e g a h = absurd (fails_not_pass h)
follows (suc left) zero c w hardware done past s m (Ok (k, None)) e g a h = absurd (fails_not_pass h)
follows (suc left) zero c w hardware done past s m (Ok (k, Some t)) e g a h = absurd (fails_not_pass h)
follows (suc left) (suc room) c w hardware done past s m (Ok (k, None)) e g a h =
    let x = simulated c w hardware done s m g e in
    record {
      moments = moment m x.effect ∷ [];
      runs = rw x.steps;
      commands = ap (λ y. y ∷ []) x.command;
      fair = (record { stored = x.inside; batch = x.led.batch; state = x.led.state }, tt);
      returns = (λ row level. absurd (ends_first c s m g k x.command past a e level), tt);
    }
follows (suc left) (suc room) c w hardware done past s m (Ok (k, Some t)) e g a h =
    let x = simulated c w hardware done s m g e in
    let y = moment m x.effect in
    let b = origin_next c s m g k x.command past a x.effect e in
    let r = follows left room c w hardware (done + 1) (y ∷ past) t x.effect.machine (step_of c t) refl x.led b h in
    record {
      moments = y ∷ r.moments;
      runs = rw (x.steps, r.runs);
      commands = ap₂ (λ z zs. z ∷ zs) x.command r.commands;
      fair = (record { stored = x.inside; batch = x.led.windowed.batch; state = x.led.windowed.state }, r.fair);
      returns = (λ row level. returns_here c s m g k x.command past a x.effect e x.led row, r.returns);
    }

-- THE RUN, for every starting base of the walk
pub streams : (base : Base) (c : Capture) (room : ℕ) → end_of (walk base c room) ≡ Ok tt
    → (kept : Option ℕ) (registers : ℕ → ℕ) (scratch : List ℕ)
    → length scratch ≡ c.scratch_bytes / 4 → (hardware : Hardware)
    → Streams c hardware 0 [] (at_start c kept registers scratch) (commands_of (walk base c room))
streams base c room e kept registers scratch l hardware =
    let w = accepted_sound base c room e in
    let q = walk_sound base c room w in
    rw q
    (follows budget room c (sound (lengths_of c) w) hardware 0 [] (start base) _ (step_of c (start base)) refl
    (record { at = refl; level = refl; kept = λ back x. absurd (first_keeps_none x); windowed = record { batch = refl; state = refl; scratch = l } })
    (first_origin c [] (start base) refl) (rw q at e))

-- batch and state end as they began, if each moment is fair
pub ends_as_it_began : (c : Capture) (m : Machine) (xs : List Moment) → m.batch ≡ c.batch → m.state ≡ c.state → AllFair c xs
    → ((after_all m xs).batch ≡ c.batch) × ((after_all m xs).state ≡ c.state)
ends_as_it_began c m [] b s f = (b, s)
ends_as_it_began c m (x ∷ xs) b s f = ends_as_it_began c x.after xs f.0.batch f.0.state f.1

-- the number of commands is the only one after which it ends
was_some : (x : Moment) (o : Option (List Moment)) {xs : List Moment} → more x o ≡ some xs → (ys : List Moment) × (o ≡ some ys)
was_some x none e = absurd (some_not_none (sym e))
was_some x (some ys) e = (ys, refl)

pub only_number : (n k : ℕ) (w : Map) (hardware : Hardware) (done : ℕ) (m : Machine) (o : Step) {xs ys : List Moment}
    → run n w hardware done m o ≡ some xs → run k w hardware done m o ≡ some ys → n ≡ k
unfolding run
only_number zero k w hardware done m o p q = absurd (some_not_none (sym p))
only_number (suc n) zero w hardware done m o p q = absurd (some_not_none (sym q))
only_number (suc n) (suc k) w hardware done m fails p q = absurd (some_not_none (sym p))
only_number (suc zero) (suc zero) w hardware done m (ends e) p q = refl
only_number (suc zero) (suc (suc k)) w hardware done m (ends e) p q = absurd (some_not_none (sym q))
only_number (suc (suc n)) (suc k) w hardware done m (ends e) p q = absurd (some_not_none (sym p))
only_number (suc n) (suc k) w hardware done m (goes e) p q =
    ap suc (only_number n k w hardware (done + 1) e.machine (step w hardware (done + 1) e.machine) (was_some (moment m e) _ p).1 (was_some (moment m e) _ q).1)
