-- A run of the plain streamer: what it does at each moment, and when it ends.
use Rattle.std.specs.Prelude.{ℕ, zero, suc, ◌+◌, Bool, true, false, List, [], ◌∷◌, map, get_or}
use Rattle.std.proofs.Math.Option.{Option, some, none}
use Rattle.rules.specs.declared.Command.{Command}
use Rattle.rules.specs.Commands.{row_of, length_of}
use Rattle.replay.specs.Streamer.{Map, Machine, Effect, Step, goes, ends, fails, Hardware, step}

-- a moment of a run: the command that was run, the addresses of the words that it stored, and the machine after it
pub record Moment : Type 0 where
  pub command : Command
  pub stored : List ℕ
  pub after : Machine

-- "level": its number, as a record has it
abbrev pub level_of : Bool → ℕ
level_of true = 1
level_of false = 0

-- the command that stands at a machine's position, in the batch words as they then stand
unfoldable pub fetched_command : Machine → Command
fetched_command m =
    let header : ℕ = get_or m.batch m.at 0 in
    record { index = m.at; level = level_of m.second; row = row_of header; length = length_of (row_of header) header }

-- the moment of a command and of what it did
abbrev pub moment : Machine → Effect → Moment
moment m e = record { command = fetched_command m; stored = e.stored; after = e.machine }

-- a moment before those of the rest, if the rest is a run
abbrev pub more : Moment → Option (List Moment) → Option (List Moment)
more x none = none
more x (some xs) = some (x ∷ xs)

-- the moments of the run from a machine on, where `o` is its step there and `done` the number of commands before, if the streamer ends at its nth
-- command and no sooner, and does not fail on the way
unfoldable pub run : ℕ → Map → Hardware → ℕ → Machine → Step → Option (List Moment)
run zero map hardware done m o = none
run (suc n) map hardware done m fails = none
run (suc zero) map hardware done m (ends e) = some (moment m e ∷ [])
run (suc (suc n)) map hardware done m (ends e) = none
run (suc n) map hardware done m (goes e) =
    let rest : Option (List Moment) = run n map hardware (done + 1) e.machine (step map hardware (done + 1) e.machine) in more (moment m e) rest

-- the machine after these moments of a run, where `m` was before them
abbrev pub after_all : Machine → List Moment → Machine
after_all m [] = m
after_all m (x ∷ xs) = after_all x.after xs

-- the run of n commands from the start
abbrev pub run_of : ℕ → Map → Hardware → Machine → Option (List Moment)
run_of n map hardware m = run n map hardware 0 m (step map hardware 0 m)
