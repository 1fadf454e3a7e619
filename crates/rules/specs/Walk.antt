-- Document 01, "The walk": the trace of a run with its budget, its cut by the room for records, and the answer.
use Rattle.std.specs.Prelude.{ℕ, zero, suc, ◌<◌, ◌≡◌, refl, List, [], ◌∷◌, ◌++◌, length, Ok, Err, Option, None, Some}
use Rattle.rules.specs.declared.Level.TheVariants.{First}
use Rattle.rules.specs.declared.BaseChoice.{BaseChoice}
use Rattle.rules.specs.declared.BaseChoice.TheVariants.{StateWindow, NoBase}
use Rattle.rules.specs.declared.Cursor.{Cursor}
use Rattle.rules.specs.declared.Command.{Command}
use Rattle.rules.specs.Step.{Outcome}
use Rattle.rules.specs.Refusals.{Verdict}
use Rattle.rules.specs.declared.Fault.{Fault}
use Rattle.rules.specs.declared.Answer.{Answer}
use Rattle.rules.specs.Refusals.{AllPass, FirstFault, answer_with}
use Rattle.rules.specs.Windows.{Capture, lengths_of, window_checks, window_fault}
use Rattle.rules.specs.Step.{here, budget, spent_at, full_at, budget_spent, records_full, checks, cursor, command_at, step_of}

-- a run: the commands accepted, in order, and then how it ended, `Pass` being "accepted"
pub data Run : Type 0 where
  ended : Verdict → Run
  then : Command → Run → Run

-- "The walk": the run from a cursor on, where `o` is the step there, with so many commands left of the budget; 5 is "65,536 commands done, run
-- not ended". The rest of a run is bound by `let`, so that whoever computes a run computes no more of it than is asked for.
unfoldable pub trace : ℕ → Capture → Cursor → Outcome → Run
trace zero c s o = ended (Err (spent_at s.at))
trace (suc left) c s (Err f) = ended (Err f)
trace (suc left) c s (Ok (command, None)) = then command (ended (Ok tt))
trace (suc left) c s (Ok (command, Some t)) = let rest : Run = trace left c t (step_of c t) in then command rest

-- 18, "record buffer full", at the header of the first command for which there is no room
unfoldable pub cut : ℕ → Run → Run
cut room (ended v) = ended v
cut zero (then command rest) = ended (Err (full_at command.index))
cut (suc room) (then command rest) = then command (cut room rest)

-- "Start at dword 0, level 0, no dynamic base"; the starting base is a parameter
abbrev pub start : Option ℕ → Cursor
start base = cursor 0 First base

-- Request 5: "The default at the start of a walk becomes the state window's address, and a caller may choose "none" instead." The address is the
-- base whether the window is empty or not.
abbrev pub starting_base : BaseChoice → ℕ → Option ℕ
starting_base StateWindow state_at = Some state_at
starting_base NoBase state_at = None

-- "The walk", from a cursor on, its first step included
abbrev pub trace_from : ℕ → Capture → Cursor → Run
trace_from left c s = trace left c s (step_of c s)

-- "1 to 4 precede the walk, have count 0 and write nothing."
abbrev pub unless : Verdict → Run → Run
unless (Ok _) run = run
unless (Err f) run = ended (Err f)

-- "The walk" of a capture, with room for so many records
unfoldable pub walk : Option ℕ → Capture → ℕ → Run
walk base c room = unless (window_fault (lengths_of c)) (cut room (trace_from budget c (start base)))

-- "goes to its target", "go on by their length": from the cursor s the commands are taken, one after the other, and then the walk stands at the
-- last cursor
pub data Leads (c : Capture) : Cursor → List Command → Cursor → Type 0 where
  stays : {s : Cursor} → Leads c s [] s
  onward : {s t u : Cursor} {command : Command} {commands : List Command} → step_of c s ≡ Ok (command, Some t) → Leads c t commands u → Leads c s (command ∷ commands) u

-- "commands accepted", in order
unfoldable pub commands_of : Run → List Command
commands_of (ended v) = []
commands_of (then command rest) = command ∷ commands_of rest

-- "(0 = accepted)", or the refusal: how a run ended
unfoldable pub end_of : Run → Verdict
end_of (ended v) = v
end_of (then command rest) = end_of rest

-- "Count is the number of commands accepted, the end included"
unfoldable pub answer_of : Run → Answer
answer_of run = answer_with (end_of run) (length (commands_of run))

-- 5 and 18 as the walk gives them are the checks of a command: 5 with the whole budget done, 18 with no room left
pub budget_spent_told : (c : Capture) (s : Cursor) (o : Outcome) → end_of (trace 0 c s o) ≡ budget_spent budget (here c s)
unfolding trace end_of budget_spent
budget_spent_told c s o = refl

pub records_full_told : (c : Capture) (s : Cursor) (rest : Run) → end_of (cut 0 (then (command_at c.batch s) rest)) ≡ records_full 0 0 (here c s)
unfolding cut end_of command_at records_full
records_full_told c s rest = refl

-- "Given exactly when", for acceptance: the windows are sound, and every check 5 to 18 passes at every command that the walk comes to
pub record NoFault (base : Option ℕ) (c : Capture) (room : ℕ) : Type 0 where
  pub sound : AllPass window_checks (lengths_of c)
  pub passes : (ks : List Command) (s : Cursor) → Leads c (start base) ks s → AllPass (checks (length ks) room) (here c s)

-- "A batch end at level 0 ends the run": the commands lead to one, which is the last of them
pub record Complete (base : Option ℕ) (c : Capture) (commands : List Command) : Type 0 where
  pub before : List Command
  pub last : Command
  pub cursor : Cursor
  pub reached : Leads c (start base) before cursor
  pub ends : step_of c cursor ≡ Ok (last, None)
  pub all : commands ≡ before ++ (last ∷ [])

-- "5 to 18 are tried per command in this order": the walk's first fault. Exactly these commands lead to a cursor where it is the first in the
-- order of checks, and every check passes at each command before it.
pub record WalkFault (base : Option ℕ) (c : Capture) (room : ℕ) (commands : List Command) (f : Fault) : Type 0 where
  pub sound : AllPass window_checks (lengths_of c)
  pub cursor : Cursor
  pub reached : Leads c (start base) commands cursor
  pub first : FirstFault (checks (length commands) room) (here c cursor) f
  pub earlier : (ks : List Command) (t : Cursor) → Leads c (start base) ks t → length ks < length commands → AllPass (checks (length ks) room) (here c t)
