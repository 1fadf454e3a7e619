-- What the loop is about: the run behind the checks 1 to 4.
use Rattle.std.specs.Prelude.{ℕ, ◌≡◌, cond, List, length, eqb, Option}
use Rattle.rules.specs.declared.Answer.{Answer}
use Rattle.rules.specs.declared.Fault.{Fault}
use Rattle.rules.specs.Windows.{Capture}
use Rattle.rules.specs.Step.{budget, spent_at}
use Rattle.rules.specs.Walk.{trace_from, cut, start, answer_of}
use Rattle.rules.specs.Records.{room_of, written_of}

-- why the run stops at a command that is not taken for this fault: behind the last command of the budget it is the budget's
abbrev pub stop_for : Fault → ℕ → ℕ → Fault
stop_for f at n = cond (eqb n budget) (spent_at at) f

-- what the loop promises: the walk behind the checks 1 to 4
pub record Ran (base : Option ℕ) (c : Capture) (old : List ℕ) (answer : Answer) (new : List ℕ) : Type 0 where
  pub answers : answer ≡ answer_of (cut (room_of (length old)) (trace_from budget c (start base)))
  pub written : new ≡ written_of (cut (room_of (length old)) (trace_from budget c (start base))) old
