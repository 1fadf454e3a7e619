-- DEMAND 2. A capture is accepted exactly when the walk meets no fault; otherwise the answer is the walk's first fault, in its order of checks, and
-- the records list the commands before it.
--
-- Read it beside rules/specs: `Leads c s ks t` (Walk), that from the cursor s the commands ks are taken, one after the other, and then the walk stands
-- at t; `checks n room` (Step), the checks 5 to 18 in their order, with n commands done and room for so many records; `NoFault`, `Complete` and
-- `WalkFault` (Walk), what these say of a whole capture.
use Rattle.std.specs.Prelude.{ℕ, ◌≡◌, List, [], ◌⊎◌, ◌↔◌, length, take, Option}
use Rattle.rules.specs.declared.Answer.{Answer}
use Rattle.rules.specs.declared.Command.{Command}
use Rattle.rules.specs.declared.Fault.{Fault}
use Rattle.rules.specs.Refusals.{FirstFault, number_of}
use Rattle.rules.specs.Windows.{Capture, lengths_of, window_checks}
use Rattle.rules.specs.Walk.{NoFault, Complete, WalkFault}
use Rattle.rules.specs.Records.{room_of, words_for, words_of}

-- a refusal: the fault that is answered, with the number of commands told; the first of the windows' own (1 to 4), with none told, or the walk's first
pub record Refusal (base : Option ℕ) (c : Capture) (room : ℕ) (r : Answer) (commands : List Command) : Type 0 where
  pub fault : Fault
  pub answer : r ≡ record { reason = number_of fault.reason; window = fault.window; index = fault.index; count = length commands }
  pub first : (FirstFault window_checks (lengths_of c) fault × (commands ≡ [])) ⊎ WalkFault base c room commands fault

pub record Demand2 (base : Option ℕ) (c : Capture) (old : List ℕ) (r : Answer) (new : List ℕ) : Type 0 where
  pub commands : List Command
  -- the records are those of the commands, in order
  pub listed : take (words_for r.count) new ≡ words_of commands
  -- accepted exactly when the windows are sound and no check faults at any command that is reached
  pub accepted : (r.reason ≡ 0) ↔ NoFault base c (room_of (length old))
  -- and then the commands are a run to the end
  pub complete : r.reason ≡ 0 → (r ≡ record { reason = 0; window = 0; index = 0; count = length commands }) × Complete base c commands
  -- otherwise the first fault
  pub refused : (r.reason ≡ 0 → ⊥) → Refusal base c (room_of (length old)) r commands
