-- How a run of the streamer comes out, computed: the words in which the examples of proofs/Examples are written. An example says whether the streamer
-- ends, fails or goes on, after exactly which commands, which words each of these stored, and all that the run has changed.
-- Assumes nothing.
use Prim.Native.Nat.{ℕ, zero, suc, ◌+◌, ◌*◌, ◌^◌}
use mathlib.Core.Bool.{Bool, true, false, cond, ◌&&◌}
use mathlib.Core.List.{List, [], ◌∷◌}
use mathlib.Core.Option.{Option, some, none}
use lib.ListN.{length, set}
use lib.Dec.{eqb}
use Rattle.rules.specs.declared.Command.{Command}
use Rattle.rules.specs.Cases.{same_words, named_if}
use Rattle.rules.specs.Book.{book}
use Rattle.replay.specs.Streamer.{Map, Machine, Step, goes, ends, fails, Hardware, step}
use Rattle.replay.specs.Streamer.{fetched, fetched_words, fetched_address, word_at, place_of, store_words, set_pairs, end_batch, start_batch, pipe, exec}
use Rattle.replay.specs.Runs.{Moment, moment, fetched_command, run, run_of}

-- how a run comes out: it ends at the last of its commands, it fails at the one after them, or it goes on to that one
pub data Fate : Type 0 where
  Ends : Fate
  Fails : Fate
  GoesOn : Fate

-- a command that was run, in one word, and the addresses of the words that it stored
pub record Ran : Type 0 where
  pub word : ℕ
  pub stored : List ℕ

-- what a run has changed: a word of a window, by its number there, or a register, by its offset
pub data Change : Type 0 where
  batch_window : ℕ → ℕ → Change
  state_window : ℕ → ℕ → Change
  in_scratch : ℕ → ℕ → Change
  register : ℕ → ℕ → Change

-- an example: its number, the batch, level and kept position at the start, and what is expected
pub record Example : Type 0 where
  pub number : ℕ
  pub batch : List ℕ
  pub second : Bool
  pub kept : Option ℕ
  pub fate : Fate
  pub ran : List Ran
  pub changes : List Change

-- a line of a table: from level 0 with nothing kept, or from another start
abbrev pub example : ℕ → List ℕ → Fate → List Ran → List Change → Example
example number batch fate ran changes =
    record { number = number; batch = batch; second = false; kept = none; fate = fate; ran = ran; changes = changes }

abbrev pub from : Bool → Option ℕ → Example → Example
from second kept e =
    record { number = e.number; batch = e.batch; second = second; kept = kept; fate = e.fate; ran = e.ran; changes = e.changes }

-- a command that stored nothing, and one that stored
abbrev pub quiet : ℕ → Ran
quiet word = record { word = word; stored = [] }

abbrev pub stored : ℕ → List ℕ → Ran
stored word addresses = record { word = word; stored = addresses }

-- batch at 1000h, state at 700002000h with two words, scratch at 3000h with four; each register holds its offset and one
abbrev there : Map
there = record { batch_at = 0x1000; state_at = 0x700002000; scratch_at = 0x3000 }

abbrev hardware : Hardware
hardware done = record { low = 0xAAAA0000 + done; high = 0xBBBB0000 + done }

abbrev begin : Example → Machine
begin e = record {
  at = 0;
  second = e.second;
  kept = e.kept;
  registers = λ offset. offset + 1;
  batch = e.batch;
  state = 0x51 ∷ 0x52 ∷ [];
  scratch = 10 ∷ 11 ∷ 12 ∷ 13 ∷ [];
}

-- a machine with the changes that are expected, made apart from the streamer
abbrev holding : Machine → List ℕ → List ℕ → List ℕ → (ℕ → ℕ) → Machine
holding m batch state scratch registers =
    record { at = m.at; second = m.second; kept = m.kept; registers = registers; batch = batch; state = state; scratch = scratch }

abbrev changed : List Change → Machine → Machine
changed [] m = m
changed (batch_window i w ∷ cs) m = changed cs (holding m (set m.batch i w) m.state m.scratch m.registers)
changed (state_window i w ∷ cs) m = changed cs (holding m m.batch (set m.state i w) m.scratch m.registers)
changed (in_scratch i w ∷ cs) m = changed cs (holding m m.batch m.state (set m.scratch i w) m.registers)
changed (register offset w ∷ cs) m = changed cs (holding m m.batch m.state m.scratch (λ x. cond (eqb x offset) w (m.registers x)))

-- two machines agree in every word of the windows, and in the registers that the examples name and a few more
abbrev looked : (ℕ → ℕ) → List ℕ
looked r = r 0 ∷ r 1 ∷ r 0x2400 ∷ r 0x2600 ∷ r 0x2604 ∷ r 0x2608 ∷ r 0x260C ∷ r 0x3000 ∷ []

abbrev same_machine : Machine → Machine → Bool
same_machine m n =
    (same_words m.batch n.batch && same_words m.state n.state)
    && (same_words m.scratch n.scratch && same_words (looked m.registers) (looked n.registers))

-- a command in one word, so that a table can name it: as document 01's record has its index, level, length and row
abbrev in_one_word : Command → ℕ
in_one_word c = c.index + 2 ^ 12 * c.level + 2 ^ 16 * c.length + 2 ^ 24 * c.row

-- the commands are those, with their stores
abbrev same_ran : List Ran → List Moment → Bool
same_ran [] [] = true
same_ran [] (x ∷ xs) = false
same_ran (r ∷ rs) [] = false
same_ran (r ∷ rs) (x ∷ xs) = (eqb (in_one_word x.command) r.word && same_words x.stored r.stored) && same_ran rs xs

-- what becomes of the streamer in so many commands, step by step
pub record Outcome : Type 0 where
  pub fate : Fate
  pub moments : List Moment

abbrev outcome : Fate → List Moment → Outcome
outcome fate moments = record { fate = fate; moments = moments }

abbrev before : Moment → Outcome → Outcome
before x o = outcome o.fate (x ∷ o.moments)

followed : ℕ → ℕ → Machine → Step → Outcome
followed zero done m fails = outcome Fails []
followed zero done m (ends e) = outcome GoesOn []
followed zero done m (goes e) = outcome GoesOn []
followed (suc n) done m fails = outcome Fails []
followed (suc n) done m (ends e) = outcome Ends (moment m e ∷ [])
followed (suc n) done m (goes e) =
    let rest : Outcome = followed n (done + 1) e.machine (step there hardware (done + 1) e.machine) in before (moment m e) rest

-- it is what the example says
abbrev coded : Fate → ℕ
coded Ends = 0
coded Fails = 1
coded GoesOn = 2

abbrev last_of : Machine → List Moment → Machine
last_of m [] = m
last_of m (x ∷ xs) = last_of x.after xs

abbrev comes_out : Example → Outcome → Bool
comes_out e o =
    eqb (coded e.fate) (coded o.fate)
    && (same_ran e.ran o.moments && same_machine (changed e.changes (begin e)) (last_of (begin e) o.moments))

-- the numbers below n of which specs/Runs has a run
abbrev is_none : Option (List Moment) → Bool
is_none none = true
is_none (some xs) = false

run_numbers : ℕ → Machine → List ℕ
run_numbers zero m = []
run_numbers (suc n) m = named_if (is_none (run_of n there hardware m)) n (run_numbers n m)

-- it has one of so many commands if the streamer ends there, and none of another number; one that goes on may end later
abbrev runs_so : Fate → ℕ → Machine → Bool
runs_so Ends n m = same_words (run_numbers (n + 2) m) (n ∷ [])
runs_so Fails n m = same_words (run_numbers (n + 2) m) []
runs_so GoesOn n m = same_words (run_numbers (n + 1) m) []

-- and that one is what the example says
abbrev tells : Example → Option (List Moment) → Bool
tells e none = true
tells e (some xs) = comes_out e (outcome Ends xs)

abbrev right : Example → Bool
right e =
    let n : ℕ = length e.ran in
    comes_out e (followed n 0 (begin e) (step there hardware 0 (begin e)))
    && (runs_so e.fate n (begin e) && tells e (run_of n there hardware (begin e)))

-- the numbers of the examples that do not come out as they should; it computes where all that is shut of the streamer is open
unfoldable pub failing : List Example → List ℕ
unfolding followed run_numbers book fetched fetched_words fetched_address word_at place_of store_words set_pairs end_batch start_batch pipe exec step fetched_command run
failing [] = []
failing (e ∷ es) = named_if (right e) e.number (failing es)
