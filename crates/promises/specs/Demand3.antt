-- DEMAND 3. For an accepted capture with so many commands, and the words of its records; for any starting contents of scratch (of its whole words) and of
-- the registers, any kept position or none, and any data that the hardware supplies to a store: the plain streamer started at dword 0, level 0 reaches
-- the end of the first-level batch after exactly that number of commands, in the order of the records; it never fails; each store stays in scratch;
-- and the batch and state windows are, after each command, what they were at the start.
--
-- Read it beside replay/specs: `run_of n map hardware m` (Runs) is `some moments` only if the streamer ends at its nth command, no sooner, and does not
-- fail on the way; a moment is a command that was run, the addresses of the words that it stored, and the machine after it; `AllFair` and `AllReturn`
-- (Conduct) say how each moment has to be.
use Rattle.std.specs.Prelude.{ℕ, ◌/◌, ◌≡◌, List, [], map, length}
use Rattle.std.proofs.Math.Option.{Option, some}
use Rattle.rules.specs.Windows.{Capture}
use Rattle.rules.specs.Records.{words_of, commands_in}
use Rattle.replay.specs.Streamer.{Hardware}
use Rattle.replay.specs.Runs.{Moment, run_of}
use Rattle.replay.specs.Conduct.{map_of, at_start, AllFair, AllReturn}

-- what the streamer does, started on the capture with this scratch, these registers, this kept position and this hardware
pub record Streamed (c : Capture) (count : ℕ) (records : List ℕ) (kept : Option ℕ) (registers : ℕ → ℕ) (scratch : List ℕ) (hardware : Hardware) : Type 0 where
  pub moments : List Moment
  -- it ends after exactly so many commands, and has not failed
  pub ends : run_of count (map_of c) hardware (at_start c kept registers scratch) ≡ some moments
  -- and after no other number
  pub only : (n : ℕ) (others : List Moment) → run_of n (map_of c) hardware (at_start c kept registers scratch) ≡ some others → n ≡ count
  -- its commands are those that the records name, in order: index, level, row and length
  pub named : map (λ x. x.command) moments ≡ commands_in records
  -- and the records are theirs, to the last bit
  pub listed : words_of (map (λ x. x.command) moments) ≡ records
  -- each word stored lies in scratch, and batch and state are as at the start, after each command
  pub fair : AllFair c moments
  -- each end at level 1 finds a kept position, that after a start of this very run, and goes there
  pub returns : AllReturn c.batch [] (at_start c kept registers scratch) moments

-- for everything that the capture does not say
abbrev pub Demand3 : Capture → ℕ → List ℕ → Type 0
Demand3 c count records =
    (kept : Option ℕ) (registers : ℕ → ℕ) (scratch : List ℕ) → length scratch ≡ c.scratch_bytes / 4 → (hardware : Hardware)
    → Streamed c count records kept registers scratch hardware
