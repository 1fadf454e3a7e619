-- How a run of the streamer has to go, for demand 3: where it starts, where it stores, what it leaves as it was, and where a level-1 end returns to.
use Rattle.std.specs.Prelude.{ℕ, ◌+◌, ◌≡◌, true, false, List, [], ◌∷◌, ◌⊎◌, get_or}
use Rattle.std.proofs.Math.Option.{Option, some}
use Rattle.rules.specs.Words.{bit}
use Rattle.rules.specs.Windows.{Capture, windows_of, Inside}
use Rattle.rules.specs.Commands.{end_row, start_row}
use Rattle.replay.specs.Streamer.{Map, Machine, machine}
use Rattle.replay.specs.Runs.{Moment}

-- where the three windows of a capture lie
abbrev pub map_of : Capture → Map
map_of c = record { batch_at = c.batch_at; state_at = c.state_at; scratch_at = c.scratch_at }

-- "started at dword 0", level 0, with the capture's batch and state, and anything else
abbrev pub at_start : Capture → Option ℕ → (ℕ → ℕ) → List ℕ → Machine
at_start c kept registers scratch = machine 0 false kept registers c.batch c.state scratch

-- "each store stays in scratch": a word at this address lies there
abbrev pub InScratch : Capture → ℕ → Type 0
InScratch c address = Inside (windows_of c).scratch address 4

-- and so does one at every address of a list
abbrev pub AllInScratch : Capture → List ℕ → Type 0
AllInScratch c [] = Unit {0}
AllInScratch c (address ∷ addresses) = InScratch c address × AllInScratch c addresses

-- "each store stays in scratch, and the batch and state windows end as they began": so at this moment
pub record Fair (c : Capture) (x : Moment) : Type 0 where
  pub stored : AllInScratch c x.stored
  pub batch : x.after.batch ≡ c.batch
  pub state : x.after.state ≡ c.state

-- and so at every moment
abbrev pub AllFair : Capture → List Moment → Type 0
AllFair c [] = Unit {0}
AllFair c (x ∷ xs) = Fair c x × AllFair c xs

-- "With bit 22 set it keeps the position after itself": at this moment a start kept the position `back`
pub record Keeps (batch : List ℕ) (x : Moment) (back : ℕ) : Type 0 where
  pub starts : x.command.row ≡ start_row
  pub calls : bit (get_or batch x.command.index 0) 22 ≡ true
  pub after : back ≡ x.command.index + x.command.length

-- one of these moments did
abbrev pub Kept : List ℕ → List Moment → ℕ → Type 0
Kept batch [] back = ⊥
Kept batch (x ∷ past) back = Keeps batch x back ⊎ Kept batch past back

-- "at level 1 it goes to the kept position, level 0": a position is kept in the machine `before` the moment, one that a start of this very run kept
-- (`past` are the moments before this one, the latest first), and that is where the streamer goes
pub record Returns (batch : List ℕ) (past : List Moment) (before : Machine) (x : Moment) : Type 0 where
  pub back : ℕ
  pub kept : before.kept ≡ some back
  pub own : Kept batch past back
  pub goes : x.after.at ≡ back
  pub level : x.after.second ≡ false

-- each end at level 1 among these moments returns so
abbrev pub AllReturn : List ℕ → List Moment → Machine → List Moment → Type 0
AllReturn batch past before [] = Unit {0}
AllReturn batch past before (x ∷ xs) =
    (x.command.row ≡ end_row → x.command.level ≡ 1 → Returns batch past before x) × AllReturn batch (x ∷ past) x.after xs
