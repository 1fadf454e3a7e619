-- What happened at a refused command: where it stands, told by the records of the commands before it, which it is, and what it reaches.
use Rattle.std.specs.Prelude.{ℕ, ◌+◌, ◌-◌, ◌*◌, ◌/◌, Bool, cond, ◌&&◌, List, [], ◌∷◌, length, get_or, take, eqb, leb, ltb}
use Rattle.rules.specs.declared.Access.{Access}
use Rattle.rules.specs.declared.Access.TheVariants.{Unused, Reaches, NoRange}
use Rattle.rules.specs.declared.Answer.{Answer}
use Rattle.rules.specs.declared.Command.{Command}
use Rattle.rules.specs.Commands.{end_row, start_row}
use Rattle.rules.specs.Uses.{address_at, access_at}
use Rattle.rules.specs.Step.{row_at, length_at, dwords_at}
use Rattle.rules.specs.Records.{command_of, commands_in, words_for}
use Rattle.clauses.specs.declared.Detail.{Detail}
use Rattle.clauses.specs.declared.Detail.TheVariants.{NoMore, InCommand, Reach}

-- the command that the two words of a record name, by the record's number
abbrev pub command_named : List ℕ → ℕ → Command
command_named records i = command_of (get_or records (2 * i) 0) (get_or records (2 * i + 1) 0)

-- the position behind a command
abbrev pub behind : Command → ℕ
behind k = k.index + k.length

-- "it keeps the position after itself": the kept position after a command. Only a start leaves level 0, so it is that behind the last command of level 0.
unfoldable pub kept_by : ℕ → Command → ℕ
kept_by kept k = cond (eqb k.level 0) (behind k) kept

-- "The walk": the position that a command leads to, by the batch and its address, and the kept position
unfoldable pub leads_to : List ℕ → ℕ → ℕ → Command → ℕ
leads_to batch batch_at kept k =
    cond (eqb k.row end_row) kept
    (cond (eqb k.row start_row) ((address_at batch (k.index + 1) - batch_at) / 4) (behind k))

-- the kept position after commands
unfoldable pub kept_after : ℕ → List Command → ℕ
kept_after kept [] = kept
kept_after kept (k ∷ ks) = kept_after (kept_by kept k) ks

-- the position after commands, from a position and a kept one
unfoldable pub stands_after : List ℕ → ℕ → ℕ → ℕ → List Command → ℕ
stands_after batch batch_at at kept [] = at
stands_after batch batch_at at kept (k ∷ ks) = stands_after batch batch_at (leads_to batch batch_at kept k) (kept_by kept k) ks

-- the position after the commands that so many records name, from the start on
abbrev pub position_after : List ℕ → ℕ → List ℕ → ℕ → ℕ
position_after batch batch_at records count = stands_after batch batch_at 0 0 (commands_in (take (words_for count) records))

-- what the command of a row reaches with an address
abbrev pub reach_of : ℕ → ℕ → Access → Detail
reach_of row address Unused = NoMore
reach_of row address (Reaches bytes within) = Reach row address bytes within
reach_of row address NoRange = NoMore

-- what a command reaches with its dword k
unfoldable pub reach_with : ℕ → List ℕ → ℕ → Detail
reach_with row dwords k = reach_of row (address_at dwords k) (access_at row dwords k)

-- what the command at a position reaches with its dword k; there is a dword k only where the command lies in the batch
unfoldable pub reach_at : List ℕ → ℕ → ℕ → Detail
reach_at batch at k =
    cond (leb (at + length_at batch at) (length batch) && ltb k (length_at batch at))
    (reach_with (row_at batch at) (dwords_at batch at) k) NoMore

-- 8 to 17 are about a command, which has a name
unfoldable pub of_command : ℕ → Bool
of_command reason = ltb 7 reason && ltb reason 18

-- 13: what the command reaches; any other that is about a command: which it is
unfoldable pub detail_at : List ℕ → ℕ → Answer → Detail
detail_at batch at a =
    cond (eqb a.reason 13) (reach_at batch at (a.index - at)) (cond (of_command a.reason) (InCommand (row_at batch at)) NoMore)

-- THE PROMISE of `causes::cause`: what happened, by the batch, its address, the records and the answer
abbrev pub cause_of : List ℕ → ℕ → List ℕ → Answer → Detail
cause_of batch batch_at records a = detail_at batch (position_after batch batch_at records a.count) a
