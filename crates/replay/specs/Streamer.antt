-- Document 01, "The plain streamer": a machine that knows none of our checks. It uses nothing of the walk but the command table, header to row
-- and length. Read it beside that section.
use Rattle.std.specs.Prelude.{ℕ, zero, suc, ◌+◌, ◌-◌, ◌*◌, ◌/◌, ◌%◌, ◌^◌, Bool, true, false, cond, ◌&&◌, List, [], ◌∷◌, length, set, eqb, leb, ltb}
use Rattle.std.proofs.Math.Option.{Option, some, none}
use Rattle.std.proofs.Math.ListN.{get_elem?}
use Rattle.rules.specs.Words.{bit, field}
use Rattle.rules.specs.Commands.{end_row, start_row, set_registers_row, store_row, store_register_row, load_register_row, pipe_row, row_count, row_of, length_of}

-- where the three windows lie: it is given only their addresses
pub record Map : Type 0 where
  pub batch_at : ℕ
  pub state_at : ℕ
  pub scratch_at : ℕ

-- "Its state is position, level, kept position, registers and the whole words of the three windows." A kept position is any or none; every offset has
-- a register.
pub record Machine : Type 0 where
  pub at : ℕ
  pub second : Bool
  pub kept : Option ℕ
  pub registers : ℕ → ℕ
  pub batch : List ℕ
  pub state : List ℕ
  pub scratch : List ℕ

-- the same, part by part
abbrev pub machine : ℕ → Bool → Option ℕ → (ℕ → ℕ) → List ℕ → List ℕ → List ℕ → Machine
machine at second kept registers batch state scratch =
    record { at = at; second = second; kept = kept; registers = registers; batch = batch; state = state; scratch = scratch }

-- two words
pub record Pair : Type 0 where
  pub low : ℕ
  pub high : ℕ

-- what a command does: the machine after it, and the addresses of the words that it stored, in order
pub record Effect : Type 0 where
  pub machine : Machine
  pub stored : List ℕ

-- a step: the streamer goes on, it has come to the end of the run, or it "stops .. as failed"
pub data Step : Type 0 where
  goes : Effect → Step
  ends : Effect → Step
  fails : Step

-- "a fetch outside the batch .. stops it as failed": what is done with a word, if there is one
abbrev pub with_word : Option ℕ → (ℕ → Step) → Step
with_word none on = fails
with_word (some w) on = on w

-- "It fetches each command from the batch words as they then stand": the dword k of the command at the position
unfoldable pub fetched : Machine → ℕ → (ℕ → Step) → Step
fetched m k on = with_word (get_elem? m.batch (m.at + k)) on

-- n dwords from the dword k on
unfoldable pub fetched_words : Machine → ℕ → ℕ → (List ℕ → Step) → Step
fetched_words m k zero on = on []
fetched_words m k (suc n) on = fetched m k (λ w. fetched_words m (k + 1) n (λ ws. on (w ∷ ws)))

-- two dwords make an address; request 3: "the address is its low 48 bits", whatever stands above them
unfoldable pub fetched_address : Machine → ℕ → (ℕ → Step) → Step
fetched_address m k on = fetched m k (λ low. fetched m (k + 1) (λ high. on (low + 2 ^ 32 * (high % 2 ^ 16))))

-- the whole word that an address names in a window of words, if it names one
unfoldable pub word_at : ℕ → List ℕ → ℕ → Option ℕ
word_at at words address =
    cond (leb at address && (eqb ((address - at) % 4) 0 && ltb ((address - at) / 4) (length words))) (some ((address - at) / 4)) none

-- which window an address lies in, and at which word, or outside all windows
pub data Place : Type 0 where
  batch_word : ℕ → Place
  state_word : ℕ → Place
  scratch_word : ℕ → Place
  outside : Place

-- the batch is asked first, then the state; where the windows share no byte, at most one of the three has the word
abbrev pub placed : Option ℕ → Option ℕ → Option ℕ → Place
placed (some i) s t = batch_word i
placed none (some i) t = state_word i
placed none none (some i) = scratch_word i
placed none none none = outside

-- "the whole words of the three windows": the place of an address among them
unfoldable pub place_of : Map → Machine → ℕ → Place
place_of map m address =
    placed (word_at map.batch_at m.batch address) (word_at map.state_at m.state address) (word_at map.scratch_at m.scratch address)

-- a word is loaded from any window
abbrev pub load_from : Machine → Place → Option ℕ
load_from m (batch_word i) = get_elem? m.batch i
load_from m (state_word i) = get_elem? m.state i
load_from m (scratch_word i) = get_elem? m.scratch i
load_from m outside = none

-- a word is stored in any window
abbrev pub store_to : Machine → ℕ → Place → Option Machine
store_to m w (batch_word i) = some (machine m.at m.second m.kept m.registers (set m.batch i w) m.state m.scratch)
store_to m w (state_word i) = some (machine m.at m.second m.kept m.registers m.batch (set m.state i w) m.scratch)
store_to m w (scratch_word i) = some (machine m.at m.second m.kept m.registers m.batch m.state (set m.scratch i w))
store_to m w outside = none

-- words are stored one after the other, each at its own address; "an access outside all windows .. stops it as failed"
abbrev pub noting : ℕ → Option Effect → Option Effect
noting address none = none
noting address (some e) = some (record { machine = e.machine; stored = address ∷ e.stored })

-- what is done with the machine after a store, if the store was one
abbrev pub with_machine : Option Machine → (Machine → Option Effect) → Option Effect
with_machine none on = none
with_machine (some m) on = on m

-- "stores its data dwords", "stores a register", "stores 8 bytes": words from an address on
unfoldable pub store_words : Map → Machine → ℕ → List ℕ → Option Effect
store_words map m address [] = some (record { machine = m; stored = [] })
store_words map m address (w ∷ ws) = with_machine (store_to m w (place_of map m address)) (λ n. noting address (store_words map n (address + 4) ws))

-- "All others go on by their length": the machine at the position after a command
abbrev pub onward : ℕ → Machine → Machine
onward n m = machine (m.at + n) m.second m.kept m.registers m.batch m.state m.scratch

-- "Other rows only advance."
abbrev pub advance : ℕ → Machine → Step
advance n m = goes (record { machine = onward n m; stored = [] })

-- a command that stored, and advances; a store that was none fails
abbrev pub stores : ℕ → Option Effect → Step
stores n none = fails
stores n (some e) = goes (record { machine = onward n e.machine; stored = e.stored })

-- a register at an offset
abbrev pub update : (ℕ → ℕ) → ℕ → ℕ → ℕ → ℕ
update registers offset value x = cond (eqb x offset) value (registers x)

-- "registers": the machine with these
abbrev pub with_registers : Machine → (ℕ → ℕ) → Machine
with_registers m registers = machine m.at m.second m.kept registers m.batch m.state m.scratch

-- "Row 3 sets registers": pairs of an offset and a value
unfoldable pub set_pairs : (ℕ → ℕ) → List ℕ → ℕ → ℕ
set_pairs registers [] = registers
set_pairs registers (offset ∷ []) = registers
set_pairs registers (offset ∷ value ∷ rest) = set_pairs (update registers offset value) rest

-- "A batch end at level 0 ends the run; at level 1 it goes to the kept position, level 0"; at level 1 with none kept it fails
abbrev pub returning : Machine → Option ℕ → Step
returning m none = fails
returning m (some back) = goes (record { machine = machine back false m.kept m.registers m.batch m.state m.scratch; stored = [] })

-- "A batch end"
unfoldable pub end_batch : Machine → Step
end_batch m = cond m.second (returning m m.kept) (ends (record { machine = m; stored = [] }))

-- "A start with bit 22 clear goes to its target. With bit 22 set it keeps the position after itself and goes to its target at level 1." An address that
-- names no whole dword of the batch from its start on is a fetch outside.
abbrev pub going_to : Machine → Bool → ℕ → ℕ → Machine
going_to m true next at = machine at true (some next) m.registers m.batch m.state m.scratch
going_to m false next at = machine at m.second m.kept m.registers m.batch m.state m.scratch

-- "A start"
unfoldable pub start_batch : Map → Machine → ℕ → ℕ → ℕ → Step
start_batch map m header next target =
    cond (leb map.batch_at target && eqb ((target - map.batch_at) % 4) 0)
    (goes (record { machine = going_to m (bit header 22) next ((target - map.batch_at) / 4); stored = [] })) fails

-- the two words of "any hardware value for 2 and 3", at the command with a number: they come from outside
abbrev pub Hardware : Type 0
Hardware = ℕ → Pair

-- "row 7 with post-sync stores 8 bytes, dwords 4 and 5 for post-sync 1, any hardware value for 2 and 3"
unfoldable pub pipe : Map → Hardware → ℕ → Machine → ℕ → ℕ → Step
pipe map hardware done m n flags =
    cond (eqb (field flags 15 14) 0) (advance n m)
    (fetched_address m 2 (λ address.
    cond (eqb (field flags 15 14) 1) (fetched_words m 4 2 (λ ws. stores n (store_words map m address ws)))
    (stores n (store_words map m address ((hardware done).low ∷ (hardware done).high ∷ [])))))

-- what a command does, by its row; n is its length, and `done` the number of commands before it
unfoldable pub exec : Map → Hardware → ℕ → Machine → ℕ → ℕ → ℕ → Step
exec map hardware done m header row n =
    cond (eqb row end_row) (end_batch m)
    (cond (eqb row start_row) (fetched_address m 1 (start_batch map m header (m.at + n)))
    -- "Row 3 sets registers"
    (cond (eqb row set_registers_row) (fetched_words m 1 (2 * ((n - 1) / 2)) (λ ws. advance n (with_registers m (set_pairs m.registers ws))))
    -- "row 4 stores its data dwords"
    (cond (eqb row store_row) (fetched_address m 1 (λ address. fetched_words m 3 (n - 3) (λ ws. stores n (store_words map m address ws))))
    -- "row 5 stores a register"
    (cond (eqb row store_register_row) (fetched m 1 (λ offset. fetched_address m 2 (λ address. stores n (store_words map m address (m.registers offset ∷ [])))))
    -- "row 6 loads one"
    (cond (eqb row load_register_row)
    (fetched m 1 (λ offset. fetched_address m 2 (λ address.
    with_word (load_from m (place_of map m address)) (λ w. advance n (with_registers m (update m.registers offset w))))))
    -- row 7
    (cond (eqb row pipe_row) (fetched m 1 (pipe map hardware done m n))
    -- "Other rows only advance."
    (advance n m)))))))

-- one command: "finds row and length by the command table"; "an unknown header stops it as failed"
unfoldable pub step : Map → Hardware → ℕ → Machine → Step
step map hardware done m =
    fetched m 0 (λ header. cond (eqb (row_of header) row_count) fails (exec map hardware done m header (row_of header) (length_of (row_of header) header)))
