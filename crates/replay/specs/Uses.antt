-- What a command of the streamer is made of: the dwords that it uses, the words that it stores, and all that can stop it as failed. The streamer is not
-- defined by this; the laws of proofs/Words, proofs/Failing and proofs/Doing are stated in these words.
use Rattle.std.specs.Prelude.{ℕ, zero, suc, ◌+◌, ◌-◌, ◌*◌, ◌/◌, ◌%◌, ◌^◌, ◌≤◌, ◌<◌, ◌≡◌, true, cond, List, [], ◌∷◌, ◌⊎◌, length, get_or, eqb}
use Rattle.std.proofs.Math.Option.{none}
use Rattle.rules.specs.Words.{field}
use Rattle.rules.specs.Commands.{noop_row, end_row, start_row, store_row, store_register_row, load_register_row, pipe_row, row_count}
use Rattle.replay.specs.Streamer.{Map, Machine, Hardware, Place, batch_word, state_word, scratch_word, outside, place_of}
use Rattle.replay.specs.Runs.{fetched_command}

-- "finds row and length by the command table": those of the command at the position
abbrev pub row : Machine → ℕ
row m = (fetched_command m).row

-- its length
abbrev pub total : Machine → ℕ
total m = (fetched_command m).length

-- "from the batch words as they then stand": its dword k, where there is one
abbrev pub dword : Machine → ℕ → ℕ
dword m k = get_or m.batch (m.at + k) 0

-- its n dwords from the dword k on
unfoldable pub dwords : Machine → ℕ → ℕ → List ℕ
dwords m k zero = []
dwords m k (suc n) = dword m k ∷ dwords m (k + 1) n

-- "An address takes two dwords", "the address is its low 48 bits"
abbrev pub address : Machine → ℕ → ℕ
address m k = dword m k + 2 ^ 32 * (dword m (k + 1) % 2 ^ 16)

-- "post-sync is dword 1 bits 15:14"
abbrev pub post_sync : Machine → ℕ
post_sync m = field (dword m 1) 15 14

-- "Row 3 sets registers": the whole pairs that its length holds
abbrev pub pairs : Machine → ℕ
pairs m = (total m - 1) / 2

-- the rows that store: "row 4 stores its data dwords; row 5 stores a register; .. row 7 with post-sync stores 8 bytes"
abbrev pub StoringRow : ℕ → Type 0
StoringRow r = (r ≡ store_row) ⊎ (r ≡ store_register_row) ⊎ (r ≡ pipe_row)

-- "Other rows only advance.": all but 1 to 7
abbrev pub OtherRow : ℕ → Type 0
OtherRow r = (r ≡ noop_row) ⊎ (pipe_row < r)

-- how many dwords behind its header the streamer uses, by row
abbrev pub operands_by_row : Machine → List ℕ
operands_by_row m =
    0 ∷ 0
    -- 2: an address
    ∷ 2
    -- 3: an offset and a value for each pair
    ∷ (2 * pairs m)
    -- 4: an address, and the data dwords that its length holds
    ∷ (2 + (total m - 3))
    -- 5 and 6: a register's offset, and an address
    ∷ 3 ∷ 3
    -- 7: dword 1; with post-sync an address; with post-sync 1 two data dwords
    ∷ cond (eqb (post_sync m) 0) 1 (cond (eqb (post_sync m) 1) 5 3)
    ∷ []

-- they are its dwords 1 to this number; other rows use none
unfoldable pub operands : Machine → ℕ
operands m = get_or (operands_by_row m) (row m) 0

-- the words that it stores, by row, with `done` commands before it
abbrev pub stored_by_row : Hardware → ℕ → Machine → List (List ℕ)
stored_by_row hardware done m =
    [] ∷ [] ∷ [] ∷ []
    -- "row 4 stores its data dwords"
    ∷ dwords m 3 (total m - 3)
    -- "row 5 stores a register"
    ∷ (m.registers (dword m 1) ∷ [])
    ∷ []
    -- "row 7 with post-sync stores 8 bytes, dwords 4 and 5 for post-sync 1, any hardware value for 2 and 3"
    ∷ cond (eqb (post_sync m) 0) [] (cond (eqb (post_sync m) 1) (dword m 4 ∷ dword m 5 ∷ []) ((hardware done).low ∷ (hardware done).high ∷ []))
    ∷ []

-- the words that the command at the position stores; other rows store none
unfoldable pub to_store : Hardware → ℕ → Machine → List ℕ
to_store hardware done m = get_or (stored_by_row hardware done m) (row m) []

-- where the first of them goes: the address of row 4 stands in its dwords 1 and 2, that of rows 5 and 7 in 2 and 3
unfoldable pub stores_at : Machine → ℕ
stores_at m = address m (cond (eqb (row m) store_row) 1 2)

-- n words from an address on: the address of each
unfoldable pub addresses_from : ℕ → ℕ → List ℕ
addresses_from a zero = []
addresses_from a (suc n) = a ∷ addresses_from (a + 4) n

-- "the whole words of the three windows": a place that is one of the machine's words
abbrev pub Has : Machine → Place → Type 0
Has m (batch_word i) = i < length m.batch
Has m (state_word i) = i < length m.state
Has m (scratch_word i) = i < length m.scratch
Has m outside = ⊥

-- its address
abbrev pub address_of : Map → Place → ℕ
address_of map (batch_word i) = map.batch_at + 4 * i
address_of map (state_word i) = map.state_at + 4 * i
address_of map (scratch_word i) = map.scratch_at + 4 * i
address_of map outside = 0

-- a command that is whole: its header is in the table, and every dword of it that is used lies in the batch
pub record Whole (m : Machine) : Type 0 where
  pub known : row m ≡ row_count → ⊥
  pub inside : m.at + operands m < length m.batch

-- "a fetch outside the batch, an access outside all windows or an unknown header stops it as failed": what stops the command at the position
pub data Failure (map : Map) (hardware : Hardware) (done : ℕ) (m : Machine) : Type 0 where
  -- its header, or another dword of it that is used, lies outside the batch
  fetch_outside : (k : ℕ) → k ≤ operands m → length m.batch ≤ m.at + k → Failure map hardware done m
  unknown_header : row m ≡ row_count → Failure map hardware done m
  -- a word that it stores, or the word that row 6 loads, lies outside all windows
  store_outside : (i : ℕ) → i < length (to_store hardware done m) → place_of map m (stores_at m + 4 * i) ≡ outside → Failure map hardware done m
  load_outside : row m ≡ load_register_row → place_of map m (address m 2) ≡ outside → Failure map hardware done m
  -- a start's target is no dword from the batch's address on: it lies below, or is no whole dword
  start_nowhere : row m ≡ start_row → ((i : ℕ) → address m 1 ≡ map.batch_at + 4 * i → ⊥) → Failure map hardware done m
  -- "at level 1 it goes to the kept position", and there is none
  nothing_kept : row m ≡ end_row → m.second ≡ true → m.kept ≡ none → Failure map hardware done m
