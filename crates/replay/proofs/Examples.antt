-- Small runs of the streamer, computed: five tables in the words of proofs/Outcomes. The theorem of each says that no example of it comes out otherwise.
-- Assumes nothing.
use mathlib.Core.Path.{◌≡◌, refl}
use mathlib.Core.Bool.{true}
use mathlib.Core.List.{List, [], ◌∷◌}
use mathlib.Core.Option.{some, none}
use Rattle.replay.proofs.Outcomes.{Ends, Fails, GoesOn, batch_window, state_window, in_scratch, register, Example, example, from, quiet, stored, failing}

-- how it moves: ends, starts, and rows that only advance
pub moving : List Example
moving =
    -- an end alone, and no sooner or later than after one command
    example 1 (0x05000000 ∷ []) Ends (quiet 0x01010000 ∷ []) []
    ∷ example 2 (0x05000000 ∷ []) GoesOn [] []
    ∷ example 3 (0 ∷ 0x05000000 ∷ []) GoesOn (quiet 0x00010000 ∷ []) []
    -- rows that only advance, by one dword and by two
    ∷ example 4 (0x69040000 ∷ 0x05000000 ∷ []) Ends (quiet 0x08010000 ∷ quiet 0x01010001 ∷ []) []
    ∷ example 5 (0x78230000 ∷ 0x40000000 ∷ 0x05000000 ∷ []) Ends (quiet 0x0E020000 ∷ quiet 0x01010002 ∷ []) []
    -- a jump over a word that is no header; a jump to itself goes on
    ∷ example 6 (0x18800101 ∷ 0x1010 ∷ 0 ∷ 0x40000000 ∷ 0x05000000 ∷ []) Ends (quiet 0x02030000 ∷ quiet 0x01010004 ∷ []) []
    ∷ example 7 (0x18800101 ∷ 0x1000 ∷ 0 ∷ []) GoesOn (quiet 0x02030000 ∷ quiet 0x02030000 ∷ quiet 0x02030000 ∷ []) []
    -- a call: the start, the end at level 1, the end at level 0; and one with another length, which keeps the position after that
    ∷ example 8 (0x18C00101 ∷ 0x1010 ∷ 0 ∷ 0x05000000 ∷ 0x05000000 ∷ []) Ends (quiet 0x02030000 ∷ quiet 0x01011004 ∷ quiet 0x01010003 ∷ []) []
    ∷ example 9 (0x18C00102 ∷ 0x1014 ∷ 0 ∷ 0x40000000 ∷ 0x05000000 ∷ 0x05000000 ∷ []) Ends
    (quiet 0x02040000 ∷ quiet 0x01011005 ∷ quiet 0x01010004 ∷ []) []
    -- at level 1: an end goes to what was kept at the start; a call overwrites it; a jump, and every other command, stays at level 1 and leaves it
    ∷ from true (some 1) (example 10 (0x05000000 ∷ 0x05000000 ∷ []) Ends (quiet 0x01011000 ∷ quiet 0x01010001 ∷ []) [])
    ∷ from true (some 9)
    (example 11 (0x18C00101 ∷ 0x1010 ∷ 0 ∷ 0x05000000 ∷ 0x05000000 ∷ []) Ends (quiet 0x02031000 ∷ quiet 0x01011004 ∷ quiet 0x01010003 ∷ []) [])
    ∷ from true (some 4)
    (example 12 (0x18800101 ∷ 0x1014 ∷ 0 ∷ 0x40000000 ∷ 0x05000000 ∷ 0x05000000 ∷ []) Ends
    (quiet 0x02031000 ∷ quiet 0x01011005 ∷ quiet 0x01010004 ∷ []) [])
    ∷ from true (some 9)
    (example 13 (0x11000001 ∷ 0x2600 ∷ 7 ∷ 0x10000002 ∷ 0x3000 ∷ 0 ∷ 77 ∷ 0 ∷ 0x05000000 ∷ 0x05000000 ∷ []) Ends
    (quiet 0x03031000 ∷ stored 0x04041003 (0x3000 ∷ []) ∷ quiet 0x00011007 ∷ quiet 0x01011008 ∷ quiet 0x01010009 ∷ [])
    (register 0x2600 7 ∷ in_scratch 0 77 ∷ []))
    ∷ []

-- what it stores: data dwords, registers, post-sync
pub storing : List Example
storing =
    -- two data dwords in scratch, one in the state window; a register in the batch
    example 14 (0x10200003 ∷ 0x3008 ∷ 0 ∷ 77 ∷ 78 ∷ 0x05000000 ∷ []) Ends
    (stored 0x04050000 (0x3008 ∷ 0x300C ∷ []) ∷ quiet 0x01010005 ∷ []) (in_scratch 2 77 ∷ in_scratch 3 78 ∷ [])
    ∷ example 15 (0x10000002 ∷ 0x2004 ∷ 7 ∷ 77 ∷ 0x05000000 ∷ []) Ends (stored 0x04040000 (0x700002004 ∷ []) ∷ quiet 0x01010004 ∷ []) (state_window 1 77 ∷ [])
    ∷ example 16 (0x12000002 ∷ 0x2600 ∷ 0x1014 ∷ 0 ∷ 0x05000000 ∷ 0 ∷ []) Ends
    (stored 0x05040000 (0x1014 ∷ []) ∷ quiet 0x01010004 ∷ []) (batch_window 5 0x2601 ∷ [])
    -- a batch that overwrites its own next command, a word that is no header, by an end: the streamer runs what then stands there
    ∷ example 17 (0x10000002 ∷ 0x1010 ∷ 0 ∷ 0x05000000 ∷ 0x40000000 ∷ []) Ends
    (stored 0x04040000 (0x1010 ∷ []) ∷ quiet 0x01010004 ∷ []) (batch_window 4 0x05000000 ∷ [])
    -- post-sync 0 stores nothing, 1 its own dwords, 2 and 3 what the hardware gives at that command
    ∷ example 18 (0x7A000004 ∷ 0 ∷ 0 ∷ 0 ∷ 0 ∷ 0 ∷ 0x05000000 ∷ []) Ends (quiet 0x07060000 ∷ quiet 0x01010006 ∷ []) []
    ∷ example 19 (0x7A000004 ∷ 0x4000 ∷ 0x3008 ∷ 0 ∷ 5 ∷ 6 ∷ 0x05000000 ∷ []) Ends
    (stored 0x07060000 (0x3008 ∷ 0x300C ∷ []) ∷ quiet 0x01010006 ∷ []) (in_scratch 2 5 ∷ in_scratch 3 6 ∷ [])
    ∷ example 20 (0x7A000004 ∷ 0x4000 ∷ 0x2000 ∷ 7 ∷ 5 ∷ 6 ∷ 0x05000000 ∷ []) Ends
    (stored 0x07060000 (0x700002000 ∷ 0x700002004 ∷ []) ∷ quiet 0x01010006 ∷ []) (state_window 0 5 ∷ state_window 1 6 ∷ [])
    ∷ example 21 (0x7A000004 ∷ 0x8000 ∷ 0x3000 ∷ 0 ∷ 0 ∷ 0 ∷ 0x05000000 ∷ []) Ends
    (stored 0x07060000 (0x3000 ∷ 0x3004 ∷ []) ∷ quiet 0x01010006 ∷ []) (in_scratch 0 0xAAAA0000 ∷ in_scratch 1 0xBBBB0000 ∷ [])
    ∷ example 22 (0 ∷ 0x7A000004 ∷ 0xC000 ∷ 0x3000 ∷ 0 ∷ 0 ∷ 0 ∷ 0x05000000 ∷ []) Ends
    (quiet 0x00010000 ∷ stored 0x07060001 (0x3000 ∷ 0x3004 ∷ []) ∷ quiet 0x01010007 ∷ []) (in_scratch 0 0xAAAA0001 ∷ in_scratch 1 0xBBBB0001 ∷ [])
    ∷ []

-- how registers are set: by pairs, and by loads
pub setting_registers : List Example
setting_registers =
    -- a register set, stored and loaded back into another, which is stored: 99 at 3000h, then at 3004h
    example 23
    (0x11000001 ∷ 0x2600 ∷ 99 ∷ 0x12000002 ∷ 0x2600 ∷ 0x3000 ∷ 0 ∷ 0x14800002 ∷ 0x2604 ∷ 0x3000 ∷ 0 ∷ 0x12000002 ∷ 0x2604 ∷ 0x3004 ∷ 0 ∷ 0x05000000 ∷ []) Ends
    (quiet 0x03030000 ∷ stored 0x05040003 (0x3000 ∷ []) ∷ quiet 0x06040007 ∷ stored 0x0504000B (0x3004 ∷ []) ∷ quiet 0x0101000F ∷ [])
    (register 0x2600 99 ∷ register 0x2604 99 ∷ in_scratch 0 99 ∷ in_scratch 1 99 ∷ [])
    -- a register that was never set holds what it held: offset 2608h, so 2609h; loaded from the state window's second word
    ∷ example 24 (0x12000002 ∷ 0x2608 ∷ 0x3000 ∷ 0 ∷ 0x14800002 ∷ 0x2608 ∷ 0x2004 ∷ 7 ∷ 0x12000002 ∷ 0x2608 ∷ 0x300C ∷ 0 ∷ 0x05000000 ∷ []) Ends
    (stored 0x05040000 (0x3000 ∷ []) ∷ quiet 0x06040004 ∷ stored 0x05040008 (0x300C ∷ []) ∷ quiet 0x0101000C ∷ [])
    (in_scratch 0 0x2609 ∷ register 0x2608 0x52 ∷ in_scratch 3 0x52 ∷ [])
    -- two pairs; three, of which two name one register; a pair and an odd dword, which sets nothing
    ∷ example 25 (0x11000003 ∷ 0x2600 ∷ 7 ∷ 0x2604 ∷ 8 ∷ 0x05000000 ∷ []) Ends
    (quiet 0x03050000 ∷ quiet 0x01010005 ∷ []) (register 0x2600 7 ∷ register 0x2604 8 ∷ [])
    ∷ example 26 (0x11000005 ∷ 0x2600 ∷ 7 ∷ 0x2604 ∷ 8 ∷ 0x2600 ∷ 9 ∷ 0x05000000 ∷ []) Ends
    (quiet 0x03070000 ∷ quiet 0x01010007 ∷ []) (register 0x2600 9 ∷ register 0x2604 8 ∷ [])
    ∷ example 27 (0x11000002 ∷ 0x2600 ∷ 7 ∷ 0x2604 ∷ 0x05000000 ∷ []) Ends (quiet 0x03040000 ∷ quiet 0x01010004 ∷ []) (register 0x2600 7 ∷ [])
    -- a load from each window: the command's own header, the state's first word, the last of scratch
    ∷ example 28 (0x14800002 ∷ 0x2600 ∷ 0x1000 ∷ 0 ∷ 0x05000000 ∷ []) Ends (quiet 0x06040000 ∷ quiet 0x01010004 ∷ []) (register 0x2600 0x14800002 ∷ [])
    ∷ example 29 (0x14800002 ∷ 0x2604 ∷ 0x2000 ∷ 7 ∷ 0x05000000 ∷ []) Ends (quiet 0x06040000 ∷ quiet 0x01010004 ∷ []) (register 0x2604 0x51 ∷ [])
    ∷ example 30 (0x14800002 ∷ 0x2608 ∷ 0x300C ∷ 0 ∷ 0x05000000 ∷ []) Ends (quiet 0x06040000 ∷ quiet 0x01010004 ∷ []) (register 0x2608 13 ∷ [])
    ∷ []

-- how it fails at a fetch outside the batch
pub fetching_outside : List Example
fetching_outside =
    -- a header past the batch's end: behind a command, behind a jump, by the high dword of a jump, at the position that was kept
    example 31 (0 ∷ []) Fails (quiet 0x00010000 ∷ []) []
    ∷ example 32 (0x18800101 ∷ 0x1010 ∷ 0 ∷ 0x05000000 ∷ []) Fails (quiet 0x02030000 ∷ []) []
    ∷ example 33 (0x18800101 ∷ 0x100C ∷ 1 ∷ 0x05000000 ∷ []) Fails (quiet 0x02030000 ∷ []) []
    ∷ from true (some 7) (example 34 (0x05000000 ∷ []) Fails (quiet 0x01011000 ∷ []) [])
    -- the last operand of rows 2 to 6; of row 7 its dword 1, with post-sync its address, with post-sync 1 its data dwords
    ∷ example 35 (0x18800101 ∷ 0x1000 ∷ []) Fails [] []
    ∷ example 36 (0x11000003 ∷ 0x2600 ∷ 7 ∷ 0x2604 ∷ []) Fails [] []
    ∷ example 37 (0x10200003 ∷ 0x3000 ∷ 0 ∷ 1 ∷ []) Fails [] []
    ∷ example 38 (0x12000002 ∷ 0x2600 ∷ 0x3000 ∷ []) Fails [] []
    ∷ example 39 (0x14800002 ∷ 0x2600 ∷ 0x3000 ∷ []) Fails [] []
    ∷ example 40 (0x7A000004 ∷ []) Fails [] []
    ∷ example 41 (0x7A000004 ∷ 0x8000 ∷ 0x3000 ∷ []) Fails [] []
    ∷ example 42 (0x7A000004 ∷ 0x4000 ∷ 0x3000 ∷ 0 ∷ 5 ∷ []) Fails [] []
    -- what is not used is not fetched: without post-sync the address, with post-sync 2 the data dwords, of row 3 an odd dword, of other rows anything; only
    -- the next header fails
    ∷ example 43 (0x7A000004 ∷ 0 ∷ []) Fails (quiet 0x07060000 ∷ []) []
    ∷ example 44 (0x7A000004 ∷ 0x8000 ∷ 0x3000 ∷ 0 ∷ []) Fails
    (stored 0x07060000 (0x3000 ∷ 0x3004 ∷ []) ∷ []) (in_scratch 0 0xAAAA0000 ∷ in_scratch 1 0xBBBB0000 ∷ [])
    ∷ example 45 (0x11000002 ∷ 0x2600 ∷ 7 ∷ []) Fails (quiet 0x03040000 ∷ []) (register 0x2600 7 ∷ [])
    ∷ example 46 (0x78230000 ∷ []) Fails (quiet 0x0E020000 ∷ []) []
    ∷ []

-- how it fails else: an end stands behind each, and is not come to
pub other_failures : List Example
other_failures =
    -- an unknown header, first of all and after a good command
    example 47 (0x40000000 ∷ 0x05000000 ∷ []) Fails [] []
    ∷ example 48 (0 ∷ 0x40000000 ∷ 0x05000000 ∷ []) Fails (quiet 0x00010000 ∷ []) []
    -- outside all windows: a data dword, a register behind the state window, a load behind scratch, an address whose high dword leads there
    ∷ example 49 (0x10000002 ∷ 0x4000 ∷ 0 ∷ 1 ∷ 0x05000000 ∷ []) Fails [] []
    ∷ example 50 (0x12000002 ∷ 0x2600 ∷ 0x2008 ∷ 7 ∷ 0x05000000 ∷ []) Fails [] []
    ∷ example 51 (0x14800002 ∷ 0x2600 ∷ 0x3010 ∷ 0 ∷ 0x05000000 ∷ []) Fails [] []
    ∷ example 52 (0x10000002 ∷ 0x3000 ∷ 1 ∷ 77 ∷ 0x05000000 ∷ []) Fails [] []
    -- no whole word: a store, a load
    ∷ example 53 (0x10000002 ∷ 0x3002 ∷ 0 ∷ 1 ∷ 0x05000000 ∷ []) Fails [] []
    ∷ example 54 (0x14800002 ∷ 0x2600 ∷ 0x3001 ∷ 0 ∷ 0x05000000 ∷ []) Fails [] []
    -- eight bytes whose second word lies outside: of row 4, of row 7
    ∷ example 55 (0x10200003 ∷ 0x300C ∷ 0 ∷ 1 ∷ 2 ∷ 0x05000000 ∷ []) Fails [] []
    ∷ example 56 (0x7A000004 ∷ 0x4000 ∷ 0x300C ∷ 0 ∷ 5 ∷ 6 ∷ 0x05000000 ∷ []) Fails [] []
    -- a start to no whole dword, and to one below the batch; an end at level 1 with nothing kept
    ∷ example 57 (0x18800101 ∷ 0x1012 ∷ 0 ∷ 0x05000000 ∷ 0x05000000 ∷ []) Fails [] []
    ∷ example 58 (0x18800101 ∷ 0x0FFC ∷ 0 ∷ 0x05000000 ∷ []) Fails [] []
    ∷ from true none (example 59 (0x05000000 ∷ 0x05000000 ∷ []) Fails [] [])
    ∷ []

-- every example comes out as it should
pub moving_holds : failing moving ≡ []
unfolding failing moving
moving_holds = refl

pub storing_holds : failing storing ≡ []
unfolding failing storing
storing_holds = refl

pub setting_registers_holds : failing setting_registers ≡ []
unfolding failing setting_registers
setting_registers_holds = refl

pub fetching_outside_holds : failing fetching_outside ≡ []
unfolding failing fetching_outside
fetching_outside_holds = refl

pub other_failures_hold : failing other_failures ≡ []
unfolding failing other_failures
other_failures_hold = refl
