-- Document 01, "State structures", and the blend state of request 1.
use Rattle.std.specs.Prelude.{ℕ, ◌≡◌, Bool, true, false, not, ◌&&◌, ◌||◌, List, [], ◌∷◌, length, get_or, leb, eqb, Float, Ok, Err, Option, Some, None}
use Rattle.std.specs.Float.Ieee.{of_bits, nan_bits, le}
use Rattle.std.specs.Float.{binary32}
use Rattle.rules.specs.declared.Held.{Held}
use Rattle.rules.specs.declared.Held.TheVariants.{InBatch, InState}
use Rattle.rules.specs.declared.Kind.{Kind}
use Rattle.rules.specs.declared.Kind.TheVariants.{Viewport, ColourCalc, Blend}
use Rattle.rules.specs.declared.Reading.{Reading}
use Rattle.rules.specs.declared.Reading.TheVariants.{Depths, Colour, Blending, Unreadable}
use Rattle.rules.specs.Refusals.{Verdict}
use Rattle.rules.specs.declared.Reason.TheVariants.{StructureNowhere, StructureBit, StructureValue}
use Rattle.rules.specs.Words.{allowed, bit, field, first_of, in_group}
use Rattle.rules.specs.Refusals.{batch_window, state_window, fault, refuse_if, refuse_found, first_fault, Told, told}
use Rattle.rules.specs.Windows.{lent, held_at, part_of}
use Rattle.rules.specs.Commands.{any_dword}
use Rattle.rules.specs.Formats.{named_factor, named_function}

-- "2 dwords", "6 dwords. Dword 0 allows ..": how many, and the allowed bits of the leading one and of the group that follows it
pub record Layout : Type 0 where
  pub dwords : ℕ
  pub lead : ℕ
  pub group : List ℕ

-- "CC_VIEWPORT, 2 dwords"; "COLOR_CALC_STATE, 6 dwords. Dword 0 allows FFFF8001h; dword 1 free; 2 to 5 are the blend constant". Request 1:
-- "BLEND_STATE from document 002: one leading dword and eight entries of two dwords, 17 in all. Reserved bits must be zero"
unfoldable pub layout_of : Kind → Layout
layout_of Viewport = record { dwords = 2; lead = any_dword; group = any_dword ∷ [] }
layout_of ColourCalc = record { dwords = 6; lead = 0xFFFF8001; group = any_dword ∷ [] }
layout_of Blend = record { dwords = 17; lead = 0xFFF80000; group = 0xFFFFFFEF ∷ 0xF800001F ∷ [] }

-- "Dword 0 allows ..; dword 1 free": the masks of a structure, that of the leading dword first
abbrev pub structure_masks : Kind → List ℕ
structure_masks kind = (layout_of kind).lead ∷ (layout_of kind).group

-- the allowed bits of the dword k, by its place in its group
unfoldable pub structure_mask : Kind → ℕ → ℕ
structure_mask kind k = get_or (structure_masks kind) (in_group (length (layout_of kind).group) k) 0

-- 16: "structure bit not allowed"
unfoldable pub structure_bit_wrong : Kind → List ℕ → ℕ → Bool
structure_bit_wrong kind d k = not (allowed (get_or d k 0) (structure_mask kind k))

-- "as single-precision values": a dword as one
abbrev pub single : ℕ → Float
single w = of_bits binary32 w

-- "NaN"
abbrev pub is_nan : ℕ → Bool
is_nan w = nan_bits binary32 w

-- "compared as single-precision values, -0 equal to +0"
abbrev pub at_most : ℕ → ℕ → Bool
at_most v w = le (single v) (single w)

-- "Neither is NaN (place: itself) and minimum is at most maximum (place: maximum)", broken at a dword
unfoldable pub depth_wrong : List ℕ → ℕ → Bool
depth_wrong d k = is_nan (get_or d k 0) || (eqb k 1 && not (at_most (get_or d 0 0) (get_or d 1 0)))

-- "2 to 5 are the blend constant, none NaN", broken at a dword
unfoldable pub colour_wrong : List ℕ → ℕ → Bool
colour_wrong d k = leb 2 k && is_nan (get_or d k 0)

-- request 1: "each blend factor" of an entry's first dword is "a named code": the source's and the destination's, of the colour and of alpha
abbrev pub factors_named : ℕ → Bool
factors_named w =
    named_factor (field w 30 26) && (named_factor (field w 25 21) && (named_factor (field w 17 13) && named_factor (field w 12 8)))

-- request 1: "and function": that of the colour and that of alpha, in the same dword
abbrev pub functions_named : ℕ → Bool
functions_named w = named_function (field w 20 18) && named_function (field w 7 5)

-- request 1: "in an entry with blending enabled, each blend factor and function must be a named code in document 000", broken; blending is enabled
-- by bit 31 of the entry's first dword
unfoldable pub entry_wrong : ℕ → Bool
entry_wrong w = bit w 31 && not (factors_named w && functions_named w)

-- the same, broken at a dword: the first of the two of its entry
unfoldable pub blend_wrong : List ℕ → ℕ → Bool
blend_wrong d k = eqb (in_group 2 k) 1 && entry_wrong (get_or d k 0)

-- 17: "structure value rule broken"
unfoldable pub structure_value_wrong : Kind → List ℕ → ℕ → Bool
structure_value_wrong Viewport d k = depth_wrong d k
structure_value_wrong ColourCalc d k = colour_wrong d k
structure_value_wrong Blend d k = blend_wrong d k

-- "read a structure": which one, where it lies, its dwords, and the "pointer dword" of the batch
pub record Asked : Type 0 where
  pub kind : Kind
  pub held : Option Held
  pub dwords : List ℕ
  pub pointer : ℕ

-- "Structures may lie in either lent window": the structure at an address
abbrev pub asked_at : List ℕ → ℕ → List ℕ → ℕ → Kind → ℕ → ℕ → Asked
asked_at batch batch_at state state_at kind address pointer =
    let n : ℕ = (layout_of kind).dwords in
    let held : Option Held = held_at (lent batch_at (length batch)) (lent state_at (length state)) address n in
    record { kind = kind; held = held; dwords = part_of batch state n held; pointer = pointer }

-- "structure in neither lent window"
abbrev pub nowhere : Option Held → Bool
nowhere (Some held) = false
nowhere None = true

-- the place of 16 and 17: "dword in its window"
abbrev pub held_window : Option Held → ℕ
held_window (Some (InBatch i)) = batch_window
held_window (Some (InState i)) = state_window
held_window None = batch_window

-- "dword in its window": the one at which the structure starts there
abbrev pub held_from : Option Held → ℕ
held_from (Some (InBatch i)) = i
held_from (Some (InState i)) = i
held_from None = 0

-- 15: "structure in neither lent window", at the "pointer dword"
unfoldable pub structure_nowhere : Asked → Verdict
structure_nowhere a = refuse_if (nowhere a.held) (fault StructureNowhere batch_window a.pointer)

-- 16, at the first such "dword in its window"
unfoldable pub structure_bit : Asked → Verdict
structure_bit a =
    refuse_found StructureBit (held_window a.held) (held_from a.held)
    (first_of (structure_bit_wrong a.kind a.dwords) (layout_of a.kind).dwords)

-- 17, at the first such "dword in its window"
unfoldable pub structure_value : Asked → Verdict
structure_value a =
    refuse_found StructureValue (held_window a.held) (held_from a.held)
    (first_of (structure_value_wrong a.kind a.dwords) (layout_of a.kind).dwords)

-- "5 to 18 are tried per command in this order": 15, 16, 17
unfoldable pub structure_checks : List (Asked → Verdict)
structure_checks = structure_nowhere ∷ structure_bit ∷ structure_value ∷ []

-- "a depth range with two floats, a colour state with four"; a blend state has none
abbrev pub values_of : Kind → List ℕ → Reading
values_of Viewport d = Depths (single (get_or d 0 0)) (single (get_or d 1 0))
values_of ColourCalc d = Colour (single (get_or d 2 0)) (single (get_or d 3 0)) (single (get_or d 4 0)) (single (get_or d 5 0))
values_of Blend d = Blending

-- "or its refusal"
abbrev pub reading_of : Verdict → Kind → List ℕ → Reading
reading_of (Ok _) kind d = values_of kind d
reading_of (Err f) kind d = Unreadable f

-- "A structure read gives back a depth range with two floats, a colour state with four, or its refusal."
unfoldable pub read_at : List ℕ → ℕ → List ℕ → ℕ → Kind → ℕ → ℕ → Reading
read_at batch batch_at state state_at kind address pointer =
    let a : Asked = asked_at batch batch_at state state_at kind address pointer in
    reading_of (first_fault structure_checks a) kind a.dwords

-- "or its refusal": what each case of a read says of the capture, the refusal with its reason and place
unfoldable pub verdict_of : Reading → Verdict
verdict_of (Depths a b) = Ok tt
verdict_of (Colour r g b a) = Ok tt
verdict_of Blending = Ok tt
verdict_of (Unreadable f) = Err f

-- "with two floats", "with four": the values that each case gives back, and none with a refusal
unfoldable pub floats_of : Reading → List Float
floats_of (Depths least greatest) = least ∷ greatest ∷ []
floats_of (Colour red green blue alpha) = red ∷ green ∷ blue ∷ alpha ∷ []
floats_of Blending = []
floats_of (Unreadable f) = []

-- "a definition gives this paper's number and values for each of the enum's cases"
abbrev pub reading_told : Reading → Told Float
reading_told r = told (verdict_of r) (floats_of r)

-- "Each public call is promised completely". THE PROMISE of `structures::read`: its answer, and what that tells, which is the first fault of 15 to
-- 17 with its place, or else the structure's floats
pub record StructureRead (batch : List ℕ) (batch_at : ℕ) (state : List ℕ) (state_at : ℕ) (kind : Kind) (address pointer : ℕ) (r : Reading) : Type 0 where
  pub answers : r ≡ read_at batch batch_at state state_at kind address pointer
  pub tells :
      let a : Asked = asked_at batch batch_at state state_at kind address pointer in
      reading_told r ≡ told (first_fault structure_checks a) (floats_of (values_of kind a.dwords))
