-- Document 01, "Windows", and the refusals 1 to 4, which precede the walk.
use Rattle.std.specs.Prelude.{ℕ, ◌+◌, ◌-◌, ◌*◌, ◌/◌, ◌%◌, ◌^◌, ◌≤◌, Bool, cond, not, ◌&&◌, ◌||◌, List, [], ◌∷◌, length, take, drop, leb, ltb, eqb, Option, Some, None}
use Rattle.rules.specs.declared.Window.{Window}
use Rattle.rules.specs.declared.Windows.{Windows}
use Rattle.rules.specs.declared.Within.{Within}
use Rattle.rules.specs.declared.Within.TheVariants.{BatchOnly, ScratchOnly, AnyWindow}
use Rattle.rules.specs.declared.Held.{Held}
use Rattle.rules.specs.declared.Held.TheVariants.{InBatch, InState}
use Rattle.rules.specs.Refusals.{Verdict}
use Rattle.rules.specs.declared.Reason.TheVariants.{WrongCounts, AddressUnaligned, EndsTooHigh, WindowsShare}
use Rattle.rules.specs.Words.{some, some_two}
use Rattle.rules.specs.Refusals.{batch_window, fault, refuse_if, first_fault}

-- "A capture has a batch window .. and a state window .., both lent as 32-bit words and never written, and a scratch window known only by address
-- and byte length"
pub record Capture : Type 0 where
  pub batch : List ℕ
  pub batch_at : ℕ
  pub state : List ℕ
  pub state_at : ℕ
  pub scratch_at : ℕ
  pub scratch_bytes : ℕ

-- "1 to 4,096 dwords", "0 to 4,096 dwords". Request 7: "Raise the batch and state limit of the library from 4,096 to 65,536 dwords, over lent memory"
abbrev pub window_limit : ℕ
window_limit = 65536

-- "known only by address and byte length"
abbrev pub window : ℕ → ℕ → Window
window at bytes = record { at = at; bytes = bytes }

-- "both lent as 32-bit words": where `count` dwords at an address lie
abbrev pub lent : ℕ → ℕ → Window
lent at count = window at (4 * count)

-- "A capture has a batch window .. and a state window .. and a scratch window": where each lies
unfoldable pub windows_of : Capture → Windows
windows_of c = record {
  batch = lent c.batch_at (length c.batch);
  state = lent c.state_at (length c.state);
  scratch = window c.scratch_at c.scratch_bytes;
}

-- "Each address ..; each window ..": the windows, to ask each of them
abbrev pub listed : Windows → List Window
listed w = w.batch ∷ w.state ∷ w.scratch ∷ []

-- the first byte behind a window, "by the exact sum"
abbrev pub end : Window → ℕ
end w = w.at + w.bytes

-- 1: "batch count 0 or over 4,096, or state count over 4,096", by the limit that is given. Request 7: "1 reads with the new limit, save in the capture file's
-- reader, where it keeps 4,096 for both counts"
unfoldable pub counts_wrong : ℕ → ℕ → ℕ → Bool
counts_wrong limit batch state = eqb batch 0 || (ltb limit batch || ltb limit state)

-- "a multiple of 4,096"
abbrev pub page_bytes : ℕ
page_bytes = 4096

-- 2: "Each address is a multiple of 4,096"
abbrev pub unaligned : Window → Bool
unaligned w = not (eqb (w.at % page_bytes) 0)

-- 3: "each window ends at or below 2^48, by the exact sum"
abbrev pub ends_too_high : Window → Bool
ends_too_high w = ltb (2 ^ 48) (end w)

-- 4: "Two windows that hold a byte each must share none"
abbrev pub share_byte : Window → Window → Bool
share_byte v w = (ltb 0 v.bytes && ltb 0 w.bytes) && (ltb v.at (end w) && ltb w.at (end v))

-- "batch count .., state count ..", and where all three windows lie: what the checks 1 to 4 look at
pub record Lengths : Type 0 where
  pub batch : ℕ
  pub state : ℕ
  pub windows : Windows

-- "1 to 4 precede the walk", in this order, with place 0,0
unfoldable pub window_checks : List (Lengths → Verdict)
window_checks =
    (λ l. refuse_if (counts_wrong window_limit l.batch l.state) (fault WrongCounts batch_window 0))
    ∷ (λ l. refuse_if (some unaligned (listed l.windows)) (fault AddressUnaligned batch_window 0))
    ∷ (λ l. refuse_if (some ends_too_high (listed l.windows)) (fault EndsTooHigh batch_window 0))
    ∷ (λ l. refuse_if (some_two share_byte (listed l.windows)) (fault WindowsShare batch_window 0))
    ∷ []

-- "batch count .., state count ..": those of a capture, and where its windows lie
abbrev pub lengths_of : Capture → Lengths
lengths_of c = record { batch = length c.batch; state = length c.state; windows = windows_of c }

-- "1 to 4 precede the walk": the first of them that a capture meets
unfoldable pub window_fault : Lengths → Verdict
window_fault l = first_fault window_checks l

-- "all its bytes lie in one window": in this one
unfoldable pub holds : Window → ℕ → ℕ → Bool
holds w address bytes = leb w.at address && leb (address + bytes) (end w)

-- "all its bytes lie in one window": the same as a statement (proofs/Ranges, `inside`, leads from the test to it)
pub record Inside (w : Window) (address bytes : ℕ) : Type 0 where
  pub low : w.at ≤ address
  pub high : address + bytes ≤ end w

-- "in the batch window", "in scratch", "in any window": the windows that an address rule names
unfoldable pub windows_within : Within → Windows → List Window
windows_within BatchOnly w = w.batch ∷ []
windows_within ScratchOnly w = w.scratch ∷ []
windows_within AnyWindow w = listed w

-- "A range fits if all its bytes lie in one window", of those that its rule names
unfoldable pub fits : Windows → Within → ℕ → ℕ → Bool
fits w allowed address bytes = some (λ v. holds v address bytes) (windows_within allowed w)

-- "the structure's own dwords": n dwords at an address that is a whole dword of the window
unfoldable pub holds_dwords : Window → ℕ → ℕ → Bool
holds_dwords w address n = holds w address (4 * n) && eqb ((address - w.at) % 4) 0

-- "dword in its window": which dword an address names
abbrev pub dword_of : Window → ℕ → ℕ
dword_of w address = (address - w.at) / 4

-- "Structures may lie in either lent window": which of the two holds n dwords at an address, and at which dword; the batch is asked first
unfoldable pub held_at : Window → Window → ℕ → ℕ → Option Held
held_at batch state address n =
    cond (holds_dwords batch address n) (Some (InBatch (dword_of batch address)))
    (cond (holds_dwords state address n) (Some (InState (dword_of state address))) None)

-- "the lookup returns the structure's own dwords as a part of whichever of the two lent windows holds them, or an empty part if neither does"
unfoldable pub part_of : List ℕ → List ℕ → ℕ → Option Held → List ℕ
part_of batch state n (Some (InBatch i)) = take n (drop i batch)
part_of batch state n (Some (InState i)) = take n (drop i state)
part_of batch state n None = []
