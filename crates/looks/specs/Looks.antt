-- The checks 7 to 13 of the command at a position, as one answer: its row and its length, or its first fault.
use Rattle.std.specs.Prelude.{ℕ, ◌+◌, not, List, length, leb, ltb, Result, Ok, Err}
use Rattle.rules.specs.declared.Windows.{Windows}
use Rattle.rules.specs.declared.Fault.{Fault}
use Rattle.rules.specs.declared.Level.{Level}
use Rattle.rules.specs.Refusals.{Verdict}
use Rattle.rules.specs.declared.Reason.TheVariants.{UnknownHeader, WrongLength, PastTheWindow, BitNotAllowed, NestedStart, ValueBroken, RangeOutside}
use Rattle.rules.specs.Words.{first_of}
use Rattle.rules.specs.Refusals.{batch_window, fault, refuse_if, refuse_found}
use Rattle.rules.specs.Commands.{length_right, row_count}
use Rattle.rules.specs.Masks.{bit_wrong}
use Rattle.rules.specs.Values.{value_wrong}
use Rattle.rules.specs.Addresses.{range_wrong}
use Rattle.rules.specs.Step.{header_at, row_at, length_at, dwords_at, nested}

-- of a command that passes its row and its length, or else the first fault
abbrev pub Look : Type 0
Look = Result (ℕ × ℕ) Fault

-- one verdict, and the next only where it passes
abbrev pub or_else : Verdict → Verdict → Verdict
or_else (Ok _) later = later
or_else (Err f) later = Err f

-- 10 to 13, of a command's dwords
unfoldable pub content_of : Windows → ℕ → List ℕ → ℕ → Level → Verdict
content_of w r d at level =
    or_else (refuse_found BitNotAllowed batch_window at (first_of (bit_wrong r d) (length d)))
    (or_else (refuse_if (nested r level) (fault NestedStart batch_window at))
    (or_else (refuse_found ValueBroken batch_window at (first_of (value_wrong r d) (length d)))
    (refuse_found RangeOutside batch_window at (first_of (range_wrong w r d) (length d)))))

-- 7, 8 and 9, of the command's header, and then 10 to 13, of its dwords
unfoldable pub own_of : Windows → List ℕ → ℕ → Level → Verdict
own_of w batch at level =
    or_else (refuse_if (leb row_count (row_at batch at)) (fault UnknownHeader batch_window at))
    (or_else (refuse_if (not (length_right (row_at batch at) (header_at batch at))) (fault WrongLength batch_window at))
    (or_else (refuse_if (ltb (length batch) (at + length_at batch at)) (fault PastTheWindow batch_window at))
    (content_of w (row_at batch at) (dwords_at batch at) at level)))

-- what passes is told by its row and its length
abbrev pub look_by : Verdict → ℕ → ℕ → Look
look_by (Ok _) r n = Ok (r, n)
look_by (Err f) r n = Err f

unfoldable pub look_of : Windows → List ℕ → ℕ → Level → Look
look_of w batch at level = look_by (own_of w batch at level) (row_at batch at) (length_at batch at)
