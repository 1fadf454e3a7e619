-- What the plain engine's functions answer: a fault as one number.
use Rattle.std.specs.Prelude.{Result, Ok, Err, ℕ, zero, suc, ◌+◌, ◌-◌, ◌*◌, ◌%◌, ◌≤◌, ◌<◌, ◌≡◌, Bool, true, false, cond, not, ◌&&◌, ◌||◌, List, length, get_or, take, ltb, eqb}
use Rattle.rules.specs.declared.Windows.{Windows}
use Rattle.rules.specs.declared.Level.{Level}
use Rattle.rules.specs.declared.Level.TheVariants.{First}
use Rattle.rules.specs.Refusals.{Verdict}
use Rattle.rules.specs.declared.Reason.{Reason}
use Rattle.rules.specs.declared.Reason.TheVariants.{WrongLength, PastTheWindow, BitNotAllowed, ValueBroken, RangeOutside}
use Rattle.rules.specs.Words.{first_from}
use Rattle.rules.specs.Refusals.{batch_window, number_of, fault, refuse_if, refuse_found}
use Rattle.rules.specs.Windows.{window}
use Rattle.rules.specs.Commands.{store_register_row, groups, field_right, length_of, length_right}
use Rattle.rules.specs.Masks.{bit_wrong}
use Rattle.rules.specs.Values.{value_wrong}
use Rattle.rules.specs.Addresses.{range_wrong}
use Rattle.rules.specs.Step.{nested}
use Rattle.looks.specs.Looks.{or_else, content_of}
use Rattle.plain_shared.specs.declared.wrong.Wrong.{Wrong}

-- what a row's function answers, as one number: 0 where nothing is wrong
abbrev pub as_number : Result Unit Wrong → ℕ
as_number (Ok t) = 0
as_number (Err e) = e.code

-- a verdict whose place counts from the command's header, as such a number: the refusal's number * 256 + the dword's number, and 0 for none
unfoldable pub coded : Verdict → ℕ
coded (Ok _) = 0
coded (Err f) = 256 * number_of f.reason + f.index

-- the same, of the first of the n dwords from k on that the test finds
abbrev pub first_coded : Reason → (ℕ → Bool) → ℕ → ℕ → ℕ
first_coded reason bad k n = coded (refuse_found reason batch_window 0 (first_from bad k n))

-- 8 and 9 of the command that comes first, and 10 to 13 of its dwords
unfoldable pub wrong_of : Windows → ℕ → List ℕ → Level → ℕ
wrong_of w r rest level =
    coded (or_else (refuse_if (not (length_right r (get_or rest 0 0))) (fault WrongLength batch_window 0))
    (or_else (refuse_if (ltb (length rest) (length_of r (get_or rest 0 0))) (fault PastTheWindow batch_window 0))
    (content_of w r (take (length_of r (get_or rest 0 0)) rest) 0 level)))

-- 8, 9 and 10 at a header: whether its field is right, whether the command goes past the window, whether the header is one of the table's
unfoldable pub head_of : Bool → Bool → Bool → ℕ
head_of right past kept = cond right (cond past (256 * 9) (cond kept 0 (256 * 10))) (256 * 8)

-- of a command whose header is not the table's: by its field, the row's being f
abbrev pub other_header : List ℕ → ℕ → ℕ
other_header rest f = head_of (eqb (get_or rest 0 0 % 256) f) (ltb (length rest) (f + 2)) false

-- of a row with one length whose header has no free bits: it is this one
unfoldable pub whole_header : List ℕ → ℕ → ℕ
whole_header rest header =
    head_of (eqb (get_or rest 0 0 % 256) (header % 256)) (ltb (length rest) (header % 256 + 2)) (eqb (get_or rest 0 0) header)

-- of a row of groups, `most` at most: its header is this key and its field
unfoldable pub groups_header : List ℕ → ℕ → ℕ → ℕ → ℕ
groups_header rest key size most =
    head_of (field_right (groups most) size (get_or rest 0 0)) (ltb (length rest) (get_or rest 0 0 % 256 + 2))
    (eqb (get_or rest 0 0 - get_or rest 0 0 % 256) key)

-- one answer, and where it says nothing another
unfoldable pub or_then : ℕ → ℕ → ℕ
or_then zero later = later
or_then (suc n) later = suc n

-- windows without a byte: a row that uses no address has the same faults with any windows
abbrev pub no_windows : Windows
no_windows = record { batch = window 0 0; state = window 0 0; scratch = window 0 0 }

-- 8 to 10 and 12, of a row that uses no address and is no start
abbrev pub bare_of : ℕ → List ℕ → ℕ
bare_of r rest = wrong_of no_windows r rest First

-- 8 to 10 and 12 of row 5, and of row 6, "as row 5", by their header
unfoldable pub register_of : List ℕ → ℕ → ℕ
register_of d header =
    or_then (whole_header d header)
    (coded (or_else (refuse_found BitNotAllowed batch_window 0 (first_from (bit_wrong store_register_row d) 1 3))
    (refuse_found ValueBroken batch_window 0 (first_from (value_wrong store_register_row d) 1 3))))

-- the first fault that one check finds in the n dwords from k on, by the check's reason: 10, 12, and 13 for any other
unfoldable pub first_by : Windows → ℕ → List ℕ → Reason → ℕ → ℕ → ℕ
first_by w r d BitNotAllowed k n = first_coded BitNotAllowed (bit_wrong r d) k n
first_by w r d ValueBroken k n = first_coded ValueBroken (value_wrong r d) k n
first_by w r d other k n = first_coded RangeOutside (range_wrong w r d) k n

-- the test finds none of the n numbers from k on: `first_from` as a yes or no
unfoldable pub free_from : (ℕ → Bool) → ℕ → ℕ → Bool
free_from bad k zero = true
free_from bad k (suc n) = not (bad k) && free_from bad (k + 1) n

-- something is wrong with the dword k: 10, 12 or 13
unfoldable pub faulty : Windows → ℕ → List ℕ → ℕ → Bool
faulty w r d k = bit_wrong r d k || (value_wrong r d k || range_wrong w r d k)

-- nothing is wrong with the n dwords from k on
abbrev pub clean_from : Windows → ℕ → List ℕ → ℕ → ℕ → Bool
clean_from w r d k n = free_from (faulty w r d) k n

-- a header and whole groups of `size` dwords
abbrev pub Groups : ℕ → List ℕ → Type 0
Groups size d = (0 < length d) × ((length d - 1) % size ≡ 0)

-- a whole group of `size` dwords starts at k
abbrev pub GroupAt : ℕ → List ℕ → ℕ → Type 0
GroupAt size d k = (1 ≤ k) × (k + size ≤ length d) × ((k - 1) % size ≡ 0)

-- a header in order: no bit, no value and no range is wrong there, and the command is no start in a second-level batch
pub record HeaderRight (w : Windows) (r : ℕ) (d : List ℕ) (level : Level) : Type 0 where
  pub some : 0 < length d
  pub bits : bit_wrong r d 0 ≡ false
  pub value : value_wrong r d 0 ≡ false
  pub range : range_wrong w r d 0 ≡ false
  pub quiet : nested r level ≡ false
