-- The checks of the windows, tried in order, as tests one within the other.
-- Assumes nothing.
use Rattle.std.specs.Prelude.{Ok, Err}
use mathlib.Core.Path.{◌≡◌, refl}
use mathlib.Core.Bool.{Bool, true, false, cond}
use mathlib.Core.List.{List}
use lib.ListN.{drop}
use Rattle.rules.specs.Refusals.{Verdict}
use Rattle.rules.specs.declared.Reason.{Reason}
use Rattle.rules.specs.declared.Reason.TheVariants.{WrongCounts, AddressUnaligned, EndsTooHigh, WindowsShare}
use Rattle.rules.specs.Words.{some, some_two}
use Rattle.rules.specs.Refusals.{batch_window, fault, refuse_if, tried}
use Rattle.rules.specs.Windows.{Lengths, listed, window_limit, counts_wrong, unaligned, ends_too_high, share_byte, window_checks, window_fault}
use Rattle.rules.proofs.Trying.{stays_failed}

abbrev pub refusal : Reason → Verdict
refusal reason = Err (fault reason batch_window 0)

-- a check that refuses under a test, tried before others
refuses_first : {A : Type 0} (given : Bool) (reason : Reason) (checks : List (A → Verdict)) (a : A) {rest : Verdict}
    → tried checks (Ok tt) a ≡ rest
    → tried checks (refuse_if given (fault reason batch_window 0)) a ≡ cond given (refusal reason) rest
refuses_first true reason checks a e = stays_failed checks _ a
refuses_first false reason checks a e = e

pub in_order_lem : (l : Lengths)
    → window_fault l
    ≡ cond (counts_wrong window_limit l.batch l.state) (refusal WrongCounts)
    (cond (some unaligned (listed l.windows)) (refusal AddressUnaligned)
    (cond (some ends_too_high (listed l.windows)) (refusal EndsTooHigh)
    (cond (some_two share_byte (listed l.windows)) (refusal WindowsShare) (Ok tt))))
unfolding tried window_checks window_fault
in_order_lem l =
    refuses_first (counts_wrong window_limit l.batch l.state) WrongCounts (drop 1 window_checks) l
    (refuses_first (some unaligned (listed l.windows)) AddressUnaligned (drop 2 window_checks) l
    (refuses_first (some ends_too_high (listed l.windows)) EndsTooHigh (drop 3 window_checks) l
    (refuses_first (some_two share_byte (listed l.windows)) WindowsShare (drop 4 window_checks) l refl)))
