-- What stands behind a key: an outcome, a number, a dword, a base.
use Rattle.std.specs.Prelude.{ℕ, Option, None, Some, List, ◌++◌}
use Rattle.rules.specs.declared.BaseChoice.{BaseChoice}
use Rattle.rules.specs.declared.BaseChoice.TheVariants.{StateWindow, NoBase}
use Rattle.rules.specs.Printout.{decimal, bytes}
use Rattle.lines.specs.Hexadecimal.{hex_digits}
use Rattle.members.specs.declared.Outcome.{Outcome}
use Rattle.members.specs.declared.Outcome.TheVariants.{Accepted, Refused, Unread, Missing, Unlisted}

unfoldable pub outcome_text : Outcome → List ℕ
outcome_text Accepted = bytes "accepted"
outcome_text Refused = bytes "refused"
outcome_text Unread = bytes "unread"
outcome_text Missing = bytes "missing"
outcome_text Unlisted = bytes "unlisted"

-- a number, or null
unfoldable pub number_text : Option ℕ → List ℕ
number_text (Some n) = decimal n
number_text None = bytes "null"

-- a dword in eight hexadecimal digits, or null
unfoldable pub dword_text : Option ℕ → List ℕ
dword_text (Some n) = bytes "\"" ++ hex_digits 8 n ++ bytes "\""
dword_text None = bytes "null"

-- request 5: the base that the captures were judged by
unfoldable pub base_text : BaseChoice → List ℕ
base_text StateWindow = bytes "state"
base_text NoBase = bytes "none"
