-- What the programs share of a run over files: the letters of the word that says how it is to go, and the line that tells a status.
use Rattle.std.specs.Prelude.{ℕ, ◌+◌, min, Bool, true, false, cond, List, [], ◌∷◌, ◌++◌, eqb}
use Rattle.rules.specs.declared.BaseChoice.{BaseChoice}
use Rattle.rules.specs.declared.BaseChoice.TheVariants.{StateWindow, NoBase}
use Rattle.rules.specs.Printout.{bytes}
use Rattle.reports.specs.declared.Status.{Status}
use Rattle.reports.specs.declared.Status.TheVariants.{Accepted, Refused, Unread}

-- whether a letter stands in a word
unfoldable pub has_letter : List ℕ → ℕ → Bool
has_letter [] letter = false
has_letter (byte ∷ rest) letter = cond (eqb byte letter) true (has_letter rest letter)

-- the base that captures are judged by: none where the word has the letter n, and else the default of request 5
unfoldable pub base_choice : List ℕ → BaseChoice
base_choice word = cond (has_letter word 0x6E) NoBase StateWindow

-- the number of a status: the worse is the greater
unfoldable pub number_of : Status → ℕ
number_of Accepted = 0
number_of Refused = 1
number_of Unread = 2

-- "status ", the number 0, 1 or 2, and a line feed
unfoldable pub status_line : ℕ → List ℕ
status_line status = bytes "status " ++ ((48 + min status 2) ∷ bytes "\n")
