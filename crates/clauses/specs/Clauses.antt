-- The parts of a line, as audit and compose put them together: how far a walk came, what happened, why a file was not read, and the base.
use Rattle.std.specs.Prelude.{ℕ, Bool, true, false, cond, List, [], ◌++◌, eqb, ltb}
use Rattle.rules.specs.declared.Answer.{Answer}
use Rattle.rules.specs.declared.BaseChoice.{BaseChoice}
use Rattle.rules.specs.declared.BaseChoice.TheVariants.{StateWindow, NoBase}
use Rattle.rules.specs.declared.Within.{Within}
use Rattle.rules.specs.Printout.{decimal, bytes}
use Rattle.clauses.specs.declared.Unread.{Unread}
use Rattle.clauses.specs.declared.Unread.TheVariants.{NoSuchFile, NotAllowed, Folder, NameTooLong, Changed, NoRegularFile, Other}
use Rattle.clauses.specs.declared.Detail.{Detail}
use Rattle.clauses.specs.declared.Detail.TheVariants.{NoMore, InCommand, Reach, HasBytes, HasTooMany}
use Rattle.lines.specs.Hexadecimal.{hex_digits}
use Rattle.phrases.specs.Words.{reason_words, command_words, access_words, within_words, error_words}

-- "1 command", "214 commands"
unfoldable pub commands_text : ℕ → List ℕ
commands_text n = decimal n ++ cond (eqb n 1) (bytes " command") (bytes " commands")

-- window 0 is the batch, any other the state
unfoldable pub window_text : ℕ → List ℕ
window_text window = cond (eqb window 0) (bytes " at batch dword ") (bytes " at state dword ")

-- a dword as document 01 writes it: "(00301000h)"
unfoldable pub dword_text : ℕ → List ℕ
dword_text dword = bytes "(" ++ hex_digits 8 dword ++ bytes "h)"

-- the place of a fault, and the dword that stands there; number 6 lies at the end of the batch, where there is none
unfoldable pub place_text : Answer → ℕ → List ℕ
place_text a dword =
    cond (eqb a.reason 6) (bytes " at the end of the batch")
    (window_text a.window ++ (decimal a.index ++ bytes " ") ++ dword_text dword)

-- how far the walk came; before 1 to 4 and 19 to 21 there was none
unfoldable pub progress_text : Answer → ℕ → List ℕ
progress_text a dword =
    cond (ltb a.reason 5) []
    (cond (ltb 18 a.reason) [] (place_text a dword ++ bytes " after " ++ commands_text a.count))

-- "1 byte", "4 bytes"
unfoldable pub bytes_text : ℕ → List ℕ
bytes_text n = decimal n ++ cond (eqb n 1) (bytes " byte") (bytes " bytes")

-- ": MI_STORE_DATA_IMM"
unfoldable pub command_text : ℕ → List ℕ
command_text row = bytes ": " ++ command_words row

-- an address, which has 48 bits: " at 000000301000h"
unfoldable pub address_text : ℕ → List ℕ
address_text address = bytes " at " ++ hex_digits 12 address ++ bytes "h"

-- ": MI_STORE_DATA_IMM, store to 4 bytes at 000000301000h, which should lie in scratch"
unfoldable pub reach_text : ℕ → ℕ → ℕ → Within → List ℕ
reach_text row address length within =
    command_text row ++ (bytes ", " ++ access_words row) ++ (bytes " " ++ bytes_text length) ++ address_text address
    ++ (bytes ", which should lie in " ++ within_words within)

-- ": it is empty", ": it has 39 bytes"
unfoldable pub size_text : ℕ → List ℕ
size_text n = cond (eqb n 0) (bytes ": it is empty") (bytes ": it has " ++ bytes_text n)

-- what happened, behind the words for the reason
unfoldable pub detail_text : Detail → List ℕ
detail_text NoMore = []
detail_text (InCommand row) = command_text row
detail_text (Reach row address length within) = reach_text row address length within
detail_text (HasBytes n) = size_text n
detail_text HasTooMany = bytes ": it has over 32,808 bytes"

-- why a capture is refused: the words for the reason, and what happened
unfoldable pub refused_words : ℕ → Detail → List ℕ
refused_words reason detail = reason_words reason ++ detail_text detail

-- an error of the system: "Input/output error", or by its number alone, "error 117"
unfoldable pub error_text : ℕ → List ℕ
error_text error = cond (ltb 40 error) (bytes "error " ++ decimal error) (error_words error)

-- why the system did not give a file
unfoldable pub unread_words : Unread → List ℕ
unread_words NoSuchFile = bytes "there is no such file"
unread_words NotAllowed = bytes "it may not be read"
unread_words Folder = bytes "it is a folder"
unread_words NameTooLong = bytes "the name is longer than the system takes"
unread_words Changed = bytes "it changed while it was read"
unread_words NoRegularFile = bytes "it is no regular file"
unread_words (Other error) = bytes "it cannot be read: " ++ error_text error

-- a file that is not there is missing, and any other that was not read is unread
unfoldable pub is_missing : Unread → Bool
is_missing NoSuchFile = true
is_missing NotAllowed = false
is_missing Folder = false
is_missing NameTooLong = false
is_missing Changed = false
is_missing NoRegularFile = false
is_missing (Other error) = false

-- request 5: the base that the captures were judged by
unfoldable pub base_text : BaseChoice → List ℕ
base_text StateWindow = bytes "; base: state window"
base_text NoBase = bytes "; base: none"
