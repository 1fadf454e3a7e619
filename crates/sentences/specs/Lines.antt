-- The lines of audit, and compose's of a refusal: each kind from its first byte to the line feed.
use Rattle.std.specs.Prelude.{ℕ, cond, List, ◌++◌}
use Rattle.rules.specs.declared.Answer.{Answer}
use Rattle.rules.specs.declared.BaseChoice.{BaseChoice}
use Rattle.rules.specs.Printout.{decimal, bytes}
use Rattle.phrases.specs.Words.{reason_words, writing_words}
use Rattle.clauses.specs.declared.Unread.{Unread}
use Rattle.clauses.specs.declared.Detail.{Detail}
use Rattle.clauses.specs.Clauses.{commands_text, progress_text, refused_words, unread_words, is_missing, base_text}

-- "a.capture: accepted, 214 commands"
unfoldable pub accepted_line : List ℕ → ℕ → List ℕ
accepted_line name count = name ++ bytes ": accepted, " ++ commands_text count ++ bytes "\n"

-- "a.capture: refused, 12 at batch dword 2 (00002000h) after 1 command: a value is not allowed: MI_LOAD_REGISTER_IMM"
unfoldable pub refused_line : List ℕ → Answer → ℕ → Detail → List ℕ
refused_line name a dword detail =
    name ++ bytes ": refused, " ++ decimal a.reason ++ progress_text a dword ++ bytes ": " ++ refused_words a.reason detail ++ bytes "\n"

-- "a.capture: missing: there is no such file", "a.capture: unread: it is a folder"
unfoldable pub unread_line : List ℕ → Unread → List ℕ
unread_line name why = name ++ cond (is_missing why) (bytes ": missing: ") (bytes ": unread: ") ++ unread_words why ++ bytes "\n"

-- "a.capture: not listed"
unfoldable pub unlisted_line : List ℕ → List ℕ
unlisted_line name = name ++ bytes ": not listed\n"

-- "2 refused by 13: an address range does not fit"
unfoldable pub reason_line : ℕ → ℕ → List ℕ
reason_line reason count =
    (decimal count ++ bytes " refused by ") ++ (decimal reason ++ bytes ": ") ++ reason_words reason ++ bytes "\n"

-- "3 not listed"
unfoldable pub unlisted_total : ℕ → List ℕ
unlisted_total count = decimal count ++ bytes " not listed\n"

-- "2 accepted, 1 refused, 0 unread, 0 missing; base: state window"
unfoldable pub totals_line : ℕ → ℕ → ℕ → ℕ → BaseChoice → List ℕ
totals_line accepted refused unread missing choice =
    (decimal accepted ++ bytes " accepted, ") ++ (decimal refused ++ bytes " refused, ") ++ (decimal unread ++ bytes " unread, ")
    ++ (decimal missing ++ bytes " missing") ++ base_text choice ++ bytes "\n"

-- "lungevati: mine.txt: line 3: refused, 7: the table has no such row"
unfoldable pub writing_line : List ℕ → ℕ → ℕ → List ℕ
writing_line name number reason =
    bytes "lungevati: " ++ (name ++ bytes ": line ") ++ (decimal number ++ bytes ": refused, ") ++ (decimal reason ++ bytes ": ")
    ++ writing_words reason ++ bytes "\n"
