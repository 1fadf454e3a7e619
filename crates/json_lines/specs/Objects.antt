-- The objects of `audit --json`: one for each file, and one for the totals. Each is a line.
use Rattle.std.specs.Prelude.{ℕ, ◌+◌, cond, Option, None, Some, List, [], ◌∷◌, ◌++◌, drop, eqb}
use Rattle.rules.specs.declared.Answer.{Answer}
use Rattle.rules.specs.declared.BaseChoice.{BaseChoice}
use Rattle.rules.specs.Printout.{decimal, bytes}
use Rattle.members.specs.declared.Outcome.{Outcome}
use Rattle.members.specs.declared.Outcome.TheVariants.{Accepted, Refused}
use Rattle.members.specs.Strings.{quoted}
use Rattle.members.specs.Members.{outcome_text, number_text, dword_text, base_text}
use Rattle.json_lines.specs.declared.Told.{Told}
use Rattle.json_lines.specs.declared.Totals.{Totals}

-- the rules that are checked: document 01 with the requests that have landed, by number. Each landing changes it, here and in `RULES`
abbrev pub rules_text : List ℕ
rules_text = bytes "01+1+2+3+4+5+6+7"

-- what is told of an answer
unfoldable pub with_answer : Outcome → Option ℕ → Answer → Option ℕ → Told
with_answer outcome size answer dword = record {
  outcome = outcome;
  size = size;
  reason = Some answer.reason;
  window = Some answer.window;
  index = Some answer.index;
  dword = dword;
  count = Some answer.count;
}

-- what is told of a file that was judged: reason 0 is accepted, and then there is no dword
unfoldable pub judged : Option ℕ → Answer → Option ℕ → Told
judged size answer dword = cond (eqb answer.reason 0) (with_answer Accepted size answer None) (with_answer Refused size answer dword)

-- what is told of a file that was not
unfoldable pub not_judged : Option ℕ → Outcome → Told
not_judged size outcome = record {
  outcome = outcome;
  size = size;
  reason = None;
  window = None;
  index = None;
  dword = None;
  count = None;
}

-- "{"name":"a.capture","size":56,"verdict":"accepted": the text of the last string is not closed yet
unfoldable pub head_text : List ℕ → Told → List ℕ
head_text name told =
    (bytes "{\"name\":\"" ++ quoted name) ++ (bytes "\",\"size\":" ++ number_text told.size)
    ++ (bytes ",\"verdict\":\"" ++ outcome_text told.outcome)

-- "","window":0,"index":2,"dword":"0030100F","count":1", which closes the string before
unfoldable pub place_text : Told → List ℕ
place_text told =
    (bytes "\",\"window\":" ++ number_text told.window) ++ (bytes ",\"index\":" ++ number_text told.index)
    ++ (bytes ",\"dword\":" ++ dword_text told.dword) ++ (bytes ",\"count\":" ++ number_text told.count)

-- THE LINE of a file, by its name as it is shown, what is said of it in words, and what is told in numbers
unfoldable pub file_line : List ℕ → List ℕ → Told → List ℕ
file_line name words told =
    head_text name told ++ (bytes "\",\"reason\":" ++ number_text told.reason) ++ (bytes ",\"words\":\"" ++ quoted words)
    ++ place_text told ++ bytes "}\n"

-- how many files a reason refused: "13":2. Nothing for a reason that refused none, and a comma behind one that is told already
unfoldable pub reason_text : ℕ → ℕ → ℕ → List ℕ
reason_text told reason n =
    cond (eqb n 0) [] (cond (eqb told 0) (bytes "\"") (bytes ",\"") ++ decimal reason ++ (bytes "\":" ++ decimal n))

-- the reasons from some number on, where so many are told already
unfoldable pub reasons_on : ℕ → ℕ → List ℕ → List ℕ
reasons_on told reason [] = []
reasons_on told reason (n ∷ rest) = reason_text told reason n ++ reasons_on (told + cond (eqb n 0) 0 1) (reason + 1) rest

-- "{"accepted":2,"refused":3,"unread":0,"missing":0,"unlisted":1"
unfoldable pub counts_text : Totals → List ℕ
counts_text t =
    (bytes "{\"accepted\":" ++ decimal t.accepted) ++ (bytes ",\"refused\":" ++ decimal t.refused)
    ++ (bytes ",\"unread\":" ++ decimal t.unread) ++ (bytes ",\"missing\":" ++ decimal t.missing)
    ++ (bytes ",\"unlisted\":" ++ decimal t.unlisted)

-- THE LINE of the totals. The counts of the reasons stand by their numbers, from 0 on, which is no reason
unfoldable pub totals_line : Totals → List ℕ → BaseChoice → List ℕ
totals_line t counts choice =
    counts_text t ++ bytes ",\"reasons\":{" ++ reasons_on 0 1 (drop 1 counts) ++ bytes "},\"rules\":\"" ++ rules_text
    ++ (bytes "\",\"base\":\"" ++ base_text choice) ++ bytes "\"}\n"
