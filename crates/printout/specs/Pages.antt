-- Lines gathered in a page, so that they are written together.
use Rattle.std.specs.Prelude.{ℕ, suc, ◌-◌, ◌≡◌, cond, List, [], ◌∷◌, length, take, ltb}
use Rattle.rules.specs.declared.Command.{Command}
use Rattle.rules.specs.Records.{commands_in}
use Rattle.rules.specs.Printout.{command_line, command_lines}
use Rattle.lines.specs.Lines.{Line}
use Rattle.printout.specs.declared.Page.{Page}

-- no record's line has more bytes: four numbers of 20 digits, each with the byte that ends it
abbrev pub line_bytes : ℕ
line_bytes = 84

-- how many of the commands' lines a page of so many bytes takes: one more as long as there is room for the longest
unfoldable pub lines_in : ℕ → List Command → ℕ
lines_in room [] = 0
lines_in room (c ∷ cs) = cond (ltb room line_bytes) 0 (suc (lines_in (room - length (command_line c)) cs))

-- THE PROMISE of `printout::record_lines`: how many lines are in the page, how many bytes they have, and every byte of it as it returns
pub record Gathered (records old : List ℕ) (page : Page) (new : List ℕ) : Type 0 where
  pub lines : page.lines ≡ lines_in (length old) (commands_in records)
  pub bytes : Line (command_lines (take page.lines (commands_in records))) old page.bytes new
