-- What a row's name is, to compose.
use Rattle.std.specs.Prelude.{◌≡◌, ℕ, ◌<◌, List, ◌≢◌, Some, None}
use Rattle.std.specs.declared.option.Option.{Option}
use Rattle.rules.specs.Commands.{row_count}
use Rattle.phrases.specs.Words.{command_words}

-- the row that is found has the word for its name; where none is found, none has
abbrev pub Named : List ℕ → Option ℕ → Type 0
Named word (Some row) = (row < row_count) × (command_words row ≡ word)
Named word None = (row : ℕ) → row < row_count → command_words row ≢ word
