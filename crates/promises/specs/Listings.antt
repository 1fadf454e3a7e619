-- OLD LISTINGS. "An old listing turned into the new form names the same commands." (request 7) It is said of every listing that is turned, records of rows
-- that there are none of included.
use Rattle.std.specs.Prelude.{ℕ, ◌≡◌, List, length, take, drop}
use Rattle.rules.specs.Records.{words_of, words_for, commands_in}
use Rattle.rules.specs.Listings.{old_commands_in}

-- THE SAME COMMANDS. Of an old listing that was turned into a buffer that had the words `before` and has the words `after`:
pub record SameCommands (old before after : List ℕ) : Type 0 where
  -- the first words, two for each old one, name the commands that the old words name: index, level, row and length of each, in the same order
  pub named : commands_in (take (words_for (length old)) after) ≡ old_commands_in old
  -- they are the records of these commands, word for word: no other bit is set in them
  pub recorded : take (words_for (length old)) after ≡ words_of (old_commands_in old)
  -- the words behind them, an odd last one too, are as they were
  pub kept : drop (words_for (length old)) after ≡ drop (words_for (length old)) before
  pub long : length after ≡ length before
