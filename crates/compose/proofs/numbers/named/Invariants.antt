-- None of the rows before has the word for its name.
use Rattle.std.proofs.Common.{◌≡◌, ℕ, ◌<◌}
use Rattle.phrases.specs.Words.{command_words}
use Rattle.compose.proofs.numbers.named.Given as goal

abbrev pub invariant-loop-row : goal.invariant-loop-row
invariant-loop-row l = (k : ℕ) → k < l.row → command_words k ≡ l.word → ⊥
