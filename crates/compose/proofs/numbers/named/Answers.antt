-- A name that is compared is that of the table.
use Rattle.std.proofs.Common.{rules, sym, ◌∙◌, below_more}
use Rattle.std.specs.Cmp.Lexicographic.{same_text, other_text}
use Rattle.lines.proofs.Putting.{line_front}
use Rattle.compose.proofs.numbers.named.Goals as goal

pub returns-then-eq : goal.returns-then-eq
returns-then-eq c = (search rules, sym (line_front c.command_words-n.ensures) ∙ same_text _ _ (sym c.if-eq.true ∙ c.eq.ensures))

pub loop-row-preserved : goal.loop-row-preserved
loop-row-preserved c =
    below_more _ _ c.loop-row.invariant (λ e. other_text _ _ (sym c.if-eq.false ∙ c.eq.ensures) (line_front c.command_words-n.ensures ∙ e))
