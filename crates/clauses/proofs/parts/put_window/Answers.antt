-- `put_window` meets its contract: window 0, or the other.
use borrow.Author.Tests.{eq-eqb, ne_eqb}
use Rattle.clauses.specs.Clauses.{window_text}
use Rattle.clauses.proofs.parts.put_window.Goals as goal

pub returns-then-window-eq0 : goal.returns-then-window-eq0
unfolding window_text
returns-then-window-eq0 c = simp (eq-eqb _ _ c.if-window-eq0.true) c.put_text.ensures

pub returns-else-window-eq0 : goal.returns-else-window-eq0
unfolding window_text
returns-else-window-eq0 c = simp (ne_eqb _ _ c.if-window-eq0.false) c.put_text-else-window-eq0.ensures
