-- What is promised of bytes that are put, and of a whole line, admits one answer only.
-- Assumes nothing.
use Prim.Native.Nat.{ℕ}
use mathlib.Core.Path.{◌≡◌, sym, ◌∙◌}
use mathlib.Core.List.{List}
use Rattle.lines.specs.Lines.{Put, Line}

module _ {bytes old new new' : List ℕ} {r r' : ℕ} where
  pub one_put : {at most : ℕ} → Put at most bytes old r new → Put at most bytes old r' new' → (r ≡ r') × (new ≡ new')
  one_put p q = (p.ends ∙ sym q.ends, p.written ∙ sym q.written)

  pub one_line : Line bytes old r new → Line bytes old r' new' → (r ≡ r') × (new ≡ new')
  one_line p q = (p.counts ∙ sym q.counts, p.written ∙ sym q.written)
