-- The exported reader's promise admits one answer, and one content of each buffer. (The exported check's is `one-check` of
-- `rules/proofs/Unique`.)
-- Assumes nothing.
use Prim.Native.Nat.{ℕ}
use mathlib.Core.Path.{◌≡◌, sym, ◌∙◌}
use mathlib.Core.List.{List}
use Rattle.api.specs.declared.FileContents.{FileContents}
use Rattle.api.specs.Read.{ReadOut}

pub one_reading : {file batch state b b' s s' : List ℕ} {r r' : FileContents} → ReadOut file batch state r b s
    → ReadOut file batch state r' b' s' → (r ≡ r') × (b ≡ b') × (s ≡ s')
one_reading p q = (p.answers ∙ sym q.answers, p.batch_filled ∙ sym q.batch_filled, p.state_filled ∙ sym q.state_filled)
