-- The promise of `listing::turn` admits one answer only, and one content of the buffer.
-- Assumes nothing.
use Prim.Native.Nat.{ℕ}
use mathlib.Core.Path.{◌≡◌, sym, ◌∙◌}
use mathlib.Core.List.{List}
use Rattle.rules.specs.declared.LongAnswer.{LongAnswer}
use Rattle.rules.specs.Listings.{Turned}

pub one_turning : {old before after after' : List ℕ} {r r' : LongAnswer} → Turned old before r after → Turned old before r' after'
    → (r ≡ r') × (after ≡ after')
one_turning p q = (p.answers ∙ sym q.answers, p.words ∙ sym q.words)
