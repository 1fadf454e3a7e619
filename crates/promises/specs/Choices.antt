-- BOTH STARTING BASES. "Demands 2 and 3 hold for either choice; the streamer keeps no base." "Refusals: 14 is given only under "none"." (request 5)
--
-- Whoever chooses a base for the walk of a capture is promised all three demands from that base. Demand 3 names none: the streamer is the same for both.
use Rattle.std.specs.Prelude.{ℕ, ◌≡◌, List, take}
use Rattle.rules.specs.declared.Answer.{Answer}
use Rattle.rules.specs.declared.BaseChoice.{BaseChoice}
use Rattle.rules.specs.declared.BaseChoice.TheVariants.{NoBase}
use Rattle.rules.specs.Windows.{Capture}
use Rattle.rules.specs.Walk.{starting_base}
use Rattle.rules.specs.Records.{words_for}
use Rattle.promises.specs.Demand1.{Demand1}
use Rattle.promises.specs.Demand2.{Demand2}
use Rattle.promises.specs.Demand3.{Demand3}

-- "14 is given only under "none""
abbrev pub FourteenUnderNone : BaseChoice → Answer → Type 0
FourteenUnderNone choice r = r.reason ≡ 14 → choice ≡ NoBase

pub record Demands (choice : BaseChoice) (c : Capture) (old : List ℕ) (r : Answer) (new : List ℕ) : Type 0 where
  pub demand1 : Demand1 c old r new
  pub demand2 : Demand2 (starting_base choice c.state_at) c old r new
  pub demand3 : r.reason ≡ 0 → Demand3 c r.count (take (words_for r.count) new)
  pub fourteen : FourteenUnderNone choice r

-- where "none" does not give 14, both choices give the same: the answer and the record buffer by the default, and those under "none"
abbrev pub SameUnlessFourteen : Answer → List ℕ → Answer → List ℕ → Type 0
SameUnlessFourteen r new none none_new = (none.reason ≡ 14 → ⊥) → (r ≡ none) × (new ≡ none_new)
