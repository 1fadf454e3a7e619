-- Document 01, "Try these bad versions": what each of them is, of a checker that answers every capture and leaves every record buffer as it does.
use Rattle.std.specs.Prelude.{ℕ, ◌≡◌, List, length, Option}
use Rattle.rules.specs.declared.Answer.{Answer}
use Rattle.rules.specs.Refusals.{AllPass}
use Rattle.rules.specs.Windows.{Capture, lengths_of, window_checks}
use Rattle.rules.specs.Step.{here, checks}
use Rattle.rules.specs.Walk.{start, walk, commands_of}
use Rattle.rules.specs.Records.{room_of}
use Rattle.promises.specs.Demand2.{Demand2}

-- a version of the checker: for each capture and record buffer an answer, and the buffer as it leaves it
pub record Version : Type 0 where
  pub answer : Capture → List ℕ → Answer
  pub written : Capture → List ℕ → List ℕ

-- it meets demand 2, whatever it is given
abbrev pub Meets : Option ℕ → Version → Type 0
Meets base v = (c : Capture) (old : List ℕ) → Demand2 base c old (v.answer c old) (v.written c old)

-- "a checker that refuses all captures"
abbrev pub RefusesAll : Version → Type 0
RefusesAll v = (c : Capture) (old : List ℕ) → (v.answer c old).reason ≡ 0 → ⊥

-- "one that accepts all"
abbrev pub AcceptsAll : Version → Type 0
AcceptsAll v = (c : Capture) (old : List ℕ) → (v.answer c old).reason ≡ 0

-- "one that writes no record"
abbrev pub WritesNone : Version → Type 0
WritesNone v = (c : Capture) (old : List ℕ) → v.written c old ≡ old

-- "one that checks the first command and waves the rest through": it accepts whatever has no fault at its first command
abbrev pub ChecksTheFirst : Option ℕ → Version → Type 0
ChecksTheFirst base v =
    (c : Capture) (old : List ℕ) → AllPass window_checks (lengths_of c) → AllPass (checks 0 (room_of (length old))) (here c (start base))
    → (v.answer c old).reason ≡ 0

-- "An invented command count": any count but that of the commands accepted, for some capture and record buffer
pub record InventsCount (base : Option ℕ) (v : Version) : Type 0 where
  pub capture : Capture
  pub old : List ℕ
  pub wrong : (v.answer capture old).count ≡ length (commands_of (walk base capture (room_of (length old)))) → ⊥
