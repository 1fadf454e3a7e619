-- `step::faults::structure_fault` meets its contract: no pointer, no base, or what the read of its kind says.
use Rattle.std.proofs.Common.{◌≡◌, Option, Some, ℕ}
use mathlib.Core.Path.{ap, ◌∙◌}
use Rattle.rules.specs.declared.Kind.{Kind}
use Rattle.step.proofs.Structural.{unpointed, unbased, read}
use Rattle.step.proofs.faults.structure_fault.Goals as goal

-- a pointer to a structure of a kind that is known
of_kind : {p : Option (Kind × ℕ)} {kind known : Kind} {offset : ℕ} → p ≡ Some (kind, offset) → kind ≡ known → p ≡ Some (known, offset)
of_kind {offset = offset} e q = e ∙ ap (λ (k : Kind). Some (k, offset)) q

pub returns-in_default : goal.returns-in_default
returns-in_default c = unpointed _ _ _ _ c.in_default.is

pub returns-in_default-base : goal.returns-in_default-base
returns-in_default-base c = rw c.in_batch.ensures (unbased _ _ _ _ c.in-Some.is c.in_default-base.is)

pub returns-in-Viewport : goal.returns-in-Viewport
returns-in-Viewport c = c.verdict_at.ensures ∙ read _ _ _ _ (of_kind c.in-Some.is c.in-Viewport.is) c.in-Some-base.is

pub returns-in-ColourCalc : goal.returns-in-ColourCalc
returns-in-ColourCalc c = c.verdict_at-in-ColourCalc.ensures ∙ read _ _ _ _ (of_kind c.in-Some.is c.in-ColourCalc.is) c.in-Some-base.is

pub returns-in-Blend : goal.returns-in-Blend
returns-in-Blend c = c.verdict_at-in-Blend.ensures ∙ read _ _ _ _ (of_kind c.in-Some.is c.in-Blend.is) c.in-Some-base.is
