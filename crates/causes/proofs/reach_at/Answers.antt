-- A dword that the command does not have, and one of the dwords of the command that stands there.
use Rattle.std.proofs.Common.{◌+◌, ◌-◌}
use mathlib.Core.Path.{◌≡◌, ◌∙◌}
use native.Mathlib.Omega.{arith}
use Rattle.rules.specs.Step.{length_at, dwords_at}
use Rattle.causes.proofs.Leading.{no_reach, reaches}
use Rattle.causes.proofs.reach_at.Goals as goal
use Rattle.causes.proofs.reach_at.Goals.{then-saturating_sub-long-via-then-saturating_sub-long, then-saturating_sub-long-via-else-saturating_sub-long+then-long-k}

pub returns-then-saturating_sub-long : goal.returns-then-saturating_sub-long
returns-then-saturating_sub-long c =
    let a = c.args in
    let long : c.length_of-long.result ≡ length_at a.batch.now a.at = c.length_of-long.ensures ∙ rw (c.row_of-row.ensures, c.dword-header.ensures) in
    no_reach _ _ _
    (λ whole own.
    elim c.then-saturating_sub-long.branch [
      | then-saturating_sub-long-via-then-saturating_sub-long w ↦ omega (arith, w.if-saturating_sub-long.true, c.saturating_sub.ensures, long)
      | then-saturating_sub-long-via-else-saturating_sub-long+then-long-k w ↦ omega (arith, w.if-long-k.true, long)
    ])

pub returns : goal.returns
unfolding dwords_at
returns c =
    let a = c.args in
    let batch = a.batch.now in
    let at = a.at in
    let long : c.length_of-long.result ≡ length_at batch at = c.length_of-long.ensures ∙ rw (c.row_of-row.ensures, c.dword-header.ensures) in
    let same : at + c.length_of-long.result - at ≡ c.length_of-long.result = omega arith in
    rw (c.reach.ensures, same, long, c.row_of-row.ensures, c.dword-header.ensures)
    (reaches batch at a.k (omega (arith, long, c.saturating_sub.ensures, c.if-saturating_sub-long.false, c.if-long-k.false)) (omega (arith, long, c.if-long-k.false)))
