-- The word has a bit for each known code, computed over all 64.
-- Assumes nothing.
use Prim.Native.Nat.{ℕ, ◌≤◌}
use native.Mathlib.Omega.{arith}
use mathlib.Core.Path.{◌≡◌, refl, ◌∙◌}
use mathlib.Core.Bool.{false, and-false}
use borrow.Author.Tests.{lt-leb, ne_eqb}
use Rattle.rules.specs.Formats.{known_topology}
use Rattle.rules.proofs.Tables.{each, same, in_word}
use Rattle.formats.proofs.known_topology.Goals as goal

-- no code of 64 or more is known
past : (code : ℕ) → 64 ≤ code → known_topology code ≡ false
unfolding known_topology
past code h = simp (lt-leb code 0x14 (omega arith), ne_eqb code 0x16 (λ e. omega arith), lt-leb code 0x3F (omega arith), and-false)

pub returns : goal.returns
unfolding each same known_topology
returns c = c.bit_of.ensures ∙ in_word 0xFFFFFFFF005FFFFE known_topology refl past c.args.code
