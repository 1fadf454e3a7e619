-- A byte of a JSON string, put as the definition has it: a mark behind a backslash, any other but a control byte as it is.
use Rattle.std.proofs.Common.{◌≡◌, ℕ, ◌≤◌, [], ◌∷◌, rules}
use mathlib.Core.Logic.{◌⊎◌, ⊎_elim}
use borrow.Author.Tests.{le-ltb, eq-eqb, ne_eqb}
use Rattle.lines.specs.declared.OpenLine.{OpenLine}
use Rattle.lines.specs.Writing.{Puts}
use Rattle.lines.proofs.Putting.{at_most}
use Rattle.members.specs.Strings.{quoted_byte}

pub behind_a_backslash : {old new : OpenLine} (byte : ℕ) → 0x20 ≤ byte → (byte ≡ 0x22) ⊎ ((byte ≡ 0x22 → ⊥) × (byte ≡ 0x5C))
    → Puts 2 (0x5C ∷ byte ∷ []) old new → Puts 6 (quoted_byte byte) old new
unfolding quoted_byte
behind_a_backslash byte h mark p =
    ⊎_elim
    (λ e. simp (le-ltb byte 0x20 h, eq-eqb byte 0x22 e) (at_most (search rules) p))
    (λ e. simp (le-ltb byte 0x20 h, ne_eqb byte 0x22 e.0, eq-eqb byte 0x5C e.1) (at_most (search rules) p))
    mark

pub as_it_is : {old new : OpenLine} (byte : ℕ) → 0x20 ≤ byte → (byte ≡ 0x22 → ⊥) → (byte ≡ 0x5C → ⊥) → Puts 1 (byte ∷ []) old new
    → Puts 6 (quoted_byte byte) old new
unfolding quoted_byte
as_it_is byte h quote backslash p = simp (le-ltb byte 0x20 h, ne_eqb byte 0x22 quote, ne_eqb byte 0x5C backslash) (at_most (search rules) p)
