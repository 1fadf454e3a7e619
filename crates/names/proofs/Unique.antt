-- The promise of each public call admits one answer only.
-- Assumes nothing.
use Prim.Native.Nat.{ℕ}
use mathlib.Core.Path.{◌≡◌, sym, ◌∙◌}
use mathlib.Core.List.{List}
use Rattle.lines.specs.Lines.{Line}
use Rattle.lines.proofs.Unique.{one_line}
use Rattle.names.specs.Entries.{NameEnd}
use Rattle.names.specs.Names.{shown_name}

pub shown_unique : (name : List ℕ) {old new new' : List ℕ} {r r' : ℕ} → Line (shown_name name) old r new
    → Line (shown_name name) old r' new' → (r ≡ r') × (new ≡ new')
shown_unique name = one_line

pub name_end_unique : {bytes : List ℕ} {from ending r r' : ℕ} → NameEnd bytes from ending r → NameEnd bytes from ending r' → r ≡ r'
name_end_unique p q = p.is ∙ sym q.is
