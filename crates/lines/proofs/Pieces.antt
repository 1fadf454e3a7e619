-- Bytes put by a loop, piece by piece: what is put, with what is left to put, is the whole.
-- Assumes nothing.
use Prim.Native.Nat.{ℕ, ◌+◌}
use native.Mathlib.Omega.{arith}
use mathlib.Core.Path.{◌≡◌, refl, sym, ap, ◌∙◌}
use mathlib.Core.List.{List, [], ◌++◌, append_assoc, append-nil}
use lib.ListN.{length, length-append}
use Rattle.lines.specs.declared.OpenLine.{OpenLine}
use Rattle.lines.specs.Writing.{Puts}
use Rattle.lines.proofs.Putting.{nothing, then, counted}

-- `rest` is left of the whole, behind what is put
pub record Pieces (whole : List ℕ) (old new : OpenLine) (rest : List ℕ) : Type 0 where
  pub done : List ℕ
  pub puts : Puts (length done) done old new
  pub same : done ++ rest ≡ whole

module _ {whole : List ℕ} {old : OpenLine} where
  pub pieces_start : Pieces whole old old whole
  pieces_start = record { done = []; puts = nothing; same = refl }

  pub pieces_go_on : {most : ℕ} {piece rest rest' : List ℕ} {new next : OpenLine} → Pieces whole old new rest → rest ≡ piece ++ rest'
      → Puts most piece new next → Pieces whole old next rest'
  pieces_go_on {piece = piece} {rest' = rest'} p e q = record {
    done = p.done ++ piece;
    puts = counted (then p.puts q);
    same = append_assoc p.done piece rest' ∙ ap (λ l. p.done ++ l) (sym e) ∙ p.same;
  }

  pub pieces_end : {new : OpenLine} {rest : List ℕ} → Pieces whole old new rest → rest ≡ [] → Puts (length whole) whole old new
  pieces_end p e =
      let all : p.done ≡ whole = sym (append-nil p.done) ∙ ap (λ l. p.done ++ l) (sym e) ∙ p.same in
      counted (rw all at p.puts)

  -- what is left goes up to where the whole ends
  pub left_over : {new : OpenLine} {rest : List ℕ} → Pieces whole old new rest → new.end + length rest ≡ old.end + length whole
  left_over {rest = rest} p = omega (arith, p.puts.put.ends, length-append p.done rest, ap length p.same)
