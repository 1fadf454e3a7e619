-- What the answers that are enums tell, by the definition that gives number, place and values of each case: the verdict that they were made from, and
-- the values of what was read.
-- Assumes nothing.
use Rattle.std.specs.Prelude.{Ok, Err}
use Prim.Native.Nat.{ℕ}
use mathlib.Core.Path.{◌≡◌, refl, sym, ap}
use mathlib.Core.List.{List, []}
use Rattle.rules.specs.declared.Kind.{Kind}
use Rattle.rules.specs.declared.Kind.TheVariants.{Viewport, ColourCalc, Blend}
use Rattle.rules.specs.declared.Fault.{Fault}
use Rattle.rules.specs.Refusals.{Verdict}
use Rattle.rules.specs.Refusals.{batch_window, fault, first_fault, told}
use Rattle.rules.specs.Structures.{values_of, reading_of, read_at, verdict_of, floats_of, reading_told, StructureRead}
use Rattle.rules.specs.File.{Trailer, trailer_of, file_checks, offer, contents_of, opened_by, opened_of, opened_verdict, numbers_of, opened_told}
use Rattle.rules.proofs.Places.{AtZero, file_place}

pub reading_says : (v : Verdict) (kind : Kind) (d : List ℕ) → verdict_of (reading_of v kind d) ≡ v
unfolding verdict_of
reading_says (Ok _) Viewport d = refl
reading_says (Ok _) ColourCalc d = refl
reading_says (Ok _) Blend d = refl
reading_says (Err f) kind d = refl

reading_told_lem : (v : Verdict) (kind : Kind) (d : List ℕ) → reading_told (reading_of v kind d) ≡ told v (floats_of (values_of kind d))
unfolding verdict_of told
reading_told_lem (Ok _) Viewport d = refl
reading_told_lem (Ok _) ColourCalc d = refl
reading_told_lem (Ok _) Blend d = refl
reading_told_lem (Err f) kind d = refl

-- the promise of the structure read, from the equation of its answer
pub structure_read : (batch : List ℕ) (batch_at : ℕ) (state : List ℕ) (state_at : ℕ) (kind : Kind) (address pointer : ℕ)
    → StructureRead batch batch_at state state_at kind address pointer (read_at batch batch_at state state_at kind address pointer)
unfolding read_at
structure_read batch batch_at state state_at kind address pointer = record { answers = refl; tells = reading_told_lem _ kind _ }

-- a fault at 0,0 is its reason there
at_zero : (f : Fault) → AtZero f → fault f.reason batch_window 0 ≡ f
at_zero f p = λ i. record { reason = f.reason; window = sym p.0 i; index = sym p.1 i }

opened_by_told : (v : Verdict) (t : Trailer) → ((f : Fault) → v ≡ Err f → AtZero f)
    → opened_told (opened_by v t) ≡ told v (numbers_of (Ok (contents_of t)))
unfolding opened_verdict numbers_of told
opened_by_told (Ok _) t p = refl
opened_by_told (Err f) t p = ap (λ (g : Fault). told (Err g) []) (at_zero f (p f refl))

-- what the file's reader tells
pub opened_told_lem : (file : List ℕ) (batch_room state_room : ℕ)
    → opened_told (opened_of file batch_room state_room) ≡ told (first_fault file_checks (offer file batch_room state_room)) (numbers_of (Ok (contents_of (trailer_of file))))
unfolding opened_of
opened_told_lem file batch_room state_room = opened_by_told _ (trailer_of file) (file_place (offer file batch_room state_room))
