-- The ways out of `examine`: each refusal where it is the first, and the contents where there is none.
-- Assumes nothing.
use Rattle.std.specs.Prelude.{Ok, Err}
use Prim.Native.Nat.{ℕ}
use mathlib.Core.Path.{◌≡◌, refl, sym, ap, ◌∙◌}
use mathlib.Core.Bool.{Bool, true, false, ◌||◌}
use mathlib.Core.List.{List, ◌∷◌}
use lib.ListN.{length}
use lib.Dec.{ltb}
use Rattle.rules.specs.declared.Contents.{Contents}
use Rattle.rules.specs.declared.Reason.{Reason}
use Rattle.rules.specs.declared.Reason.TheVariants.{WrongCounts, FileSize, FileDistance, BufferShort}
use Rattle.rules.specs.declared.Fault.{Fault}
use Rattle.rules.specs.Refusals.{Verdict}
use Rattle.rules.specs.Refusals.{batch_window, fault, tried, first_fault}
use Rattle.rules.specs.File.{Trailer, offer, Offer, trailer_of, contents_of, file_checks, file_limit, opened_by, opened_of}
use Rattle.rules.specs.Windows.{counts_wrong}
use Rattle.rules.proofs.Trying.{no_fault, stays_failed}
use Rattle.opening.specs.Offers.{distance_off, room_short}

-- a list of checks is tried in order: first its head, then the next where one passes, and none behind a fault
first_tried : (check : Offer → Verdict) (checks : List (Offer → Verdict)) (o : Offer)
    → first_fault (check ∷ checks) o ≡ tried checks (check o) o
unfolding tried
first_tried check checks o = refl

next_tried : (check : Offer → Verdict) (checks : List (Offer → Verdict)) (o : Offer) {said : Verdict} → said ≡ Ok tt
    → tried (check ∷ checks) said o ≡ tried checks (check o) o
unfolding tried
next_tried check checks o e = rw e

fault_stays : (checks : List (Offer → Verdict)) (o : Offer) {said : Verdict} {f : Fault} → said ≡ Err f → tried checks said o ≡ Err f
fault_stays checks o {f = f} e = rw e (stays_failed checks f o)

-- 19, of a length
abbrev size_off : ℕ → Bool
size_off n = ltb n 40 || ltb 32808 n

module _ (file : List ℕ) (b s : ℕ) where
  refused : {reason : Reason} → first_fault file_checks (offer file b s) ≡ Err (fault reason batch_window 0)
      → Err reason ≡ opened_of file b s
  unfolding opened_of
  refused e = sym (ap (λ (v : Verdict). opened_by v (trailer_of file)) e)

  pub wrong_size : size_off (length file) ≡ true → Err FileSize ≡ opened_of file b s
  unfolding file_checks
  wrong_size h = refused (first_tried _ _ _ ∙ fault_stays _ _ (rw h))

  module _ {t : Trailer} (right : size_off (length file) ≡ false) (read : t ≡ trailer_of file) where
    pub wrong_distance : distance_off t (length file) ≡ true → Err FileDistance ≡ opened_of file b s
    unfolding file_checks
    wrong_distance d = refused (first_tried _ _ _ ∙ next_tried _ _ _ (rw right) ∙ fault_stays _ _ (rw (← read) (rw d)))

    pub wrong_counts : distance_off t (length file) ≡ false → counts_wrong file_limit t.batch_count t.state_count ≡ true
        → Err WrongCounts ≡ opened_of file b s
    unfolding file_checks
    wrong_counts d n =
        refused (first_tried _ _ _ ∙ next_tried _ _ _ (rw right) ∙ next_tried _ _ _ (rw (← read) (rw d)) ∙ fault_stays _ _ (rw (← read) (rw n)))

    pub no_room : distance_off t (length file) ≡ false → counts_wrong file_limit t.batch_count t.state_count ≡ false → room_short t b s ≡ true
        → Err BufferShort ≡ opened_of file b s
    unfolding file_checks
    no_room d n r =
        refused (first_tried _ _ _ ∙ next_tried _ _ _ (rw right) ∙ next_tried _ _ _ (rw (← read) (rw d)) ∙ next_tried _ _ _ (rw (← read) (rw n))
        ∙ fault_stays _ _ (rw (← read) (rw r)))

    pub all_right : {contents : Contents} → distance_off t (length file) ≡ false → counts_wrong file_limit t.batch_count t.state_count ≡ false
        → room_short t b s ≡ false → contents ≡ contents_of t → Ok contents ≡ opened_of file b s
    unfolding opened_of file_checks
    all_right d n r e =
        rw (e, read) (rw (no_fault (offer file b s) file_checks (rw right, (rw (← read) (rw d), (rw (← read) (rw n), (rw (← read) (rw r), tt))))))
