-- What std says of `contains` is what the definition says of a letter.
use Rattle.std.proofs.Common.{◌≡◌, ◌∙◌, ℕ, List, [], ◌∷◌, Bool, nat_eq, refl, rules}
use Rattle.std.specs.List.{list_any}
use Rattle.reports.specs.Reports.{has_letter}

any_is_has_letter : (word : List ℕ) (letter : ℕ) → list_any (λ y. nat_eq y letter) word ≡ has_letter word letter
unfolding has_letter
any_is_has_letter [] letter = refl
any_is_has_letter (byte ∷ rest) letter = search (rules, any_is_has_letter rest letter)

pub contained : (word : List ℕ) (letter : ℕ) (found : Bool) → found ≡ list_any (λ y. nat_eq y letter) word → found ≡ has_letter word letter
contained word letter found e = e ∙ any_is_has_letter word letter
