-- A table of texts, as the code lends it.
use Rattle.std.specs.Prelude.{ℕ, List, [], map, get_or}
use Rattle.std.specs.Borrow.{Bor}

-- the text at a place: there is none past the end
unfoldable pub text_in : List (Bor (List ℕ)) → ℕ → List ℕ
text_in table i = get_or (map (λ (text : Bor (List ℕ)). text.now) table) i []
