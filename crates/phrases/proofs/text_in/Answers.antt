-- `text_in` meets its contract: the element there, and the empty text else.
use Rattle.std.proofs.Common.{◌≡◌, [], List, ℕ, get_or, Bor, Option, sym, ap, ◌∙◌, refl, arith}
use Rattle.std.specs.Option.{unwrap_or, option_copied}
use lib.ListN.{get_or-map}
use Rattle.phrases.specs.Tables.{text_in}
use Rattle.phrases.proofs.text_in.Goals as goal

text_there : (table : List (Bor (List ℕ))) (i : ℕ) (got : Option (Bor (Bor (List ℕ)))) (copy : Option (Bor (List ℕ))) (none found : Bor (List ℕ))
    → ((d : Bor (List ℕ)) → unwrap_or (option_copied got) d ≡ get_or table i d) → copy ≡ option_copied got → found ≡ unwrap_or copy none
    → none.now ≡ [] → found.now ≡ text_in table i
unfolding text_in
text_there table i got copy none found there copied is empty =
    ap (λ (text : Bor (List ℕ)). text.now) (is ∙ ap (λ (o : Option (Bor (List ℕ))). unwrap_or o none) copied ∙ there none)
    ∙ sym (get_or-map (λ (text : Bor (List ℕ)). text.now) table i none)
    ∙ ap (get_or _ i) empty

pub returns : goal.returns
returns c = text_there _ _ c.get.result _ _ _ (c.get.ensures.lookup.4 (omega arith)) c.copied.ensures c.unwrap_or.ensures refl
