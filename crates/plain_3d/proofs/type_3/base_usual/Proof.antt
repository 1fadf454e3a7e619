-- `plain_3d::type_3::base_usual` meets its contract: one test after the other.
-- Assumes nothing.
use mathlib.Core.Path.{◌≡◌, refl, sym, ◌∙◌}
use mathlib.Core.Bool.{Bool, ◌&&◌}
use lib.ListN.{get_or}
use borrow.Author.Rules.{rules}
use Rattle.rules.specs.Words.{allowed}
use Rattle.plain_shared.proofs.Tests.{fails, holds}
use Rattle.plain_3d.specs.Usual.{all_keep, low_dwords, high_dwords, last_dwords, usual_base}
use Rattle.plain_3d.proofs.type_3.base_usual.Statement.{statement}
use Rattle.plain_3d.proofs.type_3.base_usual.Tie as tie

-- the place before all tests, from each place behind one
abbrev from_1 : tie.After-four_keep → tie.Start
from_1 c = c.before.before.before.before.before.before.before.before

abbrev kept_1 : tie.After-four_keep-2 → tie.Else-not-allowed-four_keep
kept_1 c = c.before.before.before.before.before.before.before

abbrev from_2 : tie.After-four_keep-2 → tie.Start
from_2 c = from_1 (kept_1 c).before

abbrev kept_2 : tie.After-allowed-3 → tie.Else-not-allowed-four_keep-2
kept_2 c = c.before.before

abbrev Decides : tie.Start → Bool → Type 0
Decides s answer = answer ≡ usual_base s.args.rest.now

-- a mask of five dwords is asked of the first and of the other four
both : {x y a b : Bool} → x ≡ a → y ≡ b → (x && y) ≡ (a && b)
both e f = rw (e, f)

lows : (c : tie.After-four_keep) → let first = c.allowed in
    (first.result && c.four_keep.result) ≡ all_keep (low_dwords (from_1 c).args.rest.now) 0xFFFFF7F1
unfolding all_keep
lows c = both c.allowed.ensures c.four_keep.ensures

highs : (c : tie.After-four_keep-2) → let first = c.allowed-2 in
    (first.result && c.four_keep-2.result) ≡ all_keep (high_dwords (from_2 c).args.rest.now) 0x00007FFF
unfolding all_keep
highs c = both c.allowed-2.ensures c.four_keep-2.ensures

low_kept : (c : tie.Else-not-allowed-four_keep) → let d = (from_1 c.before).args.rest.now in
    Decides (from_1 c.before) (all_keep (high_dwords d) 0x00007FFF && (allowed (get_or d 3 0) 0x007F0000 && all_keep (last_dwords d) 0xFFFFF001))
low_kept c = holds _ (sym (lows c.before) ∙ c.if-not-allowed-four_keep.false) refl

high_kept_lem : (c : tie.Else-not-allowed-four_keep-2) → let d = (from_2 c.before).args.rest.now in
    Decides (from_2 c.before) (allowed (get_or d 3 0) 0x007F0000 && all_keep (last_dwords d) 0xFFFFF001)
high_kept_lem c = holds _ (sym (highs c.before) ∙ c.if-not-allowed-four_keep-2.false) (low_kept (kept_1 c.before))

pub base_usual_spec : {M : Type 1} → statement M
base_usual_spec =
    tie.close
    (tie.spec (λ c. search rules) (λ c κs. search rules) (λ c. search rules) (λ c. search rules) (λ c. search rules) (λ c. search rules) (λ c κs. search rules)
    (λ c. fails _ (sym (lows c.before) ∙ c.if-not-allowed-four_keep.true) refl)
    (λ c. search rules) (λ c κs. search rules) (λ c. search rules) (λ c. search rules) (λ c. search rules) (λ c. search rules) (λ c κs. search rules)
    (λ c. fails _ (sym (highs c.before) ∙ c.if-not-allowed-four_keep-2.true) (low_kept (kept_1 c.before)))
    (λ c. search rules) (λ c κs. search rules)
    (λ c. fails _ (sym c.allowed-3.ensures ∙ c.if-not-allowed.true) (high_kept_lem (kept_2 c.before)))
    (λ c. search rules) (λ c. search rules) (λ c. search rules) (λ c. search rules) (λ c κs. search rules)
    (λ c.
    let test = c.before.before.before.before.before.before in
    c.four_keep-3.ensures ∙ holds _ (sym test.allowed-3.ensures ∙ c.if-not-allowed.false) (high_kept_lem (kept_2 test))))
