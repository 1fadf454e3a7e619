-- `plain_vertex::vertices::element_value` meets its contract: its index, its format, and its controls.
-- Assumes nothing.
use Prim.Native.Nat.{ℕ, ◌+◌}
use native.Mathlib.Omega.{arith}
use mathlib.Core.Path.{◌≡◌, refl, ◌∙◌}
use mathlib.Core.Bool.{cond, ◌||◌, or-false, not, not-not}
use mathlib.Core.List.{List, [], ◌∷◌}
use lib.Dec.{eqb, ltb}
use lib.ListN.{get_or, drop}
use borrow.Author.Rules.{rules}
use borrow.Author.Tests.{lt-ltb, le-ltb}
use Rattle.rules.specs.declared.Reason.TheVariants.{ValueBroken}
use Rattle.rules.specs.Words.{field}
use Rattle.rules.specs.Refusals.{number_of}
use Rattle.rules.specs.Formats.{format_bits}
use Rattle.rules.specs.Commands.{vertex_elements_row, rows, the_row, group_size}
use Rattle.rules.specs.Values.{components_wrong, value_rules, rule_of, value_wrong}
use Rattle.rules.specs.Uses.{uses_by_row, access_of, used_high_of}
use Rattle.plain_shared.specs.Plain.{first_coded}
use Rattle.plain_shared.proofs.Tests.{Test, asked, answered, refuses, passes, one_by_one, in_two}
use Rattle.plain_shared.proofs.Dwords.{value_in, high_index, low_index}
use Rattle.plain_vertex.proofs.vertices.element_value.Statement.{statement}
use Rattle.plain_vertex.proofs.vertices.element_value.Tie as tie

-- what the functions asked say is yes where nothing is wrong, and the code asks for no
abbrev tests : List ℕ → ℕ → List Test
tests d k =
    (ltb 32 (field (get_or d k 0) 31 26), 3072 + k)
    ∷ (not (not (eqb (format_bits (field (get_or d k 0) 24 16)) 0)), 3072 + k)
    ∷ (not (not (components_wrong (get_or d (k + 1) 0))), 3072 + (k + 1))
    ∷ []

-- the tests behind the first n of them decide
abbrev Left : tie.Start → ℕ → Type 0
Left s n = let k = s.args.k in let d = s.args.d.now in answered (drop n (tests d k)) 0 ≡ first_coded ValueBroken (value_wrong vertex_elements_row d) k 2

all_left : (s : tie.Start) → Left s 0
unfolding rows the_row group_size value_rules rule_of number_of uses_by_row access_of used_high_of
all_left s =
    let d = s.args.d.now in
    let k = s.args.k in
    let index = ltb 32 (field (get_or d k 0) 31 26) in
    let format = eqb (format_bits (field (get_or d k 0) 24 16)) 0 in
    let controls = components_wrong (get_or d (k + 1) 0) in
    rw (not-not format, not-not controls)
    (one_by_one index format (3072 + k) (cond controls (3072 + (k + 1)) 0)
    ∙ in_two _ _ k (value_in vertex_elements_row refl _ _ s.requires.0 0 (omega arith) (omega arith) refl ∙ or-false (index || format))
    (value_in vertex_elements_row refl _ _ s.requires.0 1 (omega arith) refl refl))

abbrev start : tie.Else-word-gt32 → tie.Start
start c = c.before.before.before

low : (c : tie.Else-word-gt32) → Left (start c) 1
low c = passes _ _ (le-ltb _ _ (low_index _ c.if-word-gt32.false)) (all_left (start c))

known : (c : tie.Else-not-known_format) → Left (start c.before.before) 2
known c = passes _ _ (asked c.known_format.ensures c.if-not-known_format.false-raw) (low c.before.before)

pub element_value_spec : {M : Type 1} → statement M
unfolding number_of
element_value_spec =
    tie.close
    (tie.spec (λ c. search rules) (λ c. search rules) (λ c κs. search rules)
    (λ c.
    let read = c.before.before in
    let s = read.before.before in
    let high = high_index _ (read.shared_slice_known-2-1.given s.args.k).fits c.if-word-gt32.true in
    c.at.ensures ∙ refuses _ _ (lt-ltb _ _ high) (all_left s))
    (λ c κs. search rules) (λ c κs. search rules)
    (λ c. c.at-then-not-known_format.ensures ∙ refuses _ _ (asked c.known_format.ensures c.if-not-known_format.true-raw) (low c.before.before.before))
    (λ c. search rules) (λ c. search rules) (λ c. search rules)
    (λ c κs. let known = c.before in (start known.before.before).requires.1) (λ c. search rules) (λ c κs. search rules)
    (λ c. let test = c.before.before in c.at-then-not-controls_good.ensures ∙ refuses _ _ (asked test.controls_good.ensures c.if-not-controls_good.true-raw) (known test.before.before))
    (λ c. passes _ _ (asked c.controls_good.ensures c.if-not-controls_good.false-raw) (known c.before.before.before)))
