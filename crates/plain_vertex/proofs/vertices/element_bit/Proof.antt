-- `plain_vertex::vertices::element_bit` meets its contract: both dwords of an element have a mask.
-- Assumes nothing.
use Prim.Native.Nat.{ℕ, ◌+◌}
use native.Mathlib.Omega.{arith}
use mathlib.Core.Path.{◌≡◌, refl, ◌∙◌}
use mathlib.Core.Bool.{not}
use mathlib.Core.List.{List, [], ◌∷◌}
use lib.ListN.{get_or, drop}
use borrow.Author.Rules.{rules}
use Rattle.rules.specs.declared.Reason.TheVariants.{BitNotAllowed}
use Rattle.rules.specs.Words.{allowed}
use Rattle.rules.specs.Refusals.{number_of}
use Rattle.rules.specs.Commands.{vertex_elements_row, rows, the_row, group_size}
use Rattle.rules.specs.Masks.{masks_of, bit_wrong}
use Rattle.rules.specs.Uses.{uses_by_row, access_of, used_high_of}
use Rattle.plain_shared.specs.Plain.{first_coded}
use Rattle.plain_shared.proofs.Tests.{Test, asked, answered, refuses, passes, in_two}
use Rattle.plain_shared.proofs.Dwords.{bit_in}
use Rattle.plain_vertex.proofs.vertices.element_bit.Statement.{statement}
use Rattle.plain_vertex.proofs.vertices.element_bit.Tie as tie

abbrev tests : List ℕ → ℕ → List Test
tests d k = (not (allowed (get_or d k 0) 0xFFFF8FFF), 2560 + k) ∷ (not (allowed (get_or d (k + 1) 0) 0x77770000), 2560 + (k + 1)) ∷ []

-- the tests behind the first n of them decide
abbrev Left : tie.Start → ℕ → Type 0
Left s n = let k = s.args.k in let d = s.args.d.now in answered (drop n (tests d k)) 0 ≡ first_coded BitNotAllowed (bit_wrong vertex_elements_row d) k 2

all_left : (c : tie.After-shared_slice_known-1) → Left c.before 0
unfolding rows the_row group_size uses_by_row access_of used_high_of masks_of number_of
all_left c =
    let s = c.before in
    let k = s.args.k in
    in_two _ _ k (bit_in vertex_elements_row refl _ _ s.requires 0 (omega arith) (omega arith) refl refl)
    (bit_in vertex_elements_row refl _ _ s.requires 1 (omega arith) refl refl refl)

first_kept : (c : tie.Else-not-allowed) → let start = c.before.before.before.before in Left start 1
first_kept c = passes _ _ (asked c.allowed.ensures c.if-not-allowed.false-raw) (all_left c.before.before.before)

pub element_bit_spec : {M : Type 1} → statement M
unfolding number_of
element_bit_spec =
    tie.close
    (tie.spec (λ c. search rules) (λ c. search rules) (λ c κs. search rules) (λ c κs. search rules)
    (λ c.
    let test = c.before.before in
    c.at.ensures ∙ refuses _ _ (asked test.allowed.ensures c.if-not-allowed.true-raw) (all_left test.before.before))
    (λ c. search rules) (λ c. search rules) (λ c. search rules) (λ c κs. search rules) (λ c. search rules) (λ c κs. search rules)
    (λ c.
    let test = c.before.before in
    c.at-then-not-allowed-2.ensures ∙ refuses _ _ (asked test.allowed-2.ensures c.if-not-allowed-2.true-raw) (first_kept test.before.before))
    (λ c. let test = c.before in passes _ _ (asked test.allowed-2.ensures c.if-not-allowed-2.false-raw) (first_kept test.before.before)))
