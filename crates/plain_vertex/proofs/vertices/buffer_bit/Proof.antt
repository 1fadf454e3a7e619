-- `plain_vertex::vertices::buffer_bit` meets its contract: the first dword of a buffer has a mask, and so has the third where its address is not used.
-- Assumes nothing.
use Prim.Native.Nat.{ℕ}
use mathlib.Core.Path.{◌≡◌, ap, ◌∙◌}
use mathlib.Core.Bool.{Bool, ◌||◌}
use lib.ListN.{drop}
use borrow.Author.Rules.{rules}
use Rattle.rules.specs.declared.Reason.TheVariants.{BitNotAllowed}
use Rattle.rules.specs.Commands.{vertex_buffers_row}
use Rattle.rules.specs.Masks.{bit_wrong}
use Rattle.rules.specs.Refusals.{number_of}
use Rattle.plain_shared.specs.Plain.{first_coded}
use Rattle.plain_shared.proofs.Tests.{asked, answered, refuses, passes}
use Rattle.plain_vertex.proofs.Buffers.{address_used, high_kept, bit_tests, bits_tested}
use Rattle.plain_vertex.proofs.vertices.buffer_bit.Statement.{statement}
use Rattle.plain_vertex.proofs.vertices.buffer_bit.Tie as tie

-- the tests behind the first n of them decide
abbrev Left : tie.Start → ℕ → Type 0
Left s n =
    let k = s.args.k in
    let d = s.args.d.now in
    answered (drop n (bit_tests d k)) 0 ≡ first_coded BitNotAllowed (bit_wrong vertex_buffers_row d) k 4

all_left : (c : tie.After-shared_slice_known-1) → Left c.before 0
all_left c = let s = c.before in bits_tested _ s.args.k s.requires (λ (i : ℕ). (c.shared_slice_known-1.given i).fits)

abbrev known : tie.Else-not-allowed → tie.After-shared_slice_known-1
known c = c.before.before.before

first_kept : (c : tie.Else-not-allowed) → Left (known c).before 1
first_kept c = passes _ _ (asked c.allowed.ensures c.if-not-allowed.false-raw) (all_left (known c))

-- what the code has asked of the high dword
high : (c : tie.After-high_kept) → let a = (known c.before.before.before).args in
    c.high_kept.result ≡ (address_used a.d.now a.k || high_kept a.d.now a.k)
high c =
    let used = c.before.before in
    let a = (known used.before).args in
    c.high_kept.ensures ∙ ap (λ (u : Bool). u || high_kept a.d.now a.k) used.buffer_used.ensures

pub buffer_bit_spec : {M : Type 1} → statement M
unfolding number_of
buffer_bit_spec =
    tie.close
    (tie.spec (λ c. search rules) (λ c. search rules) (λ c κs. search rules) (λ c κs. search rules)
    (λ c.
    let test = c.before.before in
    c.at.ensures ∙ refuses _ _ (asked test.allowed.ensures c.if-not-allowed.true-raw) (all_left test.before.before))
    (λ c κs. search rules) (λ c. search rules) (λ c. search rules) (λ c. search rules) (λ c κs. search rules) (λ c. search rules) (λ c κs. search rules)
    (λ c.
    let test = c.before.before in
    c.at-then-not-high_kept.ensures ∙ refuses _ _ (asked (high test) c.if-not-high_kept.true-raw) (first_kept test.before.before.before))
    (λ c. let test = c.before in passes _ _ (asked (high test) c.if-not-high_kept.false-raw) (first_kept test.before.before.before)))
