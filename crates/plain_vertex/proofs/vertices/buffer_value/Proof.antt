-- `plain_vertex::vertices::buffer_value` meets its contract: its index, its pitch, and its high dword where its address is used.
-- Assumes nothing.
use Prim.Native.Nat.{ℕ}
use mathlib.Core.Path.{◌≡◌, sym, ap, ◌∙◌}
use mathlib.Core.Bool.{Bool, not, ◌&&◌, not-not}
use lib.ListN.{drop}
use borrow.Author.Rules.{rules}
use borrow.Author.Tests.{lt-ltb, le-ltb}
use Rattle.rules.specs.declared.Reason.TheVariants.{ValueBroken}
use Rattle.rules.specs.Commands.{vertex_buffers_row}
use Rattle.rules.specs.Values.{value_wrong}
use Rattle.rules.specs.Refusals.{number_of}
use Rattle.plain_shared.specs.Plain.{first_coded}
use Rattle.plain_shared.proofs.Tests.{answered, refuses, passes}
use Rattle.plain_shared.proofs.Dwords.{high_index, low_index}
use Rattle.plain_vertex.proofs.Buffers.{address_used, high_right, value_tests, values_tested}
use Rattle.plain_vertex.proofs.vertices.buffer_value.Statement.{statement}
use Rattle.plain_vertex.proofs.vertices.buffer_value.Tie as tie

-- the tests behind the first n of them decide
abbrev Left : tie.Start → ℕ → Type 0
Left s n =
    let k = s.args.k in
    let d = s.args.d.now in
    answered (drop n (value_tests d k)) 0 ≡ first_coded ValueBroken (value_wrong vertex_buffers_row d) k 4

all_left : (s : tie.Start) → Left s 0
all_left s = values_tested _ s.args.k s.requires

abbrev start : tie.Else-d-k-gt32 → tie.Start
start c = c.before.before.before

low : (c : tie.Else-d-k-gt32) → Left (start c) 1
low c = passes _ _ (le-ltb _ _ (low_index _ c.if-d-k-gt32.false)) (all_left (start c))

narrow : (c : tie.Else-d-k-gt2048) → Left (start c.before.before) 2
narrow c = passes _ _ (le-ltb _ _ c.if-d-k-gt2048.false) (low c.before.before)

-- what the code has asked of the high dword
high : (c : tie.After-high_right) → let a = (start c.before.before.before.before.before).args in
    not c.high_right.result ≡ (address_used a.d.now a.k && not (high_right a.d.now a.k))
high c =
    let used = c.before.before in
    let a = (start used.before.before.before).args in
    ap not c.high_right.ensures
    ∙ not-not _
    ∙ ap (λ (u : Bool). u && not (high_right a.d.now a.k)) used.buffer_used.ensures

pub buffer_value_spec : {M : Type 1} → statement M
unfolding number_of
buffer_value_spec =
    tie.close
    (tie.spec (λ c. search rules) (λ c. search rules) (λ c κs. search rules)
    (λ c.
    let read = c.before.before in
    let s = read.before.before in
    let above = high_index _ (read.shared_slice_known-2-1.given s.args.k).fits c.if-d-k-gt32.true in
    c.at.ensures ∙ refuses _ _ (lt-ltb _ _ above) (all_left s))
    (λ c. search rules) (λ c. search rules) (λ c κs. search rules)
    (λ c. c.at-then-d-k-gt2048.ensures ∙ refuses _ _ (lt-ltb _ _ c.if-d-k-gt2048.true) (low c.before.before.before))
    (λ c κs. search rules) (λ c. search rules) (λ c. search rules) (λ c. search rules) (λ c κs. search rules) (λ c. search rules) (λ c κs. search rules)
    (λ c.
    let test = c.before.before in
    c.at-then-not-high_right.ensures ∙ refuses _ _ (sym (high test) ∙ c.if-not-high_right.true-raw) (narrow test.before.before.before))
    (λ c. let test = c.before in passes _ _ (sym (high test) ∙ c.if-not-high_right.false-raw) (narrow test.before.before.before)))
