-- `plain_vertex::vertices::buffer_good` meets its contract: its flags, and then its address by its high dword.
-- A test is found by what it says, since its name holds the number that the code asks for.
-- Assumes nothing.
use Prim.Native.Nat.{ℕ, ◌+◌, ◌≤◌}
use lib.ListN.{get_or}
use mathlib.Core.Path.{◌≡◌, refl, sym, ap, ◌∙◌}
use mathlib.Core.Bool.{Bool, true, false, cond, not, ◌&&◌}
use borrow.Author.Rules.{rules}
use borrow.Author.Tests.{lt-ltb, le-ltb}
use Rattle.rules.specs.Commands.{vertex_buffers_row}
use Rattle.rules.specs.Addresses.{range_wrong}
use Rattle.plain_shared.specs.Plain.{clean_from}
use Rattle.plain_shared.proofs.Tests.{fails, holds}
use Rattle.plain_shared.proofs.Dwords.{high_index, low_index}
use Rattle.plain_shared.proofs.LowAddresses.{low_canonical, low_kept}
use Rattle.plain_vertex.proofs.BufferRanges.{unused_fits}
use Rattle.plain_vertex.proofs.Buffers.{flags_kept, index_high, pitch_high, address_used, high_kept, high_right, clean_by_use}
use Rattle.plain_vertex.proofs.vertices.buffer_good.Statement.{statement}
use Rattle.plain_vertex.proofs.vertices.buffer_good.Tie as tie

abbrev Decides : tie.Start → Bool → Type 0
Decides s answer = let a = s.args in answer ≡ clean_from a.w vertex_buffers_row a.d.now a.k 4

-- what is asked last: the address
abbrev address : tie.Start → Bool
address s =
    let a = s.args in
    cond (address_used a.d.now a.k) (high_right a.d.now a.k && not (range_wrong a.w vertex_buffers_row a.d.now (a.k + 1)))
    (high_kept a.d.now a.k)

all_left : (c : tie.After-shared_slice_known-1) → let s = c.before in let a = s.args in
    Decides s (flags_kept a.d.now a.k && (not (index_high a.d.now a.k) && (not (pitch_high a.d.now a.k) && address s)))
all_left c = let s = c.before in sym (clean_by_use _ s.args.k s.requires s.args.w (λ (i : ℕ). (c.shared_slice_known-1.given i).fits))

abbrev known : tie.Else-not-allowed → tie.After-shared_slice_known-1
known c = c.before.before.before

flags_kept_lem : (c : tie.Else-not-allowed) → let s = (known c).before in let a = s.args in
    Decides s (not (index_high a.d.now a.k) && (not (pitch_high a.d.now a.k) && address s))
flags_kept_lem c = holds _ (sym c.allowed.ensures ∙ c.if-not-allowed.false) (all_left (known c))

abbrev flags : tie.Else-d-k-gt32 → tie.Else-not-allowed
flags c = c.before.before

low : (c : tie.Else-d-k-gt32) → let s = (known (flags c)).before in let a = s.args in Decides s (not (pitch_high a.d.now a.k) && address s)
low c = holds _ (ap not (le-ltb _ _ (low_index _ c.if-d-k-gt32.false))) (flags_kept_lem (flags c))

abbrev index : tie.Else-d-k-gt2048 → tie.Else-d-k-gt32
index c = c.before.before

narrow : (c : tie.Else-d-k-gt2048) → let s = (known (flags (index c))).before in Decides s (address s)
narrow c = holds _ (ap not (le-ltb _ _ c.if-d-k-gt2048.false)) (low (index c))

-- of an address below 2^47 nothing is left but its range, which is none where it is not used
below : (used outside : Bool) {right kept : Bool} → right ≡ true → kept ≡ true → (used ≡ false → outside ≡ false)
    → not outside ≡ cond used (right && not outside) kept
below true outside r k u = rw r
below false outside r k u = rw (u refl, k)

pub buffer_good_spec : {M : Type 1} → statement M
buffer_good_spec =
    tie.close
    (tie.spec (λ c. search rules) (λ c. search rules) (λ c κs. search rules)
    (λ c. fails _ (sym c.allowed.ensures ∙ c.if-not-allowed.true) (all_left c.before.before.before))
    (λ c. search rules) (λ c. search rules)
    (λ c.
    let read = c.before in
    let s = (known read.before).before in
    fails _ (ap not (lt-ltb _ _ (high_index _ (read.shared_slice_known-3-1.given s.args.k).fits c.if-d-k-gt32.true))) (flags_kept_lem read.before))
    (λ c. search rules) (λ c. search rules)
    (λ c. fails _ (ap not (lt-ltb _ _ c.if-d-k-gt2048.true)) (low c.before.before))
    (λ c. search rules) (λ c. search rules) (λ c. search rules) (λ c κs. search rules)
    (λ c. c.address_good.ensures ∙ narrow c.before.before.before)
    (λ c κs. search rules)
    (λ c.
    let flagged = c.before.before.before in
    let s = (known (flags (index flagged))).before in
    let high : get_or s.args.d.now (s.args.k + 2) 0 ≤ 0x7FFF = search rules in
    c.buffer_fits.ensures
    ∙ below (address_used s.args.d.now s.args.k) _ (low_canonical _ high) (low_kept _ high) (unused_fits _ _ _ s.requires)
    ∙ narrow flagged))
