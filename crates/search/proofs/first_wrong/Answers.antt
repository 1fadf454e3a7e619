-- `search::first_wrong` meets its contract: each way out of the loops is a law of SearchLaws.
use Rattle.std.proofs.Common.{rules, ◌≡◌, ◌<◌, ◌≤◌, ◌+◌, ◌-◌, ◌%◌, length, ℕ, Bool, false, List}
use native.Mathlib.Nat.{add-zero, add_assoc, zero-mod}
use native.Mathlib.Omega.{arith}
use mathlib.Core.Path.{sym, ap, ◌∙◌}
use mathlib.Core.Bool.{◌&&◌}
use lib.Dec.{eqb, leb}
use borrow.Author.Tests.{leb-true}
use Rattle.rules.proofs.Searching.{and_right}
use Rattle.rules.specs.Commands.{store_row, group_size}
use Rattle.rules.specs.declared.Windows.{Windows}
use Rattle.search.specs.declared.Sought.{Sought}
use Rattle.rows.proofs.RowLaws.{some_size}
use Rattle.search.specs.Search.{wrong_at, wrong, Whole}
use Rattle.search.proofs.SearchLaws.{left_at, left_all, left_more, left_found, left_none}
use Rattle.search.proofs.SearchLaws.{in_group_lem, next_group, groupless, within, header_spot, wrong_at_spot}
use Rattle.search.proofs.first_wrong.Goals as goal

module _ (r : ℕ) {first size j : ℕ} (sized : size ≡ group_size r) (s : 1 ≤ first) (g : (first - 1) % size ≡ 0) (b : j < size) where
  -- a dword that is reached is one of the command's
  inside : {n : ℕ} → Whole r n → first < n → (eqb r store_row && leb n (first + j)) ≡ false → first + j < n
  inside {n} whole h u = within r n first j whole s (rw (← sized) g) h (omega (arith, sized)) u

  -- what the call at a dword of a group says of the search's test
  seen : (what : Sought) (w : Windows) (d : List ℕ) {t : Bool} → t ≡ wrong_at what w r d (first + j) (j + 1) → wrong what w r d (first + j) ≡ t
  seen what w d e = wrong_at_spot what w r d _ _ (rw (← sized) (in_group_lem size first j s g b)) ∙ sym e

-- and the call at the header
header_seen : (what : Sought) (w : Windows) (r : ℕ) (d : List ℕ) {t : Bool} → t ≡ wrong_at what w r d 0 0 → wrong what w r d 0 ≡ t
header_seen what w r d e = wrong_at_spot what w r d 0 0 (header_spot _) ∙ sym e

pub returns-then-wrong_at : goal.returns-then-wrong_at
returns-then-wrong_at c = left_found (left_all _ _) c.requires.1.header (header_seen _ _ _ _ c.wrong_at.ensures ∙ c.if-wrong_at.true)

pub groups-init : goal.groups-init
groups-init c =
    (search rules, search rules, zero-mod _, left_more (left_all _ _) c.requires.1.header (header_seen _ _ _ _ c.wrong_at.ensures ∙ c.if-wrong_at.false))

pub loop-j-init : goal.loop-j-init
loop-j-init c = (omega arith, left_at (sym (add-zero _)) c.groups.invariant.3)

pub overflow_add-k : goal.overflow_add-k
overflow_add-k c = omega arith

pub wrong_at-requires-in-loop-j : goal.wrong_at-requires-in-loop-j
wrong_at-requires-in-loop-j c =
    (inside _ c.group_size-size.ensures c.groups.invariant.0 c.groups.invariant.2 (search rules) c.requires.1 (search rules) c.if-row-len.false, omega (arith, c.group_size-size.ensures), c.requires.0)

pub loop-j-preserved : goal.loop-j-preserved
loop-j-preserved c =
    let here = inside _ c.group_size-size.ensures c.groups.invariant.0 c.groups.invariant.2 (search rules) c.requires.1 (search rules) c.if-row-len.false in
    (omega (arith, here), left_at (add_assoc _ _ 1) (left_more c.loop-j.invariant.1 here (seen _ c.group_size-size.ensures c.groups.invariant.0 c.groups.invariant.2 (search rules) _ _ _ c.wrong_at-in-loop-j.ensures ∙ c.if-wrong_at-2.false)))

pub overflow_add-first : goal.overflow_add-first
overflow_add-first c = omega arith

-- a group that is reached has dwords
pub groups-smaller : goal.groups-smaller
groups-smaller c =
    let some : 0 < c.group_size-size.result =
    some_size _ (length c.args.command.now) (λ e. groupless _ _ c.requires.1 (sym c.group_size-size.ensures ∙ e)) (omega arith) in
    omega (arith, some)

pub groups-preserved : goal.groups-preserved
groups-preserved c =
    let e : c.loop-j.j ≡ c.group_size-size.result = omega arith in (
      omega arith,
      omega arith,
      next_group _ _ 0 c.groups.invariant.0 c.groups.invariant.2,
      left_at (ap (λ (j : ℕ). c.groups.first + j) e) c.loop-j.invariant.1,
    )

pub returns-then-len-first : goal.returns-then-len-first
returns-then-len-first c = left_none c.groups.invariant.3 (search rules)

-- a store ends inside its group where the command does
pub returns-then-row-len : goal.returns-then-row-len
returns-then-row-len c = left_none c.loop-j.invariant.1 (leb-true _ _ (and_right (eqb c.args.row store_row) _ c.if-row-len.true))

pub returns-then-wrong_at-2 : goal.returns-then-wrong_at-2
returns-then-wrong_at-2 c =
    left_found c.loop-j.invariant.1 (inside _ c.group_size-size.ensures c.groups.invariant.0 c.groups.invariant.2 (search rules) c.requires.1 (search rules) c.if-row-len.false)
    (seen _ c.group_size-size.ensures c.groups.invariant.0 c.groups.invariant.2 (search rules) _ _ _ c.wrong_at-in-loop-j.ensures ∙ c.if-wrong_at-2.true)
