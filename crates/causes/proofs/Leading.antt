-- Where commands lead, one command more at the end: it is where that last command leads, by the position that those before it keep.
-- Assumes nothing.
use Prim.Native.Nat.{ℕ, suc, ◌+◌, ◌-◌, ◌≤◌, ◌<◌}
use native.Mathlib.Omega.{arith}
use mathlib.Core.Path.{◌≡◌, refl, sym, ap, ◌∙◌}
use mathlib.Core.Bool.{Bool, true, false, cond, ◌&&◌}
use mathlib.Core.List.{List, [], ◌∷◌, ◌++◌}
use lib.ListN.{length, get_or, take}
use lib.Dec.{leb, ltb}
use lib.Seq.{take-suc}
use borrow.Author.Tests.{leb-true, ltb-true, le-leb, lt-ltb}
use Rattle.rules.specs.declared.Command.{Command}
use Rattle.rules.specs.Uses.{pair_address, address_at}
use Rattle.rules.specs.Step.{row_at, length_at, dwords_at}
use Rattle.rules.specs.Records.{Recordable, command_of, commands_in, words_for, room_of}
use Rattle.rules.proofs.Listing.{commands_counted, command_at_lem, commands_taken, room_is, words_for_is}
use Rattle.clauses.specs.declared.Detail.TheVariants.{NoMore}
use Rattle.causes.specs.Causes.{command_named, kept_by, leads_to, kept_after, stands_after, position_after, reach_with, reach_at}

kept_more : (kept : ℕ) (ks : List Command) (k : Command) → kept_after kept (ks ++ (k ∷ [])) ≡ kept_by (kept_after kept ks) k
unfolding kept_after
kept_more kept [] k = refl
kept_more kept (l ∷ ks) k = kept_more (kept_by kept l) ks k

stands_more : (batch : List ℕ) (batch_at at kept : ℕ) (ks : List Command) (k : Command)
    → stands_after batch batch_at at kept (ks ++ (k ∷ [])) ≡ leads_to batch batch_at (kept_after kept ks) k
unfolding kept_after stands_after
stands_more batch batch_at at kept [] k = refl
stands_more batch batch_at at kept (l ∷ ks) k = stands_more batch batch_at (leads_to batch batch_at kept l) (kept_by kept l) ks k

-- no command at all
abbrev no_command : Command
no_command = record { index = 0; level = 0; row = 0; length = 0 }

module _ (records : List ℕ) where
  -- the commands of the first records, one record more
  next_command : (i : ℕ) → words_for (i + 1) ≤ length records
      → commands_in (take (words_for (i + 1)) records) ≡ commands_in (take (words_for i) records) ++ (command_named records i ∷ [])
  next_command i h =
      let cs = commands_in records in
      let there : i < room_of (length records) = omega (arith, words_for_is (i + 1), room_is (length records)) in
      let e : i + 1 ≡ suc i = omega arith in
      commands_taken (i + 1) records
      ∙ ap (λ (n : ℕ). take n cs) e
      ∙ take-suc cs i no_command (omega (arith, commands_counted records))
      ∙ ap (λ (k : Command). take i cs ++ (k ∷ [])) (command_at_lem records i no_command there)
      ∙ ap (λ (ks : List Command). ks ++ (command_named records i ∷ [])) (sym (commands_taken i records))

  pub next_kept : (i : ℕ) → words_for (i + 1) ≤ length records
      → kept_by (kept_after 0 (commands_in (take (words_for i) records))) (command_named records i) ≡ kept_after 0 (commands_in (take (words_for (i + 1)) records))
  next_kept i h = rw (next_command i h, kept_more 0 (commands_in (take (words_for i) records)) (command_named records i))

  pub stands_at_last : (batch : List ℕ) (batch_at count : ℕ) → (count ≡ 0 → ⊥) → words_for count ≤ length records
      → leads_to batch batch_at (kept_after 0 (commands_in (take (words_for (count - 1)) records))) (command_named records (count - 1))
      ≡ position_after batch batch_at records count
  stands_at_last batch batch_at count some h =
      let e : count ≡ count - 1 + 1 = omega arith in
      let n : words_for (count - 1 + 1) ≤ length records = rw (← e) h in
      let last = ap (λ (m : ℕ). commands_in (take (words_for m) records)) e ∙ next_command (count - 1) n in
      rw (last, stands_more batch batch_at 0 0 (commands_in (take (words_for (count - 1)) records)) (command_named records (count - 1)))

-- the numbers of a record are small
pub record_small : (first second : ℕ) → Recordable (command_of first second)
unfolding command_of
record_small first second = record { index = omega arith; level = omega arith; length = omega arith; row = omega arith }

-- the address of a start, by its two dwords
pub address_behind : (batch : List ℕ) (i : ℕ) → pair_address (get_or batch (i + 1) 0) (get_or batch (i + 2) 0) ≡ address_at batch (i + 1)
unfolding address_at
address_behind batch i = let e : i + 2 ≡ i + 1 + 1 = omega arith in rw e

-- a dword that the command at a position does not have reaches nothing
pub no_reach : (batch : List ℕ) (at k : ℕ) → (at + length_at batch at ≤ length batch → k < length_at batch at → ⊥) → NoMore ≡ reach_at batch at k
unfolding reach_at
no_reach batch at k none = by (leb (at + length_at batch at) (length batch)) (ltb k (length_at batch at)) refl refl
  where
    by : (a b : Bool) → leb (at + length_at batch at) (length batch) ≡ a → ltb k (length_at batch at) ≡ b
        → NoMore ≡ cond (a && b) (reach_with (row_at batch at) (dwords_at batch at) k) NoMore
    by true true p q = absurd (none (leb-true _ _ p) (ltb-true _ _ q))
    by true false p q = refl
    by false b p q = refl

-- and one that it has reaches what the rules say
pub reaches : (batch : List ℕ) (at k : ℕ) → at + length_at batch at ≤ length batch → k < length_at batch at
    → reach_with (row_at batch at) (dwords_at batch at) k ≡ reach_at batch at k
unfolding reach_at
reaches batch at k whole own = rw (le-leb _ _ whole, lt-ltb _ _ own)
