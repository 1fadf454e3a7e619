-- The loop of `run`: the commands done, their words in the record buffer, and what the walk has still to give.
-- Assumes nothing.
use Rattle.std.specs.Prelude.{Ok, Err, Option, Some, None}
use Prim.Native.Nat.{ℕ, suc, ◌+◌, ◌-◌, ◌*◌, ◌^◌, ◌≤◌, ◌<◌}
use native.Mathlib.Nat.{sub-zero}
use native.Mathlib.Omega.{arith}
use mathlib.Core.Path.{◌≡◌, refl, sym, ap, ◌∙◌, subst}
use mathlib.Core.Bool.{Bool, true, false, cond, ◌&&◌}
use mathlib.Core.List.{List, [], ◌∷◌, ◌++◌, append-nil}
use mathlib.Core.Logic.{⊎_elim}
use lib.ListN.{length, get_or, take, drop, set, length-append, take-append-drop}
use lib.Seq.{drop-drop}
use lib.Dec.{eqb}
use borrow.Author.Tests.{eqb-true, eqb-false}
use borrow.Rule.Slice.PartMut.{put_mid, mid_of, post_of, mid_len}
use Rattle.rules.specs.declared.Answer.{Answer}
use Rattle.rules.specs.declared.Cursor.{Cursor}
use Rattle.rules.specs.declared.Command.{Command}
use Rattle.rules.specs.declared.Fault.{Fault}
use Rattle.rules.specs.Refusals.{Verdict}
use Rattle.rules.specs.Words.{bit}
use Rattle.rules.specs.Refusals.{answer_with}
use Rattle.rules.specs.Windows.{Capture, window_limit}
use Rattle.rules.specs.Commands.{base_row}
use Rattle.rules.specs.Step.{budget, spent_at, full_at, new_base, base_after, level_number, command_at, step_of}
use Rattle.rules.specs.Walk.{Run, ended, then, trace, trace_from, cut, start, commands_of, end_of, answer_of}
use Rattle.rules.specs.Records.{first_word, second_word, words_of, words_for, room_of, written_of}
use Rattle.rules.proofs.Listing.{words_counted, no_words, with_record, record_added, with_record_long, room_is, two_set, record_put}
use Rattle.rules.proofs.Running.{follow, commands_follow, end_follows}
use Rattle.rules.proofs.Stepping.{took}
use Rattle.rules.proofs.Places.{refusal_place}
use Rattle.rules.proofs.Moving.{Within, Way, ends, returns, jumps, calls, goes_on, taken_way, same_cursor, ends_nowhere}
use Rattle.rules.proofs.Moving.{stays_within, starts_within}
use Rattle.step.specs.Parts.{SmallBase}
use Rattle.turns.specs.Running.{stop_for, Ran}

-- the commands done stand in the record buffer, the rest of it is as it came, and the walk is these commands and then the run r
pub record SoFar (base : Option ℕ) (c : Capture) (old new : List ℕ) (n : ℕ) (r : Run) : Type 0 where
  pub done : List Command
  pub count : length done ≡ n
  pub stand : new ≡ words_of done ++ drop (words_for n) old
  pub gives : cut (room_of (length old)) (trace_from budget c (start base)) ≡ follow done r

follow_join : (ks ls : List Command) (r : Run) → follow (ks ++ ls) r ≡ follow ks (follow ls r)
unfolding follow
follow_join [] ls r = refl
follow_join (k ∷ ks) ls r = ap (then k) (follow_join ks ls r)

-- nothing more to give: the promise
pub ran : {base : Option ℕ} {c : Capture} {old new : List ℕ} {n : ℕ} {v : Verdict} → SoFar base c old new n (ended v)
    → Ran base c old (answer_with v n) new
unfolding answer_of written_of commands_of end_of
ran {old = old} {n = n} {v = v} s = record {
  answers = rw (s.gives, end_follows s.done (ended v), commands_follow s.done (ended v), append-nil, s.count);
  written = rw (s.gives, commands_follow s.done (ended v), append-nil, words_counted s.done, s.count) s.stand;
}

-- one command more is done, and its record written
pub wrote : {base : Option ℕ} {c : Capture} {old new : List ℕ} {n : ℕ} {k : Command} {r : Run} → SoFar base c old new n (then k r)
    → SoFar base c old (with_record new n k) (n + 1) r
unfolding follow
wrote {old = old} {k = k} {r = r} s = record {
  done = s.done ++ (k ∷ []);
  count = length-append s.done (k ∷ []) ∙ ap (λ (m : ℕ). m + 1) s.count;
  stand = rw s.stand (record_added s.done k old s.count);
  gives = s.gives ∙ sym (follow_join s.done (k ∷ []) r);
}

-- the loop's head: n commands are done, and the walk stands at s, with what is left of the budget and of the room
pub record Going (base : Option ℕ) (c : Capture) (old new : List ℕ) (n : ℕ) (s : Cursor) : Type 0 where
  pub budgeted : n ≤ budget
  pub small : SmallBase s.base
  pub within : Within c s
  pub same : length new ≡ length old
  pub so_far : SoFar base c old new n (cut (room_of (length old) - n) (trace_from (budget - n) c s))

left : (k n : ℕ) → n < k → k - n ≡ suc (k - (n + 1))
left k n h = omega arith

none_left : (k n : ℕ) → k ≤ n → k - n ≡ 0
none_left k n h = omega arith

-- a base that row 9 sets is below 2^48
new_base_small : (d : List ℕ) → new_base d < 2 ^ 48
new_base_small d = omega arith

pub same_base : {a b : ℕ} → Some a ≡ Some b → a ≡ b
same_base q = cc

base_small : (r : ℕ) (d : List ℕ) {base : Option ℕ} → SmallBase base → SmallBase (base_after r d base)
unfolding base_after
base_small r d {base} s = by (eqb r base_row && bit (get_or d 6 0) 0)
  where
    by : (t : Bool) → SmallBase (cond t (Some (new_base d)) base)
    by true = record { small = λ b e. omega (arith, same_base e, new_base_small d) }
    by false = s

small_next : (c : Capture) (s : Cursor) {k : Command} {t : Cursor} → SmallBase s.base → step_of c s ≡ Ok (k, Some t)
    → SmallBase t.base
small_next c s {k} {t} m e = by (Some t) refl (taken_way c s e)
  where
    by : (a : Option Cursor) → a ≡ Some t → Way c s a → SmallBase t.base
    by a q (ends r l) = absurd (ends_nowhere q)
    by a q (returns r l) = rw (← same_cursor q) m
    by a q (jumps r b) = rw (← same_cursor q) m
    by a q (calls r b) = rw (← same_cursor q) m
    by a q (goes_on r n) = rw (← same_cursor q) (base_small _ _ m)

begun : (base : Option ℕ) (c : Capture) (old : List ℕ) → SmallBase base → Going base c old old 0 (start base)
unfolding words_of follow
begun base c old m = record {
  budgeted = omega arith;
  small = m;
  within = starts_within c base;
  same = refl;
  so_far = record {
    done = [];
    count = refl;
    stand = rw no_words;
    gives = ap (λ (k : ℕ). cut k (trace_from budget c (start base))) (sym (sub-zero (room_of (length old))));
  };
}

pub started : {base : Option ℕ} {s : Cursor} (c : Capture) (old : List ℕ) → s ≡ start base → SmallBase base
    → Going s.base c old old 0 s
started {base} c old e m = rw e (begun base c old m)

-- what is shown from the cursor's own base is shown from the base it was given
pub from_start : {base : Option ℕ} {s : Cursor} {c : Capture} {old new : List ℕ} {r : Answer} → s ≡ start base
    → Ran s.base c old r new → Ran base c old r new
from_start {base} {s} {c} {old} {new} {r} e x = subst (λ (b : Option ℕ). Ran b c old r new) (ap (λ (t : Cursor). t.base) e) x

-- what each way out of a turn, and the turn itself, makes of it
module _ {base : Option ℕ} {c : Capture} {old new : List ℕ} {n : ℕ} {s : Cursor} (g : Going base c old new n s) where
  pub out_of_budget : budget ≤ n → Ran base c old (answer_with (Err (spent_at s.at)) n) new
  unfolding trace cut
  out_of_budget h = ran (rw (none_left budget n h) at g.so_far)

  pub refused : {f : Fault} → n < budget → step_of c s ≡ Err f → Ran base c old (answer_with (Err f) n) new
  unfolding trace cut
  refused h e = ran (rw (left budget n h, e) at g.so_far)

  no_room : {k : Command} (a : Option Cursor) → n < budget → room_of (length old) ≤ n → step_of c s ≡ Ok (k, a)
      → SoFar base c old new n (ended (Err (full_at k.index)))
  unfolding trace cut
  no_room None h l e = rw (left budget n h, none_left (room_of (length old)) n l, e) at g.so_far
  no_room (Some t) h l e = rw (left budget n h, none_left (room_of (length old)) n l, e) at g.so_far

  index_is : {k : Command} {a : Option Cursor} → step_of c s ≡ Ok (k, a) → k.index ≡ s.at
  unfolding command_at
  index_is e = ap (λ (k : Command). k.index) (took c s e).command

  pub level_is : {k : Command} {a : Option Cursor} → step_of c s ≡ Ok (k, a) → level_number s.level ≡ k.level
  unfolding command_at
  level_is e = ap (λ (k : Command). k.level) (sym (took c s e).command)

  pub full : {k : Command} {a : Option Cursor} → n < budget → room_of (length old) ≤ n → step_of c s ≡ Ok (k, a)
      → Ran base c old (answer_with (Err (full_at s.at)) n) new
  full {a = a} h l e = rw (← index_is e) (ran (no_room a h l e))

  pub last : {k : Command} → n < budget → n < room_of (length old) → step_of c s ≡ Ok (k, None)
      → Ran base c old (answer_with (Ok tt) (n + 1)) (with_record new n k)
  unfolding trace cut
  last h l e = ran (wrote (rw (left budget n h, left (room_of (length old)) n l, e) at g.so_far))

  pub next : {k : Command} {t : Cursor} → n < budget → n < room_of (length old) → step_of c s ≡ Ok (k, Some t)
      → Going base c old (with_record new n k) (n + 1) t
  unfolding trace cut
  next h l e = record {
    budgeted = omega arith;
    small = small_next c s g.small e;
    within = stays_within c s g.within e;
    same = with_record_long new _ (omega (arith, ap room_of g.same)) ∙ g.same;
    so_far = wrote (rw (left budget n h, left (room_of (length old)) n l, e) at g.so_far);
  }

  -- a command that is not taken stops the run: for the budget, where that is spent, and else for its own fault
  pub stops : (f : Fault) → (n < budget → Ran base c old (answer_with (Err f) n) new)
      → Ran base c old (answer_with (Err (stop_for f s.at n)) n) new
  stops f h = by (eqb n budget) refl
    where
      by : (t : Bool) → eqb n budget ≡ t → Ran base c old (answer_with (Err (cond t (spent_at s.at) f)) n) new
      by true e = out_of_budget (omega (arith, eqb-true n budget e))
      by false e = h (let m = eqb-false n budget e in omega (arith, g.budgeted))

-- the room for records is what the buffer has, or the budget
module _ {base : Option ℕ} {c : Capture} {old new : List ℕ} {n : ℕ} {s : Cursor} (g : Going base c old new n s) {room : ℕ}
    (m : (room ≤ room_of (length old)) × (room ≤ budget) × (room < budget → room ≡ room_of (length old))) where
  pub none_left_there : n ≡ room → n < budget → room_of (length old) ≤ n
  none_left_there e h = let z = m.2 (omega arith) in omega arith

  pub some_left : n ≤ room → (n ≡ room → ⊥) → (n < budget) × (n < room_of (length old)) × (n < room_of (length new)) × (n < room)
  some_left l e =
      let z : n < room = omega arith in
      let there : n < room_of (length old) = omega (arith, m.0) in
      (omega (arith, m.1), there, rw g.same there, z)

-- two words set at the front of a list, where it has two
front_set : (l : List ℕ) (first second : ℕ) → 1 < length l → set (set l 0 first) 1 second ≡ first ∷ second ∷ drop 2 l
front_set [] first second h = absurd (omega arith)
front_set (x ∷ []) first second h = absurd (omega arith)
front_set (x ∷ y ∷ l) first second h = refl

two_behind : (l more : List ℕ) → 1 < length l → drop 2 l ++ more ≡ drop 2 (l ++ more)
two_behind [] more h = absurd (omega arith)
two_behind (x ∷ []) more h = absurd (omega arith)
two_behind (x ∷ y ∷ l) more h = refl

-- a write to the first two words of the tail behind n records is the record of one command more
pub tail_written : (n : ℕ) (k : Command) (l : List ℕ) → n < room_of (length l)
    → put_mid (2 * n) (length l - 2 * n) l (set (set (mid_of (2 * n) (length l - 2 * n) l) 0 (first_word k)) 1 (second_word k)) ≡ with_record l n k
tail_written n k l h =
    let m = 2 * n in
    let there : m + 1 < length l = omega (arith, room_is (length l)) in
    let mid = mid_of m (length l - m) l in
    let post = post_of m (length l - m) l in
    let long : 1 < length mid = simp (mid_len m (length l) l (omega arith)) (omega arith) in
    let front = front_set mid (first_word k) (second_word k) long in
    let behind : drop 2 mid ++ post ≡ drop (m + 2) l =
    two_behind mid post long ∙ ap (drop 2) (take-append-drop (length l - m) (drop m l)) ∙ drop-drop 2 m l in
    ap (λ (ws : List ℕ). take m l ++ (ws ++ post)) front ∙ ap (λ (ws : List ℕ). take m l ++ (first_word k ∷ second_word k ∷ ws)) behind
    ∙ sym (two_set l m (first_word k) (second_word k) there) ∙ record_put l n k h

-- the places that are answered fit 32 bits
module _ {base : Option ℕ} {c : Capture} {old new : List ℕ} {n : ℕ} {s : Cursor} (g : Going base c old new n s) where
  pub small_at : length c.batch ≤ window_limit → (0 < 2 ^ 32) × (s.at < 2 ^ 32) × (n < 2 ^ 32)
  small_at l = let a = g.within.position in let b = g.budgeted in (omega arith, omega arith, omega arith)

  pub small_place : {f : Fault} → length c.batch ≤ window_limit → length c.state ≤ window_limit → step_of c s ≡ Err f
      → (f.window < 2 ^ 32) × (f.index < 2 ^ 32) × (n < 2 ^ 32)
  small_place l m e =
      let b = g.budgeted in
      ⊎_elim (λ q. (omega (arith, q.0), omega (arith, q.1), omega arith))
      (λ q. (omega (arith, q.0), omega (arith, q.1), omega arith))
      (refusal_place c s g.within e)
