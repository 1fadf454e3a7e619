-- A record names its command: every command of the walk fits a record, and is read back from it.
-- Assumes nothing.
use Rattle.std.specs.Prelude.{Ok, Err, Option, None, Some}
use Prim.Native.Nat.{ℕ, zero, suc, ◌+◌, ◌*◌, ◌/◌, ◌%◌, ◌^◌, ◌≤◌, ◌<◌}
use native.Mathlib.Nat.{div-add-mod', mul-le-mul_right}
use native.Mathlib.Omega.{arith}
use mathlib.Core.Path.{◌≡◌, refl, ap, ap₂}
use mathlib.Core.Bool.{Bool, true, false, cond, ◌&&◌}
use mathlib.Core.List.{List, [], ◌∷◌}
use lib.ListN.{length}
use lib.Dec.{leb, eqb}
use borrow.Author.Tests.{leb-true, eqb-true}
use Rattle.rules.specs.declared.Level.{Level}
use Rattle.rules.specs.declared.Level.TheVariants.{First, Second}
use Rattle.rules.specs.declared.Cursor.{Cursor}
use Rattle.rules.specs.declared.Command.{Command}
use Rattle.rules.specs.Step.{Outcome}
use Rattle.rules.specs.Refusals.{Verdict}
use Rattle.rules.specs.Words.{bit, field}
use Rattle.rules.specs.Windows.{Capture, window_limit, lengths_of, window_fault}
use Rattle.rules.specs.Commands.{Length, no_field, exactly, by_bit, groups, rows, row_count, the_row, dword_count, field_right, length_of, group_size, length_right}
use Rattle.rules.specs.Step.{budget, level_number, command_at, step_of}
use Rattle.rules.specs.Walk.{trace, cut, start, walk, commands_of}
use Rattle.rules.specs.Listings.{old_command_of, old_commands_in}
use Rattle.rules.specs.Records.{Recordable, first_word, second_word, command_of, words_of, commands_in}
use Rattle.rules.proofs.Searching.{and_left, and_right}
use Rattle.rules.proofs.Tables.{each, at_each}
use Rattle.rules.proofs.Stepping.{passed, took}
use Rattle.rules.proofs.Ranges.{counted}
use Rattle.rules.proofs.Walking.{walk_sound, walk_unsound}

-- a length rule that never gives 254 dwords or more behind two
short : Length → ℕ → Bool
short no_field size = true
short (exactly f) size = leb f 253
short (by_bit b f g) size = leb f 253 && leb g 253
short (groups n) size = leb 1 size && leb (n * size) 254

shorts_tested : each (λ r. short (the_row r).total (group_size r)) row_count ≡ true
unfolding each rows the_row group_size short
shorts_tested = refl

either_field : (t : Bool) (f g x : ℕ) → x ≡ cond t g f → f ≤ 253 → g ≤ 253 → x ≤ 253
either_field true f g x e p q = omega arith
either_field false f g x e p q = omega arith

whole_groups : (x size n : ℕ) → (x + 1) % size ≡ 0 → (x + 1) / size ≤ n → n * size ≤ 254 → x ≤ 253
whole_groups x size n e l h =
    let d = div-add-mod' (x + 1) size in
    let m : (x + 1) / size * size ≤ n * size = mul-le-mul_right size l in
    omega arith

short_counted : (t : Length) (size header : ℕ) → short t size ≡ true → field_right t size header ≡ true → dword_count t header < 256
unfolding short
short_counted no_field size header s e = omega arith
short_counted (exactly f) size header s e = let p = leb-true f 253 s in let q = eqb-true _ f e in omega arith
short_counted (by_bit b f g) size header s e =
    let p = either_field (bit header b) f g (field header 7 0) (eqb-true _ _ e) (leb-true f 253 (and_left (leb f 253) _ s)) (leb-true g 253 (and_right (leb f 253) _ s)) in
    omega arith
short_counted (groups n) size header s e =
    let x = field header 7 0 in
    let i = and_right (eqb ((x + 1) % size) 0) _ e in
    let p = whole_groups x size n (eqb-true _ 0 (and_left (eqb ((x + 1) % size) 0) _ e)) (leb-true _ n (and_right (leb 1 ((x + 1) / size)) _ i))
    (leb-true (n * size) 254 (and_right (leb 1 size) _ s)) in
    omega arith

pub length_fits : (r header : ℕ) → r < row_count → length_right r header ≡ true → length_of r header < 256
unfolding length_right length_of
length_fits r header h e = short_counted (the_row r).total (group_size r) header (at_each (λ k. short (the_row k).total (group_size k)) row_count shorts_tested r h) e

level_fits : (l : Level) → level_number l < 2
level_fits First = omega arith
level_fits (Second back) = omega arith

-- every command of the walk fits a record
pub fits_record : (c : Capture) (s : Cursor) {k : Command} {a : Option Cursor} → length c.batch ≤ window_limit → step_of c s ≡ Ok (k, a)
    → Recordable k
unfolding command_at
fits_record c s l e =
    let t = took c s e in
    let p = passed c s t.passes in
    let i = p.inside in
    let r = p.known in
    rw t.command
    (record {
      index = omega arith;
      level = level_fits s.level;
      length = length_fits _ _ r p.right;
      row = omega arith;
    })

-- the fields of a record's words, one after the other
module _ (i l : ℕ) (hi : i < 2 ^ 16) (hl : l < 2) where
  index_field : field (i + 2 ^ 16 * l) 15 0 ≡ i
  index_field = omega arith

  level_field : field (i + 2 ^ 16 * l) 16 16 ≡ l
  level_field = omega arith

module _ (n r : ℕ) (hn : n < 256) (hr : r < 256) where
  length_field : field (2 ^ 16 * n + 2 ^ 24 * r) 23 16 ≡ n
  length_field = let e : (2 ^ 16 * n + 2 ^ 24 * r) / 65536 ≡ n + 256 * r = omega arith in rw e (omega arith)

  row_field : field (2 ^ 16 * n + 2 ^ 24 * r) 31 24 ≡ r
  row_field = let e : (2 ^ 16 * n + 2 ^ 24 * r) / 16777216 ≡ r = omega arith in rw e (omega arith)

-- and is read back from it
pub reads_back : (k : Command) → Recordable k → command_of (first_word k) (second_word k) ≡ k
unfolding command_of first_word second_word
reads_back k r =
    let p = index_field k.index k.level r.index r.level in
    let q = level_field k.index k.level r.index r.level in
    let s = row_field k.length k.row r.length r.row in
    let t = length_field k.length k.row r.length r.row in
    λ i. record { index = p i; level = q i; row = s i; length = t i }

-- a list of commands that fit is read back from its words
abbrev pub AllRecordable : List Command → Type 0
AllRecordable [] = Unit {0}
AllRecordable (k ∷ ks) = Recordable k × AllRecordable ks

pub all_read_back : (ks : List Command) → AllRecordable ks → commands_in (words_of ks) ≡ ks
unfolding words_of commands_in
all_read_back [] p = refl
all_read_back (k ∷ ks) p = ap₂ (λ (j : Command) (js : List Command). j ∷ js) (reads_back k p.0) (all_read_back ks p.1)

-- every command that a run tells fits
run_fits : (left m : ℕ) (c : Capture) (s : Cursor) (o : Outcome) → length c.batch ≤ window_limit → step_of c s ≡ o
    → AllRecordable (commands_of (cut m (trace left c s o)))
unfolding trace cut commands_of
run_fits zero m c s o l e = tt
run_fits (suc left) m c s (Err f) l e = tt
run_fits (suc left) zero c s (Ok (k, None)) l e = tt
run_fits (suc left) zero c s (Ok (k, Some t)) l e = tt
run_fits (suc left) (suc m) c s (Ok (k, None)) l e = (fits_record c s l e, tt)
run_fits (suc left) (suc m) c s (Ok (k, Some t)) l e = (fits_record c s l e, run_fits left m c t (step_of c t) l refl)

-- THE RECORDS OF A WALK NAME ITS COMMANDS
pub walk_read_back : (base : Option ℕ) (c : Capture) (room : ℕ)
    → commands_in (words_of (commands_of (walk base c room))) ≡ commands_of (walk base c room)
unfolding commands_of words_of commands_in
walk_read_back base c room = by (window_fault (lengths_of c)) refl
  where
    by : (v : Verdict) → window_fault (lengths_of c) ≡ v
        → commands_in (words_of (commands_of (walk base c room))) ≡ commands_of (walk base c room)
    by (Ok _) e = rw (walk_sound base c room e) (all_read_back _ (run_fits budget room c (start base) (step_of c (start base)) (counted (lengths_of c) e).batch refl))
    by (Err f) e = rw (walk_unsound base c room e)

-- every command that an old listing names fits a record
old_recordable : (words : List ℕ) → AllRecordable (old_commands_in words)
unfolding old_command_of old_commands_in
old_recordable [] = tt
old_recordable (w ∷ ws) = (record { index = omega arith; level = omega arith; length = omega arith; row = omega arith }, old_recordable ws)

-- and there are as many as the listing has words
pub old_counted : (words : List ℕ) → length (old_commands_in words) ≡ length words
unfolding old_commands_in
old_counted [] = refl
old_counted (w ∷ ws) = ap suc (old_counted ws)

-- A TURNED LISTING NAMES THE SAME COMMANDS
pub turned_read_back : (old : List ℕ) → commands_in (words_of (old_commands_in old)) ≡ old_commands_in old
turned_read_back old = all_read_back (old_commands_in old) (old_recordable old)
