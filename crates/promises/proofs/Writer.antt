-- What is written is read back, and any command is written back: from the promise of `writer::write`, the only hypothesis; and one answer only.
-- Assumes nothing.
use Rattle.std.specs.Prelude.{Ok, Err, None}
use Prim.Native.Nat.{ℕ, ◌+◌, ◌≤◌, ◌<◌}
use native.Mathlib.Omega.{arith}
use mathlib.Core.Path.{◌≡◌, refl, sym, ap, ◌∙◌}
use mathlib.Core.Bool.{true}
use mathlib.Core.List.{List, [], ◌∷◌, ◌++◌}
use lib.ListN.{length, get_or, take, drop, length-append, length-drop}
use lib.Seq.{take-length, drop_at, get_or-drop, length-take-le, take-append_seam}
use borrow.Author.Tests.{leb-false, lt-leb, le-ltb, not-false}
use Rattle.rules.specs.declared.Answer.{Answer}
use Rattle.rules.specs.declared.Cursor.{Cursor}
use Rattle.rules.specs.Refusals.{Verdict}
use Rattle.rules.specs.Refusals.{answer_with, AllPass}
use Rattle.rules.specs.Windows.{Capture}
use Rattle.rules.specs.Words.{first_of}
use Rattle.rules.specs.Commands.{Length, no_field, exactly, by_bit, groups, row_count, row_of, dword_count, the_row, length_of, length_right}
use Rattle.rules.specs.Masks.{bit_wrong}
use Rattle.rules.specs.Step.{here, header_at, row_at, length_at, dwords_at, unknown_header, wrong_length, past_the_window, bit_not_allowed}
use Rattle.rules.specs.Writer.{Draft, draft, header_for, command_for, write_verdict, write_count, written_by, Written}
use Rattle.rules.proofs.Trying.{refuse_passes, search_clear}
use Rattle.rules.proofs.Unique.{above_zero}
use Rattle.rules.proofs.Writing.{row_known, has_room, header, header_row, header_free, header_long, header_right, all_kept, written_header, written_back}
use Rattle.promises.specs.Writer.{free_bits, ReadBack, OneCommand, WrittenBack}

-- the words of a buffer in which a command was put
abbrev put : List ℕ → ℕ → List ℕ → List ℕ
put command first old = take first old ++ (command ++ drop (first + length command) old)

module _ (command : List ℕ) (first : ℕ) (old : List ℕ) (fits : first + length command ≤ length old) where
  head_long : length (take first old) ≡ first
  head_long = length-take-le first old (omega arith)

  behind : drop first (put command first old) ≡ command ++ drop (first + length command) old
  behind = drop_at (take first old) _ first head_long

  stands : take (length command) (drop first (put command first old)) ≡ command
  stands = ap (take (length command)) behind ∙ take-append_seam command _

  as_long : length (put command first old) ≡ length old
  as_long =
      length-append (take first old) _
      ∙ ap (λ (n : ℕ). length (take first old) + n) (length-append command _)
      ∙ ap (λ (n : ℕ). n + (length command + length (drop (first + length command) old))) head_long
      ∙ ap (λ (n : ℕ). first + (length command + n)) (length-drop (first + length command) old)
      ∙ omega arith

-- a success has written, and a refusal has a number
verdict_told : (v : Verdict) (n : ℕ) → (answer_with v n).reason ≡ 0 → v ≡ Ok tt
unfolding answer_with
verdict_told (Ok _) n e = refl
verdict_told (Err f) n e = absurd (omega (arith, above_zero f.reason))

module _ {row free : ℕ} {dwords : List ℕ} {first : ℕ} {old : List ℕ} {answer : Answer} {new : List ℕ} (w : Written row free dwords first old answer new)
    (accepted : answer.reason ≡ 0) where
  abbrev d : Draft
  d = draft row free dwords (length old) first

  pass : write_verdict d ≡ Ok tt
  pass = verdict_told (write_verdict d) _ (ap (λ (a : Answer). a.reason) (sym w.answers) ∙ accepted)

  long : length (command_for d) ≡ 1 + length dwords
  unfolding command_for
  long = omega arith

  fits : first + length (command_for d) ≤ length old
  fits = omega (arith, long, has_room d pass)

  new_is : new ≡ put (command_for d) first old
  new_is = w.words ∙ ap (λ (v : Verdict). written_by v (command_for d) first old) pass

  header_is : header_at new first ≡ header d pass
  unfolding command_for
  header_is =
      sym (get_or-drop first new 0 0 ∙ ap (λ (n : ℕ). get_or new n 0) (omega arith))
      ∙ ap (λ (l : List ℕ). get_or l 0 0) (ap (drop first) new_is ∙ behind (command_for d) first old fits)

  row_is : row_at new first ≡ row
  row_is = ap row_of header_is ∙ header_row d pass

  length_is : length_at new first ≡ 1 + length dwords
  length_is = ap (λ (r : ℕ). length_of r (header_at new first)) row_is ∙ ap (length_of row) header_is ∙ header_long d pass

  command_is : dwords_at new first ≡ command_for d
  unfolding dwords_at
  command_is =
      ap (λ (n : ℕ). take n (drop first new)) (length_is ∙ sym long) ∙ ap (λ (l : List ℕ). take (length (command_for d)) (drop first l)) new_is
      ∙ stands (command_for d) first old fits

  new_long : length new ≡ length old
  new_long = ap length new_is ∙ as_long (command_for d) first old fits

  all_pass : (c : Capture) (s : Cursor) → c.batch ≡ new → s.at ≡ first
      → AllPass (unknown_header ∷ wrong_length ∷ past_the_window ∷ bit_not_allowed ∷ []) (here c s)
  unfolding unknown_header wrong_length past_the_window bit_not_allowed
  all_pass c s e f =
      rw (e, f) (
        rw (row_is, lt-leb row_count row (row_known d pass)),
        (
          rw (row_is, header_is, header_right d pass),
          (rw (length_is, le-ltb (length new) (first + (1 + length dwords)) (omega (arith, new_long, has_room d pass))), (rw (length_is, row_is, command_is, all_kept d pass), tt)),
        ),
      )

  after_header : drop 1 (command_for d) ≡ dwords
  unfolding command_for
  after_header = refl

  pub read_back_lem : ReadBack row free dwords first new
  read_back_lem = record {
    row_read = row_is;
    free_read = ap (free_bits row) header_is ∙ header_free d pass;
    length_read = length_is;
    dwords_read = ap (drop 1) command_is ∙ after_header;
    passes = all_pass;
  }

-- a command has a header
tells_some : (l : Length) (header : ℕ) → 1 ≤ dword_count l header
tells_some no_field header = omega arith
tells_some (exactly f) header = omega arith
tells_some (by_bit b f g) header = omega arith
tells_some (groups most) header = omega arith

split : (command : List ℕ) → 1 ≤ length command → command ≡ header_at command 0 ∷ drop 1 command
split [] h = absurd (omega arith)
split (x ∷ rest) h = refl

module _ (command : List ℕ) (o : OneCommand command) where
  abbrev r : ℕ
  r = row_at command 0

  known : r < row_count
  unfolding unknown_header
  known = leb-false row_count r (refuse_passes _ _ o.passes.0)

  right : length_right r (header_at command 0) ≡ true
  unfolding wrong_length
  right = not-false _ (refuse_passes _ _ o.passes.1.0)

  kept : first_of (bit_wrong r (dwords_at command 0)) (length_at command 0) ≡ None
  unfolding bit_not_allowed
  kept = search_clear _ _ _ _ o.passes.1.1.0

  some : 1 ≤ length command
  unfolding length_of
  some = omega (arith, o.whole, tells_some (the_row r).total (header_at command 0))

  dwords_all : dwords_at command 0 ≡ command
  unfolding dwords_at
  dwords_all = ap (λ (n : ℕ). take n command) (sym o.whole) ∙ take-length command

  own : command ≡ header_at command 0 ∷ drop 1 command
  own = split command some

  long_own : 1 + length (drop 1 command) ≡ length_of r (header_at command 0)
  long_own = omega (arith, ap length own, o.whole)

  kept_own : first_of (bit_wrong r (header_at command 0 ∷ drop 1 command)) (1 + length (drop 1 command)) ≡ None
  kept_own =
      ap (first_of (bit_wrong r (header_at command 0 ∷ drop 1 command))) long_own
      ∙ ap (λ (l : List ℕ). first_of (bit_wrong r l) (length_at command 0)) (sym own ∙ sym dwords_all)
      ∙ kept

  pub any_written_back : {first : ℕ} {old : List ℕ} {answer : Answer} {new : List ℕ} → first + length command ≤ length old
      → Written r (free_bits r (header_at command 0)) (drop 1 command) first old answer new → WrittenBack command first answer new
  unfolding answer_with command_for
  any_written_back {first} {old} fits w =
      let room : first + (1 + length (drop 1 command)) ≤ length old = omega (arith, long_own, o.whole) in
      let pass = written_back (header_at command 0) (drop 1 command) o.header r known refl right long_own kept_own (length old) first room in
      let made = written_header (header_at command 0) (drop 1 command) o.header r known refl right long_own kept_own in
      let whole = ap (λ (h : ℕ). h ∷ drop 1 command) made ∙ sym own in
      record {
        accepted = w.answers ∙ ap (λ (v : Verdict). answer_with v (write_count v)) pass;
        same =
            ap (λ (l : List ℕ). take (length command) (drop first l))
            (w.words
            ∙ ap (λ (v : Verdict). written_by v (header_for r (free_bits r (header_at command 0)) (length (drop 1 command)) ∷ drop 1 command) first old) pass
            ∙ ap (λ (l : List ℕ). put l first old) whole)
            ∙ stands command first old fits;
      }
