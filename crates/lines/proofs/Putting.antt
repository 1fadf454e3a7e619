-- What putting bytes into an open line comes to: parts put one behind the other, a text, digits, and the whole line.
-- Assumes nothing.
use Prim.Native.Nat.{ℕ, zero, suc, ◌+◌, ◌-◌, ◌/◌, ◌%◌, ◌<◌, ◌≤◌}
use native.Mathlib.Nat.{add-zero, zero-add}
use native.Mathlib.Omega.{arith}
use mathlib.Core.Path.{◌≡◌, refl, sym, ap, ◌∙◌}
use mathlib.Core.List.{List, [], ◌∷◌, ◌++◌, append_assoc}
use lib.ListN.{length, take, drop, set, length-append}
use lib.Seq.{sets, sets-eq, drop-drop, take_at}
use denote.MutBor.{MutBor}
use borrow.Author.Tests.{lt-ltb, le-ltb}
use borrow.Rule.Slice.PartMut.{put_mid}
use Rattle.rules.specs.Printout.{digits_of}
use Rattle.lines.specs.declared.OpenLine.{OpenLine}
use Rattle.lines.specs.Hexadecimal.{hex_digit, hex_digits}
use Rattle.lines.specs.Lines.{Line}
use Rattle.lines.specs.Writing.{Opens, Puts}

-- a text copied into its place is put there
pub copied : (old new text : List ℕ) (at end : ℕ) → end ≡ at + length text → end ≤ length old → new ≡ text
    → put_mid at (end - at) old new ≡ sets old at text
copied old new text at end e fits same =
    let k : end - at ≡ length text = omega arith in
    rw (same, k, drop-drop) (sym (sets-eq text old at (omega arith) ∙ append_assoc (take at old) text _))

-- stores of one list behind another
sets_append : (l : List ℕ) (i : ℕ) (xs ys : List ℕ) → sets l i (xs ++ ys) ≡ sets (sets l i xs) (i + length xs) ys
sets_append l i [] ys = rw add-zero
sets_append l i (x ∷ xs) ys =
    let e : i + suc (length xs) ≡ suc i + length xs = omega arith in
    rw e (sets_append (set l i x) (suc i) xs ys)

-- two parts, the second behind the first, are one
pub then : {m n : ℕ} {xs ys : List ℕ} {old mid new : OpenLine} → Puts m xs old mid → Puts n ys mid new → Puts (m + n) (xs ++ ys) old new
then {xs = xs} {ys = ys} {old = old} p q = record {
  same_reference = q.same_reference ∙ p.same_reference;
  as_long = q.as_long ∙ p.as_long;
  put = record {
    short = simp length-append (omega (arith, p.put.short, q.put.short));
    ends = simp length-append (omega (arith, p.put.ends, q.put.ends));
    written = rw (q.put.written, p.put.written, p.put.ends, sets_append old.bytes.now old.end xs ys);
  };
}

-- nothing put
pub nothing : {most : ℕ} {line : OpenLine} → Puts most [] line line
nothing = record { same_reference = refl; as_long = refl; put = record { short = omega arith; ends = omega arith; written = refl } }

module _ {old new : OpenLine} where
  -- at most as many bytes as some other bound allows
  bounded : {m n : ℕ} {bytes : List ℕ} → length bytes ≤ n → Puts m bytes old new → Puts n bytes old new
  bounded h p = record {
    same_reference = p.same_reference;
    as_long = p.as_long;
    put = record { short = h; ends = p.put.ends; written = p.put.written };
  }

  -- fewer bytes at most are also more at most
  pub at_most : {m n : ℕ} {bytes : List ℕ} → m ≤ n → Puts m bytes old new → Puts n bytes old new
  at_most h p = bounded (omega (arith, p.put.short)) p

  -- bytes are at most as many as they are
  pub counted : {m : ℕ} {bytes : List ℕ} → Puts m bytes old new → Puts (length bytes) bytes old new
  counted p = bounded (omega arith) p

  -- a line put from its first byte on
  pub from_start : {m : ℕ} {line : List ℕ} → old.end ≡ 0 → m ≤ length old.bytes.now → Puts m line old new
      → Line line old.bytes.now new.end new.bytes.now
  from_start {line = line} start fits p = record {
    fits = omega (arith, p.put.short, p.put.ends);
    counts = omega (arith, p.put.ends);
    written = p.put.written ∙ rw start (sets-eq line old.bytes.now 0 (omega (arith, p.put.short)) ∙ rw zero-add);
  }

  -- a line put into lent bytes, and the length that is told of it
  pub whole : {lent : MutBor (List ℕ)} {m n : ℕ} {line : List ℕ} → Opens lent old → n ≡ new.end → m ≤ length lent.now → Puts m line old new
      → Line line lent.now n new.bytes.now
  whole o told fits p = rw (told, ← o.same_bytes) (from_start o.empty (rw (← o.same_bytes) at fits) p)

-- the digits of a number: none, or one digit alone, or one behind the digits of its tenth
pub no_digit : (most n : ℕ) {line : OpenLine} → most ≡ 0 → Puts most (digits_of most n) line line
unfolding digits_of
no_digit most n e = rw e nothing

module _ {old new : OpenLine} where
  pub only_digit : (most n : ℕ) → (most ≡ 0 → ⊥) → n < 10 → Puts 1 ((48 + n % 10) ∷ []) old new → Puts most (digits_of most n) old new
  unfolding digits_of
  only_digit zero n some l p = absurd (some refl)
  only_digit (suc more) n some l p = simp (lt-ltb n 10 l) (at_most (omega arith) p)

  pub last_digit : (most n : ℕ) {mid : OpenLine} → (most ≡ 0 → ⊥) → 10 ≤ n → Puts (most - 1) (digits_of (most - 1) (n / 10)) old mid
      → Puts 1 ((48 + n % 10) ∷ []) mid new → Puts most (digits_of most n) old new
  unfolding digits_of
  last_digit zero n some l p q = absurd (some refl)
  last_digit (suc more) n some l p q =
      let e : suc more - 1 ≡ more = omega arith in
      simp (le-ltb n 10 l) (at_most (omega arith) (then (rw e at p) q))

-- hexadecimal digits: none, or one behind those of the sixteenth
pub no_hex : (count n : ℕ) {line : OpenLine} → count ≡ 0 → Puts count (hex_digits count n) line line
unfolding hex_digits
no_hex count n e = rw e nothing

pub last_hex : (count n : ℕ) {digit : ℕ} {old mid new : OpenLine} → (count ≡ 0 → ⊥)
    → Puts (count - 1) (hex_digits (count - 1) (n / 16)) old mid → digit ≡ hex_digit (n % 16) → Puts 1 (digit ∷ []) mid new
    → Puts count (hex_digits count n) old new
unfolding hex_digits
last_hex zero n some p d q = absurd (some refl)
last_hex (suc more) n some p d q =
    let e : suc more - 1 ≡ more = omega arith in
    at_most (omega arith) (then (rw e at p) (rw d at q))

-- what stands at the front of the buffer is the line
module _ {line old new : List ℕ} {r : ℕ} where
  pub line_within : Line line old r new → r ≤ length new
  line_within l = omega (arith, l.counts, ap length l.written, length-append line (drop (length line) old))

  pub line_front : Line line old r new → take r new ≡ line
  line_front l = ap (take r) l.written ∙ take_at line (drop (length line) old) r (sym l.counts)
