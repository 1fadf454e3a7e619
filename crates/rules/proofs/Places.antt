-- The place of a refusal is a dword of the window that it names, or the batch's end.
-- Assumes nothing.
use Rattle.std.specs.Prelude.{Ok, Err, Option, Some, None}
use Prim.Native.Nat.{ℕ, ◌+◌, ◌-◌, ◌*◌, ◌/◌, ◌≤◌, ◌<◌}
use native.Mathlib.Omega.{arith}
use mathlib.Core.Path.{◌≡◌, refl, sym, ◌∙◌}
use mathlib.Core.Bool.{Bool, true, false, cond, not, ◌&&◌, ◌||◌}
use mathlib.Core.List.{List, [], ◌∷◌}
use mathlib.Core.Logic.{◌⊎◌, inl, inr, ⊎_elim}
use lib.ListN.{length, get_or}
use lib.Dec.{eqb, leb, ltb}
use borrow.Author.Tests.{eqb-true, ltb-false}
use Rattle.rules.specs.declared.Held.{Held}
use Rattle.rules.specs.declared.Held.TheVariants.{InBatch, InState}
use Rattle.rules.specs.declared.Kind.{Kind}
use Rattle.rules.specs.declared.Cursor.{Cursor}
use Rattle.rules.specs.declared.Fault.{Fault}
use Rattle.rules.specs.Refusals.{Verdict}
use Rattle.rules.specs.declared.Reason.{Reason}
use Rattle.rules.specs.declared.Reason.TheVariants.{WrongCounts, AddressUnaligned, EndsTooHigh, WindowsShare, RanOff}
use Rattle.rules.specs.declared.Reason.TheVariants.{UnknownHeader, WrongLength, PastTheWindow, NestedStart}
use Rattle.rules.specs.declared.Reason.TheVariants.{BitNotAllowed, FileSize, FileDistance, BufferShort, NoRoom}
use Rattle.rules.specs.Words.{bit, allowed, some, some_two, first_of}
use Rattle.rules.specs.Masks.{bit_wrong}
use Rattle.rules.specs.Refusals.{batch_window, state_window, fault, refuse_if, refuse_found, tried, first_fault}
use Rattle.rules.specs.Windows.{Capture, Lengths, window_limit, listed, counts_wrong, unaligned, ends_too_high, share_byte, window_checks, window_fault, lent, holds, holds_dwords, held_at}
use Rattle.rules.specs.Commands.{exactly, rows, row_count, the_row, length_of, group_size, length_right}
use Rattle.rules.specs.Structures.{Asked, asked_at, layout_of, nowhere, held_window, held_from, structure_nowhere, structure_bit, structure_value, structure_checks}
use Rattle.rules.specs.Step.{here, header_at, row_at, length_at, dwords_at, pointer_of, nested, base_missing, pointed}
use Rattle.rules.specs.Step.{ran_off, unknown_header, wrong_length, past_the_window, bit_not_allowed, nested_start, value_broken}
use Rattle.rules.specs.Step.{range_outside, base_never_set, step_checks, step_of}
use Rattle.rules.specs.Writer.{Draft, count_right, command_for, some_from, row_unknown, count_wrong, bit_stray, room_short, write_checks, write_verdict}
use Rattle.rules.specs.File.{Offer, size_wrong, distance_wrong, file_counts_wrong, buffer_short, file_checks}
use Rattle.rules.proofs.Searching.{never_both, first_found, and_left}
use Rattle.rules.proofs.Trying.{fails_not_pass, same_fault, stays_failed, refuse_passes}
use Rattle.rules.proofs.Ranges.{inside}
use Rattle.rules.proofs.Stepping.{refused_by}
use Rattle.rules.proofs.Moving.{Within}

-- a place in the batch, its end included, or a place in the state
abbrev pub InPlace : Capture → Fault → Type 0
InPlace c f = ((f.window ≡ batch_window) × (f.index ≤ length c.batch)) ⊎ ((f.window ≡ state_window) × (f.index < length c.state))

-- what a check that fails says
pub given_fault : (t : Bool) {g f : Fault} → refuse_if t g ≡ Err f → (t ≡ true) × (g ≡ f)
given_fault true e = (refl, same_fault e)
given_fault false e = absurd (fails_not_pass (sym e))

pub record FoundAt (reason : Reason) (window from n : ℕ) (f : Fault) : Type 0 where
  pub at : ℕ
  pub below : at < n
  pub is : fault reason window (from + at) ≡ f

pub found_fault : (reason : Reason) (window from n : ℕ) (bad : ℕ → Bool) {f : Fault}
    → refuse_found reason window from (first_of bad n) ≡ Err f → FoundAt reason window from n f
found_fault reason window from n bad {f} e = by (first_of bad n) refl e
  where
    by : (x : Option ℕ) → first_of bad n ≡ x → refuse_found reason window from x ≡ Err f → FoundAt reason window from n f
    by None p q = absurd (fails_not_pass (sym q))
    by (Some k) p q = record { at = k; below = omega (arith, (first_found bad 0 n p).below); is = same_fault q }

-- a list of checks fails at its first, or behind it
split : {A : Type 0} (a : A) (check : A → Verdict) (checks : List (A → Verdict)) {f : Fault}
    → first_fault (check ∷ checks) a ≡ Err f
    → (check a ≡ Err f) ⊎ ((check a ≡ Ok tt) × (first_fault checks a ≡ Err f))
unfolding tried
split a check checks {f} e = by (check a) refl e
  where
    by : (v : Verdict) → check a ≡ v → tried checks v a ≡ Err f
        → (check a ≡ Err f) ⊎ ((check a ≡ Ok tt) × (first_fault checks a ≡ Err f))
    by (Ok _) p q = inr (p, q)
    by (Err g) p q = inl (p ∙ sym (stays_failed checks g a) ∙ q)

-- a window of so many dwords that holds a structure has the dwords that it is said to start at
holds_count : (at count address n : ℕ) → holds_dwords (lent at count) address n ≡ true → (address - at) / 4 + n ≤ count
unfolding holds_dwords
holds_count at count address n e =
    let i = inside (lent at count) address (4 * n) (and_left (holds (lent at count) address (4 * n)) _ e) in
    let l = i.low in
    let h = i.high in
    omega arith

same_start : {i j : ℕ} → Some (InBatch i) ≡ Some (InBatch j) → i ≡ j
same_start e = cc

same_state : {i j : ℕ} → Some (InState i) ≡ Some (InState j) → i ≡ j
same_state e = cc

-- where a lookup's answer comes from
module _ (b_at b sAt t address n : ℕ) {i : ℕ} where
  pub held_batch : held_at (lent b_at b) (lent sAt t) address n ≡ Some (InBatch i) → i + n ≤ b
  unfolding held_at
  held_batch e = by (holds_dwords (lent b_at b) address n) (holds_dwords (lent sAt t) address n) refl e
    where
      by : (x y : Bool) → holds_dwords (lent b_at b) address n ≡ x
          → cond x (Some (InBatch ((address - b_at) / 4))) (cond y (Some (InState ((address - sAt) / 4))) None) ≡ Some (InBatch i) → i + n ≤ b
      by true y p q = omega (arith, holds_count b_at b address n p, same_start q)
      by false true p q = absurd (let z : ◌≡◌ {A = ℕ} 0 1 = cc in omega arith)
      by false false p q = absurd (let z : ◌≡◌ {A = ℕ} 0 1 = cc in omega arith)

  pub held_state : held_at (lent b_at b) (lent sAt t) address n ≡ Some (InState i) → i + n ≤ t
  unfolding held_at
  held_state e = by (holds_dwords (lent b_at b) address n) (holds_dwords (lent sAt t) address n) refl e
    where
      by : (x y : Bool) → holds_dwords (lent sAt t) address n ≡ y
          → cond x (Some (InBatch ((address - b_at) / 4))) (cond y (Some (InState ((address - sAt) / 4))) None) ≡ Some (InState i) → i + n ≤ t
      by true y p q = absurd (let z : ◌≡◌ {A = ℕ} 0 1 = cc in omega arith)
      by false true p q = omega (arith, holds_count sAt t address n p, same_state q)
      by false false p q = absurd (let z : ◌≡◌ {A = ℕ} 0 1 = cc in omega arith)

-- only rows 14, 15 and 17 point to a structure, and each has two dwords
arm : {A : Type 0} (t : Bool) (x : Option (Kind × ℕ)) {rest : Option (Kind × ℕ)} {kind : Kind} {offset : ℕ}
    → (t ≡ true → A) → (rest ≡ Some (kind, offset) → A) → cond t x rest ≡ Some (kind, offset) → A
arm true x this others e = this refl
arm false x this others e = others e

long : (r n header : ℕ) → (the_row n).total ≡ exactly 0 → r ≡ n → 1 < length_of r header
unfolding length_of
long r n header t e = rw (e, t) (omega arith)

two_long : (r header : ℕ) (d : List ℕ) {kind : Kind} {offset : ℕ} → pointer_of r d ≡ Some (kind, offset) → 1 < length_of r header
unfolding rows the_row pointer_of
two_long r header d =
    arm (eqb r 14) _ (λ q. long r 14 header refl (eqb-true r 14 q))
    (arm (eqb r 15 && bit (get_or d 1 0) 0) _ (λ q. long r 15 header refl (eqb-true r 15 (and_left (eqb r 15) _ q)))
    (arm (eqb r 17 && bit (get_or d 1 0) 0) _ (λ q. long r 17 header refl (eqb-true r 17 (and_left (eqb r 17) _ q)))
    (λ e. absurd (let z : ◌≡◌ {A = ℕ} 0 1 = cc in omega arith))))

none_fails : {A : Type 0} (a : A) {f : Fault} → first_fault {A = A} [] a ≡ Err f → ⊥
unfolding tried
none_fails a e = fails_not_pass (sym e)

module _ (c : Capture) (s : Cursor) (w : Within c s) where
  -- at the header, and at the first such dword
  header_place : (t : Bool) (reason : Reason) {f : Fault} → refuse_if t (fault reason batch_window s.at) ≡ Err f → InPlace c f
  header_place t reason e = rw (← (given_fault t e).1) (inl (refl, w.position))

  dword_place : (n : ℕ) (bad : ℕ → Bool) (reason : Reason) {f : Fault} → s.at + n ≤ length c.batch
      → refuse_found reason batch_window s.at (first_of bad n) ≡ Err f → InPlace c f
  dword_place n bad reason l e =
      let q = found_fault reason batch_window s.at n bad e in
      let b = q.below in
      rw (← q.is) (inl (refl, omega arith))

  -- a command that points to a structure has a dword behind its header
  pointer_place : s.at + length_at c.batch s.at ≤ length c.batch → (kind : Kind) (offset : ℕ)
      → pointer_of (row_at c.batch s.at) (dwords_at c.batch s.at) ≡ Some (kind, offset) → s.at + 1 ≤ length c.batch
  pointer_place l kind offset e = let h = two_long (row_at c.batch s.at) (header_at c.batch s.at) (dwords_at c.batch s.at) e in omega arith

  base_place : {f : Fault} (p : Option (Kind × ℕ)) (b : Option ℕ)
      → ((kind : Kind) (offset : ℕ) → p ≡ Some (kind, offset) → s.at + 1 ≤ length c.batch) → (reason : Reason)
      → refuse_if (base_missing p b) (fault reason batch_window (s.at + 1)) ≡ Err f → InPlace c f
  base_place None b l reason e = absurd (fails_not_pass (sym e))
  base_place (Some (kind, offset)) None l reason e = rw (← same_fault e) (inl (refl, l kind offset refl))
  base_place (Some (kind, offset)) (Some b) l reason e = absurd (fails_not_pass (sym e))

  -- the structure's own checks
  asked : Kind → ℕ → Asked
  asked kind address = asked_at c.batch c.batch_at c.state c.state_at kind address (s.at + 1)

  nowhere_place : {f : Fault} (kind : Kind) (address : ℕ) → s.at + 1 ≤ length c.batch
      → structure_nowhere (asked kind address) ≡ Err f → InPlace c f
  unfolding asked structure_nowhere
  nowhere_place kind address l e = rw (← (given_fault (nowhere (asked kind address).held) e).1) (inl (refl, l))

  held_place : {f : Fault} (kind : Kind) (address : ℕ) (h : Option Held)
      → held_at (lent c.batch_at (length c.batch)) (lent c.state_at (length c.state)) address (layout_of kind).dwords ≡ h
      → nowhere h ≡ false → (bad : ℕ → Bool) (reason : Reason)
      → refuse_found reason (held_window h) (held_from h) (first_of bad (layout_of kind).dwords) ≡ Err f → InPlace c f
  held_place kind address (Some (InBatch i)) eh n bad reason e =
      let q = found_fault reason batch_window i (layout_of kind).dwords bad e in
      let b = q.below in
      rw (← q.is) (inl (refl, omega (arith, held_batch _ _ _ _ address (layout_of kind).dwords eh)))
  held_place kind address (Some (InState i)) eh n bad reason e =
      let q = found_fault reason state_window i (layout_of kind).dwords bad e in
      let b = q.below in
      rw (← q.is) (inr (refl, omega (arith, held_state _ _ _ _ address (layout_of kind).dwords eh)))
  held_place kind address None eh n bad reason e = absurd (never_both refl n)

  structure_place : {f : Fault} (kind : Kind) (address : ℕ) → structure_nowhere (asked kind address) ≡ Ok tt
      → (structure_bit (asked kind address) ≡ Err f) ⊎ (structure_value (asked kind address) ≡ Err f) → InPlace c f
  unfolding asked structure_nowhere structure_bit structure_value
  structure_place kind address p (inl e) = held_place kind address _ refl (refuse_passes _ _ p) _ _ e
  structure_place kind address p (inr e) = held_place kind address _ refl (refuse_passes _ _ p) _ _ e

  -- the four checks of a structure, of the command's pointer and the base
  pointed_place : {f : Fault} (p : Option (Kind × ℕ)) (b : Option ℕ)
      → ((kind : Kind) (offset : ℕ) → p ≡ Some (kind, offset) → s.at + 1 ≤ length c.batch)
      → (pointed structure_nowhere c (s.at + 1) p b ≡ Err f)
      ⊎ ((pointed structure_nowhere c (s.at + 1) p b ≡ Ok tt)
      × ((pointed structure_bit c (s.at + 1) p b ≡ Err f) ⊎ (pointed structure_value c (s.at + 1) p b ≡ Err f))) → InPlace c f
  unfolding asked
  pointed_place None b l (inl e) = absurd (fails_not_pass (sym e))
  pointed_place None b l (inr e) = ⊎_elim (λ q. absurd (fails_not_pass (sym q))) (λ q. absurd (fails_not_pass (sym q))) e.1
  pointed_place (Some (kind, offset)) None l (inl e) = absurd (fails_not_pass (sym e))
  pointed_place (Some (kind, offset)) None l (inr e) = ⊎_elim (λ q. absurd (fails_not_pass (sym q))) (λ q. absurd (fails_not_pass (sym q))) e.1
  pointed_place (Some (kind, offset)) (Some b) l (inl e) = nowhere_place kind (b + offset) (l kind offset refl) e
  pointed_place (Some (kind, offset)) (Some b) l (inr e) = structure_place kind (b + offset) e.0 e.1

  -- the checks whose place is the header
  off_place : {f : Fault} → ran_off (here c s) ≡ Err f → InPlace c f
  unfolding ran_off
  off_place e = header_place (leb (length c.batch) s.at) RanOff e

  unknown_place : {f : Fault} → unknown_header (here c s) ≡ Err f → InPlace c f
  unfolding unknown_header
  unknown_place e = header_place (leb row_count (row_at c.batch s.at)) UnknownHeader e

  length_place : {f : Fault} → wrong_length (here c s) ≡ Err f → InPlace c f
  unfolding wrong_length
  length_place e = header_place (not (length_right (row_at c.batch s.at) (header_at c.batch s.at))) WrongLength e

  past_place : {f : Fault} → past_the_window (here c s) ≡ Err f → InPlace c f
  unfolding past_the_window
  past_place e = header_place (ltb (length c.batch) (s.at + length_at c.batch s.at)) PastTheWindow e

  nested_place : {f : Fault} → nested_start (here c s) ≡ Err f → InPlace c f
  unfolding nested_start
  nested_place e = header_place (nested (row_at c.batch s.at) s.level) NestedStart e

  -- THE PLACE OF A REFUSAL
  pub refusal_place : {f : Fault} → step_of c s ≡ Err f → InPlace c f
  unfolding step_checks structure_checks past_the_window bit_not_allowed value_broken range_outside base_never_set
  refusal_place e =
      let h = here c s in
      ⊎_elim off_place
      (λ x₆. ⊎_elim unknown_place
      (λ x₇. ⊎_elim length_place
      (λ x₈. ⊎_elim past_place
      (λ x₉.
      let l = ltb-false _ _ (refuse_passes _ _ x₉.0) in
      ⊎_elim (dword_place _ _ _ l)
      (λ x₁₀. ⊎_elim nested_place
      (λ x₁₁. ⊎_elim (dword_place _ _ _ l)
      (λ x₁₂. ⊎_elim (dword_place _ _ _ l)
      (λ x₁₃. ⊎_elim (base_place _ _ (pointer_place l) _)
      (λ x₁₄. ⊎_elim (λ q. pointed_place _ _ (pointer_place l) (inl q))
      (λ x₁₅. ⊎_elim (λ q. pointed_place _ _ (pointer_place l) (inr (x₁₅.0, inl q)))
      (λ x₁₆. ⊎_elim (λ q. pointed_place _ _ (pointer_place l) (inr (x₁₅.0, inr q)))
      (λ x₁₇. absurd (none_fails h x₁₇.1)) (split h _ [] x₁₆.1)) (split h _ _ x₁₅.1)) (split h _ _ x₁₄.1)) (split h _ _ x₁₃.1))
      (split h _ _ x₁₂.1)) (split h _ _ x₁₁.1)) (split h _ _ x₁₀.1)) (split h _ _ x₉.1)) (split h _ _ x₈.1)) (split h _ _ x₇.1))
      (split h _ _ x₆.1)) (split h _ _ (refused_by c s e))

-- what each check of a list says where it fails, the list says
abbrev pub AllSay : {A : Type 0} → (Fault → Type 0) → List (A → Verdict) → A → Type 0
AllSay said [] a = Unit {0}
AllSay said (check ∷ checks) a = ((f : Fault) → check a ≡ Err f → said f) × AllSay said checks a

pub list_says : {A : Type 0} (said : Fault → Type 0) (checks : List (A → Verdict)) (a : A) → AllSay said checks a → (f : Fault)
    → first_fault checks a ≡ Err f → said f
list_says said [] a p f e = absurd (none_fails a e)
list_says said (check ∷ checks) a p f e = ⊎_elim (p.0 f) (λ q. list_says said checks a p.1 f q.1) (split a check checks e)

-- the place 0,0
abbrev pub AtZero : Fault → Type 0
AtZero f = (f.window ≡ 0) × (f.index ≡ 0)

zeros : (t : Bool) (reason : Reason) (f : Fault) → refuse_if t (fault reason batch_window 0) ≡ Err f → AtZero f
zeros t reason f q = rw (← (given_fault t q).1) (refl, refl)

-- the refusals that precede the walk have place 0,0
pub window_place : (l : Lengths) (f : Fault) → window_fault l ≡ Err f → AtZero f
unfolding window_fault window_checks
window_place l =
    list_says AtZero window_checks l (
      zeros (counts_wrong window_limit l.batch l.state) WrongCounts,
      (
        zeros (some unaligned (listed l.windows)) AddressUnaligned,
        (zeros (some ends_too_high (listed l.windows)) EndsTooHigh, (zeros (some_two share_byte (listed l.windows)) WindowsShare, tt)),
      ),
    )

-- and so have those of the file's reader
pub file_place : (o : Offer) (f : Fault) → first_fault file_checks o ≡ Err f → AtZero f
unfolding file_checks
file_place o =
    list_says AtZero file_checks o
    (zeros (size_wrong o) FileSize, (zeros (distance_wrong o) FileDistance, (zeros (file_counts_wrong o) WrongCounts, (zeros (buffer_short o) BufferShort, tt))))

-- and those of the writer
pub write_place : (d : Draft) (f : Fault) → write_verdict d ≡ Err f → AtZero f
unfolding write_checks row_unknown count_wrong bit_stray room_short
write_place d =
    list_says AtZero write_checks d (
      zeros (leb row_count d.row) UnknownHeader,
      (
        zeros (not (count_right (the_row d.row).total (group_size d.row) d.free (length d.dwords))) WrongLength,
        (
          zeros (not (allowed d.free (the_row d.row).free) || some_from (bit_wrong d.row (command_for d)) 1 (length d.dwords)) BitNotAllowed,
          (zeros (ltb d.room (d.first + (1 + length d.dwords))) NoRoom, tt),
        ),
      ),
    )
