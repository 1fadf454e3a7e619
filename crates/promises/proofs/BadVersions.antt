-- The bad versions of document 01 cannot meet demand 2, by C2, C3, C7 and C9; an invented count meets neither demand 2 nor demand 3.
-- Assumes nothing.
use Rattle.std.specs.Prelude.{None}
use Prim.Native.Nat.{ℕ}
use native.Mathlib.Omega.{arith}
use mathlib.Core.Path.{◌≡◌, refl, sym, ap, ◌∙◌}
use mathlib.Core.List.{List, [], ◌∷◌}
use mathlib.Core.Option.{Option, some}
use lib.ListN.{length, get_or, take}
use Rattle.rules.specs.Step.{Base}
use Rattle.rules.specs.declared.Answer.{Answer}
use Rattle.rules.specs.Windows.{Capture}
use Rattle.rules.specs.Refusals.{AllPass}
use Rattle.rules.specs.Step.{here, checks}
use Rattle.rules.specs.Walk.{start, walk}
use Rattle.rules.specs.Records.{room_of, words_for}
use Rattle.rules.specs.Book.{book}
use Rattle.rules.specs.Cases.{case_capture, ample}
use Rattle.rules.proofs.Unique.{count_is}
use Rattle.rules.proofs.Walking.{accepted_passes}
use Rattle.replay.specs.Streamer.{Hardware}
use Rattle.replay.specs.Runs.{Moment, run_of}
use Rattle.replay.specs.Conduct.{map_of, at_start}
use Rattle.promises.specs.Demand2.{Demand2}
use Rattle.promises.specs.Demand3.{Streamed}
use Rattle.promises.specs.Versions.{Version, Meets, RefusesAll, AcceptsAll, WritesNone, ChecksTheFirst, InventsCount}
use Rattle.promises.proofs.Demand2.{answer_decided, records_decided}

abbrev c2 : Capture
c2 = case_capture (0x05000000 ∷ [])

abbrev c3 : Capture
c3 = case_capture (0x00000000 ∷ [])

abbrev c7 : Capture
c7 = case_capture (0x18C00101 ∷ 0x00100010 ∷ 0 ∷ 0x05000000 ∷ 0x05000000 ∷ [])

abbrev c9 : Capture
c9 = case_capture (0x00000000 ∷ 0x10000002 ∷ 0x00301000 ∷ 0 ∷ 0 ∷ 0x05000000 ∷ [])

-- what demand 2 makes of C3, C7 and C9
c3_refused : {r : Answer} {new : List ℕ} → Demand2 None c3 ample r new → r.reason ≡ 6
unfolding book
c3_refused d = ap (λ (a : Answer). a.reason) (answer_decided d)

c7_count : {r : Answer} {new : List ℕ} → Demand2 None c7 ample r new → r.count ≡ 3
unfolding book
c7_count d = ap (λ (a : Answer). a.count) (answer_decided d)

c7_records : {r : Answer} {new : List ℕ} → Demand2 None c7 ample r new → take (words_for r.count) new ≡ 0x00000000 ∷ 0x02030000 ∷ 0x00010004 ∷ 0x01010000 ∷ 0x00000003 ∷ 0x01010000 ∷ []
unfolding book
c7_records d = records_decided d

c9_refused : {r : Answer} {new : List ℕ} → Demand2 None c9 ample r new → r.reason ≡ 13
unfolding book
c9_refused d = ap (λ (a : Answer). a.reason) (answer_decided d)

-- by C2, where no check faults
pub refuses_all : (v : Version) → RefusesAll v → Meets None v → ⊥
unfolding book
refuses_all v bad m = bad c2 ample ((m c2 ample).accepted.1 (accepted_passes None c2 (room_of (length ample)) refl))

-- by C3
pub accepts_all : (v : Version) → AcceptsAll v → Meets None v → ⊥
accepts_all v bad m = let e : ◌≡◌ {A = ℕ} 0 6 = sym (bad c3 ample) ∙ c3_refused (m c3 ample) in omega arith

-- by C7
pub writes_none : (v : Version) → WritesNone v → Meets None v → ⊥
unfolding book
writes_none v bad m =
    let d = m c7 ample in
    let n = words_for (v.answer c7 ample).count in
    let e = ap (λ (k : ℕ). take (words_for k) ample) (sym (c7_count d)) ∙ ap (take n) (sym (bad c7 ample)) ∙ c7_records d in
    let h : ◌≡◌ {A = ℕ} 0xEEEEE001 0 = ap (λ (l : List ℕ). get_or l 0 0) e in
    omega arith

-- by C9, whose first command has no fault
pub checks_the_first : (v : Version) → ChecksTheFirst None v → Meets None v → ⊥
unfolding book
checks_the_first v bad m =
    let e : ◌≡◌ {A = ℕ} 0 13 = sym (bad c9 ample (refl, (refl, (refl, (refl, tt)))) first) ∙ c9_refused (m c9 ample) in omega arith
  where
    first : AllPass (checks 0 (room_of (length ample))) (here c9 (start None))
    first = (refl, (refl, (refl, (refl, (refl, (refl, (refl, (refl, (refl, (refl, (refl, (refl, (refl, (refl, tt))))))))))))))

-- any count but the right one, for whatever capture and whatever starting base
pub invents_count : {base : Base} (v : Version) → InventsCount base v → Meets base v → ⊥
invents_count {base} v bad m =
    bad.wrong (ap (λ (a : Answer). a.count) (answer_decided (m bad.capture bad.old)) ∙ count_is (walk base bad.capture (room_of (length bad.old))))

-- and any count but the streamer's own fails demand 3
pub streamers_count_only : {c : Capture} {count : ℕ} {records : List ℕ} {kept : Option ℕ} {registers : ℕ → ℕ} {scratch : List ℕ} {hardware : Hardware}
    (n : ℕ) (moments : List Moment) → run_of n (map_of c) hardware (at_start c kept registers scratch) ≡ some moments → (count ≡ n → ⊥)
    → Streamed c count records kept registers scratch hardware → ⊥
streamers_count_only n moments e wrong d = wrong (sym (d.only n moments e))
