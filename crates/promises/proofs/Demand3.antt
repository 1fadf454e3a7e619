-- Demand 3 from the promise of `walk::check`, the only hypothesis; and what it says of any run of the streamer from the start that ends.
-- Assumes nothing.
use Rattle.std.specs.Prelude.{Ok}
use Prim.Native.Nat.{ℕ}
use mathlib.Core.Path.{◌≡◌, refl, sym, ap, ◌∙◌}
use mathlib.Core.List.{List, [], map}
use mathlib.Core.Option.{Option, some}
use lib.ListN.{length, take}
use Rattle.rules.specs.Step.{Base}
use Rattle.rules.specs.declared.Answer.{Answer}
use Rattle.rules.specs.Windows.{Capture}
use Rattle.rules.specs.Walk.{walk, commands_of, end_of}
use Rattle.rules.specs.Records.{Checked, room_of, words_for, words_of, commands_in}
use Rattle.rules.proofs.Recording.{walk_read_back}
use Rattle.replay.specs.Streamer.{Hardware, step}
use Rattle.replay.specs.Runs.{Moment, run_of, after_all}
use Rattle.replay.specs.Conduct.{map_of, at_start, AllFair, AllReturn}
use Rattle.replay.proofs.Streaming.{streams, only_number, ends_as_it_began}
use Rattle.promises.specs.Demand3.{Streamed, Demand3}
use Rattle.promises.proofs.Demand1.{count_told, records_stand}
use Rattle.promises.proofs.Demand2.{passes}

-- of every walk that is accepted, whatever its starting base
pub accepted_streams : (base : Base) (c : Capture) (room : ℕ) → end_of (walk base c room) ≡ Ok tt
    → Demand3 c (length (commands_of (walk base c room))) (words_of (commands_of (walk base c room)))
accepted_streams base c room e kept registers scratch l hardware =
    let s = streams base c room e kept registers scratch l hardware in
    let m = at_start c kept registers scratch in
    record {
      moments = s.moments;
      ends = s.runs;
      only = λ n others q. only_number n (length (commands_of (walk base c room))) (map_of c) hardware 0 m (step (map_of c) hardware 0 m) q s.runs;
      named = s.commands ∙ sym (walk_read_back base c room);
      listed = ap words_of s.commands;
      fair = s.fair;
      returns = s.returns;
    }

-- THE DEMAND: whatever the promise of `walk::check` says is accepted, with the count that it answers and the records that it leaves
pub demand_3 : {base : Base} {c : Capture} {old new : List ℕ} {r : Answer} → Checked base c old r new → r.reason ≡ 0
    → Demand3 c r.count (take (words_for r.count) new)
demand_3 {base} {c} {old} p accepted = rw (records_stand p, count_told p) (accepted_streams base c (room_of (length old)) (passes p accepted))

-- What it says of any run of the streamer from the start that ends, whatever number of commands was asked for: it is the one run there is
same_moments : {xs ys : List Moment} → ◌≡◌ {A = Option (List Moment)} (some xs) (some ys) → xs ≡ ys
same_moments e = cc

module _ {c : Capture} {count : ℕ} {records : List ℕ} {kept : Option ℕ} {registers : ℕ → ℕ} {scratch : List ℕ} {hardware : Hardware}
    (d : Streamed c count records kept registers scratch hardware) (n : ℕ) (moments : List Moment)
    (e : run_of n (map_of c) hardware (at_start c kept registers scratch) ≡ some moments) where
  one_run : d.moments ≡ moments
  one_run =
      let p = ap (λ (k : ℕ). run_of k (map_of c) hardware (at_start c kept registers scratch)) (d.only n moments e) in
      same_moments (sym d.ends ∙ sym p ∙ e)

  -- its commands are those that the records name
  pub commands_named : map (λ x. x.command) moments ≡ commands_in records
  commands_named = rw (← one_run) d.named

  -- each of its stores stays in scratch
  pub stores_stay : AllFair c moments
  stores_stay = rw (← one_run) d.fair

  -- the batch and state windows end as they began
  pub windows_end_as_they_began :
      ((after_all (at_start c kept registers scratch) moments).batch ≡ c.batch) × ((after_all (at_start c kept registers scratch) moments).state ≡ c.state)
  windows_end_as_they_began = ends_as_it_began c _ moments refl refl stores_stay

  -- A LEVEL-1 END ALWAYS FINDS A KEPT POSITION, the dword after a start of this very run
  pub level_1_ends_return : AllReturn c.batch [] (at_start c kept registers scratch) moments
  level_1_ends_return = rw (← one_run) d.returns
