-- From the run to the promise of the public calls: the checks 1 to 4 come first, and what is known of windows and base behind them.
-- Assumes nothing.
use Rattle.std.specs.Prelude.{Ok, Err, Option}
use Prim.Native.Nat.{ℕ}
use native.Mathlib.Omega.{arith}
use mathlib.Core.Path.{◌≡◌, sym, ap, ◌∙◌}
use mathlib.Core.List.{List}
use lib.ListN.{length}
use lib.Dec.{lit<}
use Rattle.rules.specs.declared.Windows.{Windows}
use Rattle.rules.specs.declared.Answer.{Answer}
use Rattle.rules.specs.declared.BaseChoice.{BaseChoice}
use Rattle.rules.specs.declared.BaseChoice.TheVariants.{StateWindow, NoBase}
use Rattle.rules.specs.declared.Fault.{Fault}
use Rattle.rules.specs.Refusals.{Verdict}
use Rattle.rules.specs.Refusals.{answer_with}
use Rattle.rules.specs.Windows.{Capture, windows_of, lengths_of, window_fault}
use Rattle.rules.specs.Walk.{starting_base, commands_of, end_of, answer_of}
use Rattle.rules.specs.Records.{words_of, room_of, written_of, Checked}
use Rattle.rules.proofs.Walking.{walk_sound, walk_unsound}
use Rattle.rules.proofs.Ranges.{sound as windows_sound}
use Rattle.step.specs.Parts.{captured, Fitted, SmallBase}
use Rattle.turns.specs.Running.{Ran}
use Rattle.turns.proofs.Looping.{same_base}

-- behind the checks 1 to 4: the promise of the public call, from whatever base
pub unsound : (base : Option ℕ) (c : Capture) (old : List ℕ) {f : Fault} → window_fault (lengths_of c) ≡ Err f
    → Checked base c old (answer_with (Err f) 0) old
unfolding answer_of written_of commands_of end_of words_of
unsound base c old e = record {
  answers = rw (walk_unsound base c (room_of (length old)) e);
  written = rw (walk_unsound base c (room_of (length old)) e);
}

pub sound : (base : Option ℕ) (c : Capture) (old : List ℕ) {made : Option ℕ} {r : Answer} {new : List ℕ} → window_fault (lengths_of c) ≡ Ok tt
    → made ≡ base → Ran made c old r new → Checked base c old r new
sound base c old e m p =
    let q = rw m at p in record {
      answers = rw (walk_sound base c (room_of (length old)) e) q.answers;
      written = rw (walk_sound base c (room_of (length old)) e) q.written;
    }

-- what the windows' numbers are known to be
pub fitting : (c : Capture) {w : Windows} → w ≡ windows_of c → Fitted w c.batch c.state
unfolding windows_of
fitting c e = record { batch_bytes = ap (λ (w : Windows). w.batch.bytes) e; state_bytes = ap (λ (w : Windows). w.state.bytes) e }

pub captured_is : (c : Capture) {w : Windows} → w ≡ windows_of c → captured w c.batch c.state ≡ c
unfolding windows_of
captured_is c e = rw e

-- the base that is chosen is small: a sound state window lies at or below 2^48, where it ends
pub chosen_small : (choice : BaseChoice) (c : Capture) → window_fault (lengths_of c) ≡ Ok tt → SmallBase (starting_base choice c.state_at)
unfolding windows_of
chosen_small NoBase c e = record { small = λ b q. absurd (let z : ◌≡◌ {A = ℕ} 0 1 = cc in omega arith) }
chosen_small StateWindow c e =
    let ends = (windows_sound (lengths_of c) e).ends 1 (lit< tt) in
    record { small = λ b q. omega (arith, same_base q) }

pub judged : (c : Capture) {w : Windows} {v : Verdict} → w ≡ windows_of c
    → v ≡ window_fault (record { batch = length c.batch; state = length c.state; windows = w })
    → window_fault (lengths_of c) ≡ v
judged c e p =
    ap (λ (w : Windows). window_fault (record { batch = length c.batch; state = length c.state; windows = w })) (sym e) ∙ sym p
