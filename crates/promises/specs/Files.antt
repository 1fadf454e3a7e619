-- The three demands for a capture file, as the programs have it judged: what the reader refuses, and what is demanded of the capture that the file holds.
use Rattle.std.specs.Prelude.{ℕ, ◌≡◌, List, length, take, Option}
use Rattle.rules.specs.declared.Answer.{Answer}
use Rattle.rules.specs.declared.Fault.{Fault}
use Rattle.rules.specs.Refusals.{AllPass, FirstFault, number_of}
use Rattle.rules.specs.Records.{words_for}
use Rattle.rules.specs.File.{offer, file_checks, batch_dwords, state_dwords, filled, file_capture}
use Rattle.promises.specs.Demand1.{Demand1}
use Rattle.promises.specs.Demand2.{Demand2}
use Rattle.promises.specs.Demand3.{Demand3}

-- a file that the reader refuses: the first of 19, 20, 1 and 21 is the answer, with place 0,0 and count 0, and every lent buffer is as it was
pub record Unread (batch state records : List ℕ) (r : Answer) (new_batch new_state new_records : List ℕ) (f : Fault) : Type 0 where
  pub answer : r ≡ record { reason = number_of f.reason; window = 0; index = 0; count = 0 }
  pub batch_as_it_was : new_batch ≡ batch
  pub state_as_it_was : new_state ≡ state
  pub records_as_they_were : new_records ≡ records

-- a file that is read: its dwords stand from word 0 on in the two buffers, whose other words are as they were, and the demands hold for the capture
pub record Judgement (base : Option ℕ) (file batch state records : List ℕ) (r : Answer) (new_batch new_state new_records : List ℕ) : Type 0 where
  pub batch_filled : new_batch ≡ filled (batch_dwords file) batch
  pub state_filled : new_state ≡ filled (state_dwords file) state
  pub demand1 : Demand1 (file_capture file) records r new_records
  pub demand2 : Demand2 base (file_capture file) records r new_records
  pub demand3 : r.reason ≡ 0 → Demand3 (file_capture file) r.count (take (words_for r.count) new_records)

-- and each file is one or the other: the reader is offered the file and the rooms of the two word buffers
pub record FileDemands (base : Option ℕ) (file batch state records : List ℕ) (r : Answer) (new_batch new_state new_records : List ℕ) : Type 0 where
  pub refused : (f : Fault) → FirstFault file_checks (offer file (length batch) (length state)) f → Unread batch state records r new_batch new_state new_records f
  pub read : AllPass file_checks (offer file (length batch) (length state)) → Judgement base file batch state records r new_batch new_state new_records
  -- no file is accepted that is not read
  pub accepted : r.reason ≡ 0 → AllPass file_checks (offer file (length batch) (length state))
