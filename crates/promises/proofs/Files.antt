-- From the promise of `capture::judge` to that of `walk::check` on the capture that the file holds, and so to the three demands for a file.
-- Assumes nothing.
use Rattle.std.specs.Prelude.{Ok, Err, Option}
use Prim.Native.Nat.{ℕ}
use mathlib.Core.Path.{◌≡◌, refl, sym, ap, ◌∙◌}
use mathlib.Core.List.{List}
use lib.ListN.{length}
use Rattle.rules.specs.declared.Answer.{Answer}
use Rattle.rules.specs.declared.Fault.{Fault}
use Rattle.rules.specs.Refusals.{Verdict}
use Rattle.rules.specs.Refusals.{AllPass, FirstFault, first_fault, batch_window, fault, answer_with}
use Rattle.rules.specs.Walk.{answer_of, commands_of, end_of}
use Rattle.rules.specs.Records.{Checked, words_of, written_of}
use Rattle.rules.specs.File.{offer, file_checks, opened_of, opened_verdict, filled_by, file_capture, file_run, Judged}
use Rattle.rules.proofs.Trying.{fails_not_pass, all_pass, no_fault, first_is}
use Rattle.rules.proofs.Unique.{zero_is_pass}
use Rattle.promises.specs.Files.{Unread, Judgement, FileDemands}
use Rattle.promises.proofs.Demand1.{demand_1}
use Rattle.promises.proofs.Demand2.{demand_2}
use Rattle.promises.proofs.Demand3.{demand_3}

module _ {base : Option ℕ} {file batch state records new_batch new_state new_records : List ℕ} {r : Answer}
    (p : Judged base file batch state records r new_batch new_state new_records) where
  abbrev said : Verdict
  said = first_fault file_checks (offer file (length batch) (length state))

  -- A FILE THAT IS READ IS CHECKED: the promise of `walk::check`, on the capture that the file holds
  pub checked : AllPass file_checks (offer file (length batch) (length state)) → Checked base (file_capture file) records r new_records
  unfolding file_run opened_of opened_verdict
  checked q =
      let e : said ≡ Ok tt = no_fault _ file_checks q in
      record { answers = p.answers ∙ rw e; written = p.written ∙ rw e }

  judgement : AllPass file_checks (offer file (length batch) (length state)) → Judgement base file batch state records r new_batch new_state new_records
  unfolding opened_of filled_by
  judgement q =
      let e : said ≡ Ok tt = no_fault _ file_checks q in
      record {
        batch_filled = p.batch_filled ∙ rw e;
        state_filled = p.state_filled ∙ rw e;
        demand1 = demand_1 (checked q);
        demand2 = demand_2 (checked q);
        demand3 = demand_3 (checked q);
      }

  unread : (f : Fault) → FirstFault file_checks (offer file (length batch) (length state)) f → Unread batch state records r new_batch new_state new_records f
  unfolding file_run opened_of opened_verdict filled_by answer_of answer_with end_of commands_of written_of words_of
  unread f q =
      let e : said ≡ Err f = first_is q in
      record {
        answer = p.answers ∙ rw e;
        batch_as_it_was = p.batch_filled ∙ rw e;
        state_as_it_was = p.state_filled ∙ rw e;
        records_as_they_were = p.written ∙ rw e;
      }

  was_read : r.reason ≡ 0 → AllPass file_checks (offer file (length batch) (length state))
  unfolding file_run opened_of opened_verdict answer_of end_of commands_of
  was_read z = by said refl
    where
      by : (v : Verdict) → said ≡ v → AllPass file_checks (offer file (length batch) (length state))
      by (Ok _) e = all_pass _ file_checks e
      by (Err f) e =
          let q : r ≡ answer_with (Err (fault f.reason batch_window 0)) 0 = p.answers ∙ rw e in
          absurd (fails_not_pass (zero_is_pass (Err (fault f.reason batch_window 0)) 0 (sym (ap (λ (a : Answer). a.reason) q) ∙ z)))

  -- THE THREE DEMANDS FOR A FILE
  pub file_demands : FileDemands base file batch state records r new_batch new_state new_records
  file_demands = record { refused = unread; read = judgement; accepted = was_read }
