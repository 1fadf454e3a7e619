-- `agreement::asked_both` meets its contract: both calls keep the same promise, and it admits one answer only.
-- Assumes nothing.
use borrow.Author.Rules.{rules}
use Rattle.rules.proofs.Unique.{one_check}
use Rattle.agreement.proofs.asked_both.Statement.{statement}
use Rattle.agreement.proofs.asked_both.Tie as tie

returns : tie.Need-returns
returns c =
    let table = c.before.before.before.before.before.before in
    let plainly = c.before.before in record {
      answers = λ e. (one_check (rw e at table.check_from-table.ensures) plainly.check_from-plainly.ensures).0;
      written = λ e. (one_check (rw e at table.check_from-table.ensures) plainly.check_from-plainly.ensures).1;
    }

pub asked_both_spec : {M : Type 1} → statement M
asked_both_spec =
    tie.close
    (tie.spec (λ c κs. search rules) (λ c κs. search rules) (λ c. search rules) (λ c. search rules) returns)
