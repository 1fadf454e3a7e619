-- BOTH ENGINES. "It must give the same answer, place, count and records as the table engine for every capture." (request 6)
--
-- Two record buffers with the words `old` and `twin` are lent, one to each engine's call for the same capture. Where they had the same words, the
-- two answers are the same in each of their numbers, and the buffers have the same words again.
use Rattle.std.specs.Prelude.{ℕ, ◌≡◌, List}
use Rattle.agreement.specs.declared.Answers.{Answers}

pub record SameAnswers (old twin : List ℕ) (both : Answers) (new twin_new : List ℕ) : Type 0 where
  pub answers : old ≡ twin → both.table ≡ both.plainly
  pub written : old ≡ twin → new ≡ twin_new
