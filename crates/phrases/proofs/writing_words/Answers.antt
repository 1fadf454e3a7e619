-- `writing_words` meets its contract: the constant has the texts of the definition, which is one computation.
use Rattle.std.proofs.Common.{refl, ◌∙◌}
use lib.ListN.{get_or-map}
use Rattle.rules.specs.Printout.{bytes}
use Rattle.phrases.specs.Words.{words_in, writing_table}
use Rattle.phrases.specs.Tables.{text_in}
use Rattle.phrases.proofs.Short.{short}
use Rattle.phrases.proofs.writing_words.Goals as goal

pub returns-clause-words : goal.returns-clause-words
unfolding text_in words_in writing_table
returns-clause-words c = c.text_in.ensures ∙ get_or-map bytes writing_table c.args.reason ""

pub returns-clause-short : goal.returns-clause-short
unfolding writing_table
returns-clause-short c = rw (returns-clause-words c) (short writing_table c.args.reason refl)
