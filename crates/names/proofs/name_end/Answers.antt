-- `name_end` meets its contract, by the place of the next ending byte.
use Rattle.std.proofs.Common.{sym, ◌∙◌}
use Rattle.std.proofs.lemmas.List.{take_rest}
use Rattle.names.proofs.Seeking.{ends_there, ends_nowhere}
use Rattle.names.proofs.name_end.Goals as goal

pub returns-in-Some : goal.returns-in-Some
returns-in-Some c = ends_there _ _ _ c.requires _ (rw (take_rest c.args.bytes.now c.args.from) at (sym c.next_ending.ensures ∙ c.in-Some.is))

pub returns-in-None : goal.returns-in-None
returns-in-None c = ends_nowhere _ _ _ c.requires (rw (take_rest c.args.bytes.now c.args.from) at (sym c.next_ending.ensures ∙ c.in-None.is))
