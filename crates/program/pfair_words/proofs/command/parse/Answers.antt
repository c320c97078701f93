-- The parser's clauses, at any command line of the simple form.
use Rattle.std.proofs.lemmas.Bool.{and_parts}
use Rattle.pfair_words.proofs.command.parse.Goals as goal

pub returns-in-Ok : goal.returns-in-Ok
returns-in-Ok c = (c.in-Ok.ensures.kinds c.requires, (c.in-Ok.ensures.matches (and_parts _ _ c.requires).0).1)
