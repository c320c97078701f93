use Rattle.pfair_desk.proofs.Common.{arith}
use Rattle.pfair_desk.proofs.NotedLemmas.{view_learned, view_same, unknown_at}
use Rattle.pfair_desk.proofs.board.Notes.read.Goals as goal

pub returns-clause-none : goal.returns-clause-none
returns-clause-none c = grind (arith, unknown_at, view_same)

pub returns-clause-some : goal.returns-clause-some
returns-clause-some c = grind (arith, view_learned)
