use Rattle.pfair_desk.proofs.Common.{arith}
use Rattle.pfair_desk.proofs.NotedLemmas.{names_push, blank_push}
use Rattle.pfair_desk.proofs.board.Notes.of.Goals as goal

pub loop-cell-preserved : goal.loop-cell-preserved
loop-cell-preserved c = grind (arith, names_push, blank_push)
