use Rattle.pfair_output.proofs.Common.{decided_rows}
use Rattle.pfair_output.proofs.SlotFacts.{IsOnTheWay}
use Rattle.pfair_output.proofs.decisions.add_decisions_from.Given as goal

abbrev pub invariant-loop-slot : goal.invariant-loop-slot
invariant-loop-slot g l = IsOnTheWay decided_rows l.dispatcher.decided l.from l.fn.writer l.slot l.writer
