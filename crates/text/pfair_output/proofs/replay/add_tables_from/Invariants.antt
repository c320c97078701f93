use Rattle.pfair_output.proofs.Common.{table_rows}
use Rattle.pfair_output.proofs.SlotFacts.{IsOnTheWay}
use Rattle.pfair_output.proofs.replay.add_tables_from.Given as goal

abbrev pub invariant-loop-slot : goal.invariant-loop-slot
invariant-loop-slot g l = IsOnTheWay table_rows l.dispatcher.tables l.from l.fn.writer l.slot l.writer
