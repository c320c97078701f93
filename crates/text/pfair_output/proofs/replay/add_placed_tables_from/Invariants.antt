use Rattle.pfair_output.proofs.Common.{placed_table_rows, places_in}
use Rattle.pfair_output.proofs.SlotFacts.{IsOnTheWay}
use Rattle.pfair_output.proofs.replay.add_placed_tables_from.Given as goal

abbrev pub invariant-loop-slot : goal.invariant-loop-slot
invariant-loop-slot g l = IsOnTheWay (placed_table_rows (places_in l.dispatcher.origin l.dispatcher.tables)) l.dispatcher.tables l.from l.fn.writer l.slot l.writer
