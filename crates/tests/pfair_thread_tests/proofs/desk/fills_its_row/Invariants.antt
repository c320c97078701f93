use Rattle.pfair_desk.specs.Desks.{IsDeskOf}
use Rattle.pfair_thread_tests.proofs.desk.fills_its_row.Given as goal

abbrev pub invariant-loop : goal.invariant-loop
invariant-loop l = IsDeskOf l.writer l.board
