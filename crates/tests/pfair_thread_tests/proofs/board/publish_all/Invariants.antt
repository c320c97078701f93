use Rattle.pfair_desk.specs.Desks.{IsDeskOf}
use Rattle.pfair_thread_tests.proofs.board.publish_all.Given as goal

abbrev pub invariant-loop-entry : goal.invariant-loop-entry
invariant-loop-entry l = IsDeskOf l.desk l.board
