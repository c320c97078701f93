use Rattle.pfair_desk.specs.Desks.{IsDeskOf}
use Rattle.pfair_thread_tests.proofs.desk.fill.Given as goal

abbrev pub invariant-loop-floor : goal.invariant-loop-floor
invariant-loop-floor l = IsDeskOf l.desk l.board
