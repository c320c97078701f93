use Rattle.pfair_desk.specs.Desks.{IsDeskOf}
use Rattle.pfair_refusals.proofs.board.publish_two.Given as goal

abbrev pub invariant-loop-floor : goal.invariant-loop-floor
invariant-loop-floor l = IsDeskOf l.desk l.board
