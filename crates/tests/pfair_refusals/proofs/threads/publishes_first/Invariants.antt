use Rattle.pfair_desk.specs.Desks.{IsDeskOf}
use Rattle.pfair_refusals.proofs.threads.publishes_first.Given as goal

abbrev pub invariant-loop-processor : goal.invariant-loop-processor
invariant-loop-processor l = IsDeskOf l.desk l.board
