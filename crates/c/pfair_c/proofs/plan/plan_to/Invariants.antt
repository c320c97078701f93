use Rattle.pfair_c.proofs.Common.{◌-◌, length, IsPlannedOn}
use Rattle.pfair_c.proofs.plan.plan_to.Given as goal

abbrev pub invariant-slots : goal.invariant-slots
invariant-slots g l = IsPlannedOn l.until l.fn.dispatcher l.dispatcher

abbrev pub decreases-slots : goal.decreases-slots
decreases-slots g l = l.until - length l.dispatcher.tables
