use Rattle.pfair_c.proofs.Common.{rules}
use Rattle.pfair_c.proofs.SlotRows.{one-more-plan}
use Rattle.pfair_c.proofs.plan.plan_to.Goals as goal

pub slots-preserved : goal.slots-preserved
slots-preserved g c =
    one-more-plan c.args.until c.args.dispatcher.now c.slots.dispatcher c.plan_next.new.self c.in-Planned.field-0 c.slots.invariant
    (search rules) c.in_ok-last.ensures.course c.in_ok-last.ensures.rest (search rules)
