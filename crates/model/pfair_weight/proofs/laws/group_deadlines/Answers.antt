use Rattle.pfair_weight.specs.WindowFacts.{group_deadline_light, group_deadline_whole, group_deadline_not_before, group_deadline_near, group_deadline_rises}
use Rattle.pfair_weight.proofs.laws.group_deadlines.Goals as goal

pub returns : goal.returns
returns c = record { light = group_deadline_light; whole = group_deadline_whole; not_before = group_deadline_not_before; near = group_deadline_near; rise = group_deadline_rises }
