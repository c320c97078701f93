use Rattle.pfair_table.proofs.Keeping.{start_step}
use Rattle.pfair_table.proofs.planner.Planner.new.Goals as goal

pub returns-clause-step : goal.returns-clause-step
returns-clause-step g c x = start_step c.requires c.in_ok-members.ensures c.in_ok-ready.ensures.time c.in_ok-ready.ensures.queue
