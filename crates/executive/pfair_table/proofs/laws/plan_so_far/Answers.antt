use Rattle.pfair_table.proofs.Runs.{plan_so_far}
use Rattle.pfair_table.proofs.laws.plan_so_far.Goals as goal

pub returns : goal.returns
returns c = plan_so_far
