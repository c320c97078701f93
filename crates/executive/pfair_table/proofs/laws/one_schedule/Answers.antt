use Rattle.pfair_table.proofs.Runs.{one_schedule}
use Rattle.pfair_table.proofs.laws.one_schedule.Goals as goal

pub returns : goal.returns
returns c = one_schedule
