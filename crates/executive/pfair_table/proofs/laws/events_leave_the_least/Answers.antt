use Rattle.pfair_table.proofs.Runs.{events_leave_the_least}
use Rattle.pfair_table.proofs.laws.events_leave_the_least.Goals as goal

pub returns : goal.returns
returns c = events_leave_the_least
