use Rattle.pfair_in_time.proofs.ThroughRuns.{dispatchers_never_miss}
use Rattle.pfair_in_time.proofs.laws.dispatchers_never_miss.Goals as goal

pub returns : goal.returns
returns c = dispatchers_never_miss c.one_schedule.ensures
