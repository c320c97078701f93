use Rattle.pfair_in_time.proofs.LongRun.{none_serves_more}
use Rattle.pfair_in_time.proofs.laws.none_serves_more.Goals as goal

pub returns : goal.returns
returns c = none_serves_more
