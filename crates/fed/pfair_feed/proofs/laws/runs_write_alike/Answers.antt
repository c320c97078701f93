use Rattle.pfair_feed.proofs.RunsAlike.{runs_write_alike}
use Rattle.pfair_feed.proofs.laws.runs_write_alike.Goals as goal

pub returns : goal.returns
returns c = runs_write_alike
