use Rattle.pfair_feed.proofs.ScriptRows.{lines_are_one}
use Rattle.pfair_feed.proofs.laws.lines_are_one.Goals as goal

pub returns : goal.returns
returns c = lines_are_one
