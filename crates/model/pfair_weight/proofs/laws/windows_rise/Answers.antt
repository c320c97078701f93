use Rattle.pfair_weight.specs.WindowFacts.{release_rises, deadline_rises_strictly}
use Rattle.pfair_weight.proofs.laws.windows_rise.Goals as goal

pub returns : goal.returns
returns c = record { releases = release_rises; deadlines = deadline_rises_strictly }
