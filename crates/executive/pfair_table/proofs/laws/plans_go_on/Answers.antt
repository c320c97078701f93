use Rattle.pfair_table.proofs.TableLaws.{plans_go_on}
use Rattle.pfair_table.proofs.laws.plans_go_on.Goals as goal

pub returns : goal.returns
returns c = plans_go_on
