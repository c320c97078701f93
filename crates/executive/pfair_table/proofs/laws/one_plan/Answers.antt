use Rattle.pfair_table.proofs.TableLaws.{one_plan}
use Rattle.pfair_table.proofs.laws.one_plan.Goals as goal

pub returns : goal.returns
returns c = one_plan
