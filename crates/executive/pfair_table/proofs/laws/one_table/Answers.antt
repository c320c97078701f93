use Rattle.pfair_table.proofs.TableLaws.{one_table}
use Rattle.pfair_table.proofs.laws.one_table.Goals as goal

pub returns : goal.returns
returns c = one_table
