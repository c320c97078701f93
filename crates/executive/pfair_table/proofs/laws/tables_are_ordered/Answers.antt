use Rattle.pfair_table.proofs.TableLaws.{tables_are_ordered}
use Rattle.pfair_table.proofs.laws.tables_are_ordered.Goals as goal

pub returns : goal.returns
returns c = tables_are_ordered
