use Rattle.pfair_file.proofs.TableFacts.{first_table_is_at_fault}
use Rattle.pfair_file.proofs.laws.first_table_is_at_fault.Goals as goal

pub returns : goal.returns
returns c = first_table_is_at_fault
