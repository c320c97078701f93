use Rattle.pfair_entry_row.proofs.Lengths.{rows_are_short}
use Rattle.pfair_entry_row.proofs.laws.rows_are_short.Goals as goal

pub returns-clause-rows : goal.returns-clause-rows
returns-clause-rows c = rows_are_short
