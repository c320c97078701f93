use Rattle.toml.proofs.Views.{table_get}
use Rattle.pfair_file.proofs.field.find.Goals as goal

pub returns : goal.returns
returns c = rw c.key.ensures at (table_get c.get.result c.key.result.now c.args.table.now.entries c.get.ensures.value)
