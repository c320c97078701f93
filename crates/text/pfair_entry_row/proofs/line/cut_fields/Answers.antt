use Rattle.pfair_entry_row.proofs.Common.{length-slice_split, arith}
use Rattle.pfair_entry_row.proofs.line.cut_fields.Goals as goal

pub returns-then-is_some : goal.returns-then-is_some
returns-then-is_some c eleven = grind (arith, length-slice_split)
