use Rattle.pfair_entry_row.proofs.Common.{is_plain-decimal, arith}
use Rattle.pfair_entry_row.proofs.write.add_said.Goals as goal

pub add_row-requires-clause-plain : goal.add_row-requires-clause-plain
add_row-requires-clause-plain c = grind (arith, is_plain-decimal)
