use Rattle.pfair_entry_row.proofs.Common.{is_plain-decimal, arith, is_plain-name}
use Rattle.pfair_entry_row.proofs.write.add_entry.Goals as goal

pub add_said-requires-in-Arrive-clause-plain : goal.add_said-requires-in-Arrive-clause-plain
add_said-requires-in-Arrive-clause-plain c = grind (arith, is_plain-decimal, is_plain-name)

pub add_said-requires-in-Depart-clause-plain : goal.add_said-requires-in-Depart-clause-plain
add_said-requires-in-Depart-clause-plain c = grind (arith, is_plain-decimal, is_plain-name)

pub add_said-requires-in-Late-clause-plain : goal.add_said-requires-in-Late-clause-plain
add_said-requires-in-Late-clause-plain c = grind (arith, is_plain-decimal, is_plain-name)
