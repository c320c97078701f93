use Rattle.pfair_replica.proofs.Common.{arith}
use Rattle.pfair_replica.proofs.Following.{part_full, part_stops}
use Rattle.pfair_replica.proofs.rows.carried_on.Goals as goal

pub returns-in_default : goal.returns-in_default
returns-in_default c = part_stops _ _ _ c.entries.invariant.0 c.entries.invariant.1 (grind arith)

pub returns-in_default-2 : goal.returns-in_default-2
returns-in_default-2 c = part_stops _ _ _ c.entries.invariant.0 c.entries.invariant.1 (grind arith)

pub returns-in_default-3 : goal.returns-in_default-3
returns-in_default-3 c = part_stops _ _ _ c.entries.invariant.0 c.entries.invariant.1 (grind arith)

pub returns-after-entries : goal.returns-after-entries
returns-after-entries c = part_full _ _ _ c.entries.invariant.0 c.entries.invariant.1 (omega arith)
