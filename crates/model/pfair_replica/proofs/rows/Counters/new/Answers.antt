use Rattle.pfair_replica.proofs.Common.{length-replicate, arith, replicate}
use Rattle.pfair_replica.proofs.Following.{least_of_none, total_of_none}
use Rattle.pfair_replica.proofs.rows.Counters.new.Goals as goal

pub invariant_of-result : goal.invariant_of-result
invariant_of-result c = grind (arith, replicate, length-replicate, least_of_none, total_of_none)
