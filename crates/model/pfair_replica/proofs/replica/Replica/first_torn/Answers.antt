use Rattle.pfair_replica.proofs.Common.{replica_of, ap, ◌∙◌, is_some}
use Rattle.pfair_replica.proofs.FirstTorn.{first_listed}
use Rattle.pfair_replica.proofs.TornKeys.{torn_test}
use Rattle.pfair_replica.proofs.replica.Replica.first_torn.Goals as goal

pub returns-clause-key : goal.returns-clause-key
returns-clause-key c = rw (← c.self.view_is) (first_listed (replica_of _) c.self.invariant.rows.entries c.self.inside.counters.torn c.self.invariant.counters.torn)

pub returns-clause-some : goal.returns-clause-some
returns-clause-some c = ap is_some (returns-clause-key c) ∙ torn_test (replica_of c.args.self.now)
