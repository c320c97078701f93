use Rattle.pfair_replica.proofs.Common.{held_in, IsPart, ◌≤◌, ◌-◌}
use Rattle.pfair_replica.proofs.rows.carried_on.Given as goal

abbrev pub invariant-entries : goal.invariant-entries
invariant-entries l = IsPart (held_in l.rows l.processor) l.whole × (l.whole.count ≤ l.capacity)

abbrev pub decreases-entries : goal.decreases-entries
decreases-entries l = l.capacity - l.whole.count
