use Rattle.pfair_replica.proofs.Common.{replica_of, ◌∙◌}
use Rattle.pfair_replica.proofs.Following.{total_is}
use Rattle.pfair_replica.proofs.replica.Replica.sound_total.Goals as goal

pub returns : goal.returns
returns c =
    let x = replica_of (record { processors = c.self.inside.processors; capacity = c.self.inside.capacity; rows = c.self.inside.rows }) in
    rw (← c.self.view_is) (c.self.inside.counters.total ∙ total_is x c.self.inside.counters.beginnings.items c.self.invariant.so_many c.self.invariant.counters.beginnings)
