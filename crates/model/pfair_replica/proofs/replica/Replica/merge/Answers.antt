use Rattle.pfair_replica.proofs.Common.{common_steps, held_in, replica_of, rules, arith, HoldsMore}
use Rattle.pfair_replica.proofs.Merging.{rows_outgrown, joined_held, between_held, between_below, partly_merged, merged_rows, partly_rows, between_rows, either_held, on_err_here}
use Rattle.pfair_replica.proofs.Following.{before_join}
use Rattle.pfair_replica.proofs.replica.Replica.merge.Goals as goal

pub follow_join-requires-clause-before : goal.follow_join-requires-clause-before
follow_join-requires-clause-before c =
    let x = replica_of (record { processors = c.self.inside.processors; capacity = c.self.inside.capacity; rows = c.self.inside.rows }) in
    let between = either_held c.join-joined.result c.self.inside.rows c.other.inside.rows c.join-joined.new.self c.join-joined.ensures.joined c.join-joined.ensures.partly in
    before_join x c.self.inside.counters.beginnings.items c.self.inside.counters.torn c.self.invariant.counters (held_in c.other.inside.rows) (held_in c.join-joined.new.self) c.self.invariant.so_many
    (between_rows c.self.inside.processors c.self.inside.capacity c.other.inside.processors c.other.inside.capacity c.self.inside.rows c.other.inside.rows c.join-joined.new.self
    c.if-self-other.false c.if-self-other-2.false c.self.invariant.rows c.other.invariant.rows between) between

pub invariant_of-self : goal.invariant_of-self
invariant_of-self c = grind (arith, common_steps, partly_rows)

pub invariant_of-self-2 : goal.invariant_of-self-2
invariant_of-self-2 c = grind (arith, common_steps, merged_rows)

pub returns-in_err-joined-clause-partly : goal.returns-in_err-joined-clause-partly
returns-in_err-joined-clause-partly c = rw (← c.self.view_is, ← c.other.view_is) (on_err_here c.from_residual.result
    (partly_merged c.self.inside.processors c.self.inside.capacity c.other.inside.processors c.other.inside.capacity (held_in c.self.inside.rows) (held_in c.other.inside.rows) (held_in c.join-joined.new.self)
    (between_held c.self.inside.rows c.other.inside.rows c.join-joined.new.self c.in_err-joined.ensures.partly)))

pub returns-clause-merged : goal.returns-clause-merged
returns-clause-merged c = grind (arith, common_steps, joined_held)

pub returns-in_err-joined-clause-fault : goal.returns-in_err-joined-clause-fault
returns-in_err-joined-clause-fault c =
    let more : HoldsMore c.args.self.now c.args.other.now =
    rw (← c.self.view_is, ← c.other.view_is) (rows_outgrown c.self.inside.processors c.other.inside.processors c.self.inside.rows c.other.inside.rows c.if-self-other.false c.self.invariant.rows.full c.other.invariant.rows.full c.in_err-joined.ensures.growth) in
    search rules

pub returns-in_err-joined-clause-grows : goal.returns-in_err-joined-clause-grows
returns-in_err-joined-clause-grows c = rw (← c.self.view_is) (grind (arith, between_below, between_held, common_steps))

pub returns-clause-grows : goal.returns-clause-grows
returns-clause-grows c = rw (← c.self.view_is) (grind (arith, between_below, joined_held, common_steps))

pub returns-clause-offered : goal.returns-clause-offered
returns-clause-offered c = grind (arith, common_steps, joined_held)
