use Rattle.pfair_replica.proofs.Common.{common_steps, length-set, held_in, ◌<◌, ◌≤◌, ◌∙◌, ap, length, arith}
use Rattle.pfair_replica.proofs.Following.{midway_end, midway_as_it_was, midway_next}
use Rattle.pfair_replica.proofs.rows.Counters.follow_join.Goals as goal

pub loop-processor-preserved-then-map_or-eq0 : goal.loop-processor-preserved-then-map_or-eq0
loop-processor-preserved-then-map_or-eq0 c = record {
  so_many = c.loop-processor.invariant.so_many;
  midway = midway_as_it_was c.args.capacity (held_in c.args.other.now) (held_in c.args.rows.now) c.loop-processor.self.beginnings.items c.loop-processor.self.torn c.loop-processor.processor-counter c.loop-processor.invariant.midway
      (grind (arith, common_steps));
}

pub loop-processor-preserved : goal.loop-processor-preserved
loop-processor-preserved c =
    let same = c.loop-processor.invariant.so_many in
    let row : c.loop-processor.processor-counter < length c.loop-processor.self.beginnings.items = omega arith in
    record {
      so_many = ap length c.put.ensures.beginnings ∙ length-set c.loop-processor.self.beginnings.items c.loop-processor.processor-counter c.carried_on-whole.result ∙ same;
      midway = rw c.put.ensures.beginnings (midway_next c.args.capacity (held_in c.args.other.now) (held_in c.args.rows.now) c.loop-processor.self.beginnings.items c.loop-processor.self.torn c.loop-processor.processor-counter c.loop-processor.invariant.midway
          c.carried_on-whole.result c.first_torn_in.result c.earlier-self.result row c.carried_on-whole.ensures c.first_torn_in.ensures (rw c.put.ensures.torn at c.earlier-self.ensures));
    }

pub returns-clause-counters : goal.returns-clause-counters
returns-clause-counters c =
    let same = c.loop-processor.invariant.so_many in
    let whole : length c.loop-processor.self.beginnings.items ≤ c.loop-processor.processor-counter = omega arith in
    midway_end c.args.capacity (held_in c.args.other.now) (held_in c.args.rows.now) c.loop-processor.self.beginnings.items c.loop-processor.self.torn c.loop-processor.processor-counter whole c.loop-processor.invariant.midway
