use Rattle.pfair_replica.proofs.Common.{held_in, ◌≡◌, length}
use Rattle.pfair_replica.proofs.Following.{Midway}
use Rattle.pfair_replica.proofs.rows.Counters.follow_join.Given as goal

abbrev pub invariant-loop-processor : goal.invariant-loop-processor
invariant-loop-processor l = record {
  so_many : length l.self.beginnings.items ≡ length l.initial.self.beginnings.items;
  midway : Midway l.capacity l.processor-counter (held_in l.other) (held_in l.rows) l.self.beginnings.items l.self.torn;
}
