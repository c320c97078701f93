use Rattle.pfair_board.proofs.Common.{each_snoc, as_tables, ◌≡◌, [], ap, arith, map}
use Rattle.pfair_board.proofs.dispatchers.run_dispatchers.Goals as goal

pub loop-preserved : goal.loop-preserved
loop-preserved g c = record {
  count = omega (arith, c.push_reserved.ensures.len, c.loop.invariant.count);
  room = rw c.push_reserved.ensures.capacity c.loop.invariant.room;
  empty = λ k kept at. each_snoc (λ j v. as_tables v ≡ []) c.loop.sinks.items c.new-in-loop.result c.loop.invariant.empty (ap (map (λ t. t.items)) c.new-in-loop.ensures.items) k kept (rw (← c.push_reserved.ensures.items) at);
}
