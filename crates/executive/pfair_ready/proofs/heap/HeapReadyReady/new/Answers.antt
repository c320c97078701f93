use Rattle.pfair_ready.proofs.Common.{heap_items, arith, common_steps}
use Rattle.pfair_ready.proofs.CalendarLemmas.{covered_none}
use Rattle.pfair_ready.proofs.heap.HeapReadyReady.new.Goals as goal

pub invariant_of-result : goal.invariant_of-result
invariant_of-result c =
    covered_none c.new.result c.new-2.result (heap_items c.new-3.result) c.new.ensures c.new-2.ensures.turned c.new-2.ensures.order (record { order = c.new-3.ensures.heap_order; numbered = grind (arith, common_steps) })
