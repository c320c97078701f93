use Rattle.pfair_ready.proofs.Common.{heap_items}
use Rattle.pfair_ready.proofs.CalendarLemmas.{covered_less}
use Rattle.pfair_ready.proofs.heap.HeapReadyReady.remove.Goals as goal

pub invariant_of-self : goal.invariant_of-self
invariant_of-self c =
    rw c.remove.ensures.content (covered_less c.self.inside.now c.self.inside.waiting c.args.name.now c.self.inside.calendar (heap_items c.self.inside.released) c.self.invariant)
