use Rattle.pfair_ready.proofs.Common.{heap_items}
use Rattle.pfair_ready.proofs.CalendarLemmas.{covered_kept}
use Rattle.pfair_ready.proofs.heap.HeapReadyReady.reserve.Goals as goal

pub invariant_of-self-2 : goal.invariant_of-self-2
invariant_of-self-2 c =
    rw (c.reserve.ensures, c.reserve-2.ensures.items)
    (covered_kept c.self.inside.now c.self.inside.waiting c.self.inside.calendar c.reserve-3.new.self (heap_items c.self.inside.released) (heap_items c.self.inside.released) c.reserve-3.ensures (record { kept = λ t h. h; sound = λ h. h }) c.self.invariant)
