use Rattle.pfair_ready.proofs.Common.{heap_items, ◌≡◌, ◌≤◌, length, map, min, vec_capacity}
use Rattle.pfair_ready.proofs.Taking.{IsTaking}
use Rattle.pfair_ready.proofs.heap.HeapReady.select.Given as goal

abbrev pub invariant-turns : goal.invariant-turns
invariant-turns g l =
    IsTaking l.slot l.m (length (heap_items l.initial.self-inside.released)) l.initial.self-inside.waiting l.self-inside.waiting l.self-inside.calendar (heap_items l.self-inside.released) (map g.key l.first.items)
    × (l.self-inside.now ≡ l.slot) × (min l.m (length (heap_items l.initial.self-inside.released)) ≤ vec_capacity l.first)

abbrev pub decreases-turns : goal.decreases-turns
decreases-turns g l = length (heap_items l.self-inside.released)
