use Rattle.pfair_ready.proofs.Common.{Contains, IsHeap, IsNoted, Moves, heap_items, later_cmp, under, ◌≡◌, ◌≤◌, ◌<◌, ◌+◌, ℕ, [], length}
use Rattle.pfair_ready.proofs.CalendarLemmas.{IsFrom}
use Rattle.pfair_ready.proofs.calendar.Calendar.release.Given as goal

-- the dates before this one have moved
abbrev pub invariant-loop-date : goal.invariant-loop-date
invariant-loop-date l = Moves l.slot (λ d. (d.release ≤ l.slot) × Contains l.date-items d) (IsFrom l.date-items l.date-index) (heap_items l.initial.released) (heap_items l.released)

-- the buckets of the slots so far are empty
abbrev pub invariant-loop-ahead : goal.invariant-loop-ahead
invariant-loop-ahead l = record {
  moves : Moves l.slot (IsNoted l.fn.self) (IsNoted l.self) (heap_items l.fn.released) (heap_items l.released);
  turned : l.self.turned ≡ l.fn.self.turned;
  far : l.self.far ≡ l.fn.self.far;
  emptied : (s : ℕ) → l.fn.self.turned < s → s ≤ l.fn.self.turned + l.ahead → under l.self.near.items s ≡ [];
}

abbrev pub invariant-loop-date-2 : goal.invariant-loop-date-2
invariant-loop-date-2 l = record {
  moves : Moves l.slot (IsNoted l.fn.self) (IsNoted l.self) (heap_items l.fn.released) (heap_items l.released);
  turned : l.self.turned ≡ l.slot;
  order : IsHeap later_cmp (heap_items l.self.far);
}

abbrev pub decreases-loop-date-2 : goal.decreases-loop-date-2
decreases-loop-date-2 l = length (heap_items l.self.far)
