use Rattle.pfair_output.proofs.Common.{all_slots_booked, ◌≡◌, ◌≤◌, ◌-◌, drop, take}
use Rattle.pfair_output.proofs.lags.book_slots.Given as goal

-- the book so far, with the slots that are left, is the whole
abbrev pub invariant-loop-slot : goal.invariant-loop-slot
invariant-loop-slot g l = (l.book.time ≡ l.slot)
    × (all_slots_booked l.book (take (l.to - l.slot) (drop l.slot l.dispatcher.decided)) (take (l.to - l.slot) (drop l.slot l.dispatcher.tables))
    ≡ all_slots_booked l.fn.book (take (l.to - l.fn.book.time) (drop l.fn.book.time l.dispatcher.decided)) (take (l.to - l.fn.book.time) (drop l.fn.book.time l.dispatcher.tables)))
    × (l.fn.book.time ≤ l.slot)
