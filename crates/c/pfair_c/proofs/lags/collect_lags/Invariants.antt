use Rattle.pfair_c.proofs.Common.{◌≡◌, ◌-◌, ◌≤◌, length, min, rows_of, book_after, lags_at}
use Rattle.pfair_c.proofs.lags.collect_lags.Given as goal

abbrev pub invariant-loop-slot : goal.invariant-loop-slot
invariant-loop-slot g l =
    (l.from ≤ l.slot) × (l.slot ≤ l.to) × (l.book ≡ book_after l.dispatcher l.slot)
    × (l.count ≡ min (length (rows_of (lags_at l.dispatcher) l.from (l.slot - l.from))) 18446744073709551615)
    × (length (rows_of (lags_at l.dispatcher) l.from (l.slot - l.from)) ≤ l.room → l.lags.items ≡ rows_of (lags_at l.dispatcher) l.from (l.slot - l.from))
