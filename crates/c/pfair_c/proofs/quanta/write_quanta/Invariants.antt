use Rattle.pfair_c.proofs.Common.{◌≡◌, ◌-◌, ◌≤◌, length, quanta_at, rows_of, written_over, ◌*◌}
use Rattle.pfair_c.proofs.quanta.write_quanta.Given as goal

abbrev pub invariant-loop-slot : goal.invariant-loop-slot
invariant-loop-slot g l =
    (l.from ≤ l.slot) × (l.slot - l.from ≤ l.to - l.from) × (l.count ≡ length (rows_of (quanta_at l.dispatcher.origin l.dispatcher.tables) l.from (l.slot - l.from)))
    × (l.count ≤ 64 * (l.slot - l.from))
    × (length (rows_of (quanta_at l.dispatcher.origin l.dispatcher.tables) l.from (l.slot - l.from)) ≤ length l.initial.rows
    → l.rows ≡ written_over (rows_of (quanta_at l.dispatcher.origin l.dispatcher.tables) l.from (l.slot - l.from)) l.initial.rows)
