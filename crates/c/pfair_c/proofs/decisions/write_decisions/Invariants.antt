use Rattle.pfair_c.proofs.Common.{◌≡◌, ◌-◌, ◌≤◌, length, min, decisions_at, rows_of, written_over}
use Rattle.pfair_c.proofs.decisions.write_decisions.Given as goal

abbrev pub invariant-loop-slot : goal.invariant-loop-slot
invariant-loop-slot g l =
    (l.from ≤ l.slot) × (l.slot - l.from ≤ l.to - l.from) × (l.count ≡ min (length (rows_of (decisions_at l.dispatcher.decided) l.from (l.slot - l.from))) 18446744073709551615)
    × (length (rows_of (decisions_at l.dispatcher.decided) l.from (l.slot - l.from)) ≤ length l.initial.rows
    → l.rows ≡ written_over (rows_of (decisions_at l.dispatcher.decided) l.from (l.slot - l.from)) l.initial.rows)
