use Rattle.pfair_c.proofs.Common.{◌≡◌, ◌++◌, take, drop, quanta_in}
use Rattle.pfair_c.proofs.quanta.write_rows.Given as goal

abbrev pub invariant-loop-row : goal.invariant-loop-row
invariant-loop-row l = l.rows ≡ quanta_in l.places l.slot 0 (take l.row l.table) ++ drop l.row l.initial.rows
