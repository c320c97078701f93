use Rattle.pfair_c.proofs.Common.{◌≡◌, ◌++◌, map, take, drop, decision_row}
use Rattle.pfair_c.proofs.decisions.write_rows.Given as goal

abbrev pub invariant-loop-row : goal.invariant-loop-row
invariant-loop-row l = l.rows ≡ map (decision_row l.slot) (take l.row l.decided) ++ drop l.row l.initial.rows
