use Rattle.pfair_c.proofs.Common.{◌≡◌, ◌++◌, map, take, drop, pick_row}
use Rattle.pfair_c.proofs.table.write_table.Given as goal

abbrev pub invariant-loop-place : goal.invariant-loop-place
invariant-loop-place l = l.rows ≡ map pick_row (take l.place l.table) ++ drop l.place l.initial.rows
