use Rattle.pfair_c.proofs.Common.{◌≡◌, ◌++◌, map, take, drop, key_row}
use Rattle.pfair_c.proofs.held.write_keys.Given as goal

abbrev pub invariant-loop-place : goal.invariant-loop-place
invariant-loop-place l = l.rows ≡ map key_row (take l.place l.keys) ++ drop l.place l.initial.rows
