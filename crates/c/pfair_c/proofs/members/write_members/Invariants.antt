use Rattle.pfair_c.proofs.Common.{◌≡◌, ◌++◌, map, take, drop, member_row}
use Rattle.pfair_c.proofs.members.write_members.Given as goal

abbrev pub invariant-loop-place : goal.invariant-loop-place
invariant-loop-place l = l.rows ≡ map (member_row l.time) (take l.place l.members.members) ++ drop l.place l.initial.rows
