use Rattle.pfair_c.proofs.Common.{◌≡◌, ◌++◌, drop, windows_of}
use Rattle.pfair_c.proofs.window.pfair_windows.Given as goal

abbrev pub invariant-loop-place : goal.invariant-loop-place
invariant-loop-place l = l.rows ≡ windows_of l.weight l.theta l.first l.place ++ drop l.place l.initial.rows
