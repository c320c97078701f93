use Rattle.pfair_lag.proofs.Common.{deadline_of, pick_of, ℕ, ◌≤◌, ◌<◌}
use Rattle.pfair_lag.proofs.deadlines.first_late.Given as goal

abbrev pub invariant-loop-place : goal.invariant-loop-place
invariant-loop-place l = (i : ℕ) → 1 ≤ i → i ≤ l.place → pick_of l.picks i < deadline_of l.weight i 0
