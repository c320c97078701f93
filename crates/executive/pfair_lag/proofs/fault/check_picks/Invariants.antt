use Rattle.pfair_lag.proofs.Common.{IsPick, ℕ, ◌<◌}
use Rattle.pfair_lag.proofs.fault.check_picks.Given as goal

abbrev pub invariant-loop-place : goal.invariant-loop-place
invariant-loop-place l = (k : ℕ) → k < l.place → IsPick l.picks l.horizon k
