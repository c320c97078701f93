use Rattle.pfair_lag.proofs.Common.{quanta_before, ◌≡◌, ◌<◌, ℕ}
use Rattle.pfair_lag.proofs.Counts.{LagAt}
use Rattle.pfair_lag.proofs.lag.lag_within.Given as goal

abbrev pub invariant-loop-time : goal.invariant-loop-time
invariant-loop-time l = (l.given ≡ quanta_before l.picks l.time) × ((t : ℕ) → t < l.time → LagAt l.cost l.period l.picks t)
