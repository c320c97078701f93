use Rattle.pfair_lag.proofs.Common.{quanta_before, ◌≡◌, ◌+◌, ◌*◌, ◌<◌, ℕ}
use Rattle.pfair_lag.proofs.lag.lag_below.Given as goal

abbrev pub invariant-loop-time : goal.invariant-loop-time
invariant-loop-time l = (l.given ≡ quanta_before l.picks l.time) × ((t : ℕ) → t < l.time → t * l.cost < (quanta_before l.picks t + 1) * l.period)
