use Rattle.pfair_lag.proofs.Common.{arith}
use Rattle.pfair_lag.proofs.Counts.{length_le, rises}
use Rattle.pfair_lag.proofs.fault.check_picks.Goals as goal

pub returns-clause-few : goal.returns-clause-few
returns-clause-few c = length_le c.args.picks.now c.args.horizon (λ k h. c.loop-place.invariant k (omega arith))

pub returns-clause-rising : goal.returns-clause-rising
returns-clause-rising c = rises c.args.picks.now c.args.horizon (λ k h. c.loop-place.invariant k (omega arith))
