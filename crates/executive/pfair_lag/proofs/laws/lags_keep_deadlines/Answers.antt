use Rattle.pfair_lag.proofs.Counts.{lag_from_deadlines, deadlines_from_lag}
use Rattle.pfair_lag.proofs.laws.lags_keep_deadlines.Goals as goal

pub returns : goal.returns
returns c w picks horizon weight are = (lag_from_deadlines w picks horizon weight are, deadlines_from_lag w picks horizon weight are)
