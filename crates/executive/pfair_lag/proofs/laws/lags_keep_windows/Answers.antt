use Rattle.pfair_lag.proofs.Counts.{lag_within, in_windows}
use Rattle.pfair_lag.proofs.laws.lags_keep_windows.Goals as goal

pub returns : goal.returns
returns c w picks horizon weight are = (lag_within w picks horizon weight are, in_windows w picks horizon weight are)
