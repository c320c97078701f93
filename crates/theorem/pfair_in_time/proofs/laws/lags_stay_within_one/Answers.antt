use Rattle.pfair_in_time.proofs.ThroughRuns.{lags_stay_within_one}
use Rattle.pfair_in_time.proofs.laws.lags_stay_within_one.Goals as goal

pub returns : goal.returns
returns c = lags_stay_within_one c.lags_keep_windows.ensures c.lags_keep_deadlines.ensures
