use Rattle.pfair_c.proofs.Common.{◌≡◌, ◌++◌, map, take, lag_row}
use Rattle.pfair_c.proofs.lags.push_lags.Given as goal

abbrev pub invariant-loop-place : goal.invariant-loop-place
invariant-loop-place l = l.lags.items ≡ l.initial.lags.items ++ map (lag_row l.book.time) (take l.place l.book.entered)
