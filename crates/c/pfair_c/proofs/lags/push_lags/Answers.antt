use Rattle.pfair_c.proofs.Common.{◌<◌, length, arith, rules, lag_row}
use Rattle.pfair_c.proofs.SlotRows.{one-appended}
use Rattle.pfair_c.proofs.lags.push_lags.Goals as goal
use Rattle.pfair_c.proofs.lags.push_lags.Goals.{in-Some+in_ok-push, in_default}

pub loop-place-preserved : goal.loop-place-preserved
loop-place-preserved c =
    let inside : c.loop-place.place < length c.args.book.now.entered = omega (arith, c.loop-place-test.true, c.loop-place.auto.place-end, c.len-place-end.ensures) in
    one-appended (lag_row c.args.book.now.time) c.args.book.now.entered c.args.lags.now.items c.loop-place.lags.items c.match-row_at.lags.items c.loop-place.place inside c.loop-place.invariant
    (λ task at. elim c.match-row_at.branch [ in-Some+in_ok-push w ↦ search rules | in_default w ↦ search rules ])
