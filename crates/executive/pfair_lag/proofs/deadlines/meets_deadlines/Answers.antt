use Rattle.pfair_lag.proofs.Common.{MeetsDeadlines, IsTrue, ◌↔◌}
use Rattle.pfair_lag.proofs.Counts.{lag_from_deadlines, deadlines_from_lag, none_found, late_miss_deadlines}
use Rattle.pfair_lag.proofs.deadlines.meets_deadlines.Goals as goal
use Rattle.pfair_lag.proofs.deadlines.meets_deadlines.Goals.{After-is_none}

tests : (c : After-is_none) → IsTrue c.is_none.result ↔ MeetsDeadlines c.args.weight c.args.picks.now c.args.horizon
tests c = none_found _ _ c.in_ok-first_late.field-0 c.is_none.result (late_miss_deadlines c.args.weight c.args.picks.now c.args.horizon) c.is_none.ensures c.in_ok-first_late.ensures.found

pub returns-clause-deadlines : goal.returns-clause-deadlines
returns-clause-deadlines c = tests c

pub returns-clause-lag : goal.returns-clause-lag
returns-clause-lag c =
    let theorem = lag_from_deadlines c.args.weight c.args.picks.now c.args.horizon c.in_ok-first_late.ensures.weight c.in_ok-first_late.ensures.valid in
    let converse = deadlines_from_lag c.args.weight c.args.picks.now c.args.horizon c.in_ok-first_late.ensures.weight c.in_ok-first_late.ensures.valid in
    (λ h. theorem ((tests c).0 h), λ lag. (tests c).1 (converse lag))
