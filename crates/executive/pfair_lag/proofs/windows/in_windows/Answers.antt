use Rattle.pfair_lag.proofs.Common.{InWindows, IsTrue, ◌↔◌}
use Rattle.pfair_lag.proofs.Counts.{lag_within, in_windows, none_found, misses_are_out}
use Rattle.pfair_lag.proofs.windows.in_windows.Goals as goal
use Rattle.pfair_lag.proofs.windows.in_windows.Goals.{After-is_none}

tests : (c : After-is_none) → IsTrue c.is_none.result ↔ InWindows c.args.weight c.args.picks.now c.args.horizon
tests c = none_found _ _ c.in_ok-first_miss.field-0 c.is_none.result (misses_are_out c.args.weight c.args.picks.now c.args.horizon) c.is_none.ensures c.in_ok-first_miss.ensures.found

pub returns-clause-windows : goal.returns-clause-windows
returns-clause-windows c = tests c

pub returns-clause-lag : goal.returns-clause-lag
returns-clause-lag c =
    let theorem = lag_within c.args.weight c.args.picks.now c.args.horizon c.in_ok-first_miss.ensures.weight c.in_ok-first_miss.ensures.valid in
    let converse = in_windows c.args.weight c.args.picks.now c.args.horizon c.in_ok-first_miss.ensures.weight c.in_ok-first_miss.ensures.valid in
    (λ h. theorem ((tests c).0 h), λ lag. (tests c).1 (converse lag))
