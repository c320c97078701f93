use Rattle.pfair_lag.proofs.Common.{common_steps, LagBelowOne, quanta_before, ◌≡◌, ◌+◌, ◌*◌, ◌<◌, ℕ, arith, ap, sym, refl}
use Rattle.pfair_lag.proofs.Counts.{quanta_zero, lag_below_one, of_lag_below_one, lag_from_deadlines, deadlines_from_lag}
use Rattle.pfair_lag.proofs.lag.lag_below.Goals as goal
use Rattle.pfair_lag.proofs.lag.lag_below.Goals.{Then-period-given, After-loop-time}

pub loop-time-init : goal.loop-time-init
loop-time-init c = (sym (quanta_zero c.args.picks.now c.in_ok-check_picks.ensures.rising), λ t h. absurd (omega arith))

-- when the walk stops, the lag is 1 or more
too_late : (c : Then-period-given) → LagBelowOne c.args.weight c.args.picks.now c.args.horizon → ⊥
too_late c lag =
    let at = of_lag_below_one c.args.weight c.args.picks.now c.args.horizon lag c.loop-time.time (omega arith) in
    let here : c.loop-time.time * c.cost-cost.result < (quanta_before c.args.picks.now c.loop-time.time + 1) * c.period-period.result = rw (c.cost-cost.ensures.value, c.period-period.ensures.value) at in
    let given : quanta_before c.args.picks.now c.loop-time.time * c.period-period.result ≡ c.loop-time.given * c.period-period.result = ap (λ (n : ℕ). n * c.period-period.result) (sym c.loop-time.invariant.0) in
    omega arith

pub returns-then-period-given-clause-lag : goal.returns-then-period-given-clause-lag
returns-then-period-given-clause-lag c = (λ h. absurd (cc), λ lag. absurd (too_late c lag))

pub returns-then-period-given-clause-deadlines : goal.returns-then-period-given-clause-deadlines
returns-then-period-given-clause-deadlines c =
    (λ h. absurd (cc), λ met. absurd (too_late c (lag_from_deadlines c.args.weight c.args.picks.now c.args.horizon c.cost-cost.ensures.weight c.in_ok-check_picks.ensures.ok met)))

pub loop-time-preserved : goal.loop-time-preserved
loop-time-preserved c = grind (arith, common_steps)

-- when the walk ends, it has seen each time
walked : (c : After-loop-time) → LagBelowOne c.args.weight c.args.picks.now c.args.horizon
walked c = lag_below_one c.args.weight c.args.picks.now c.args.horizon (λ t within.
    let here : t * c.cost-cost.result < (quanta_before c.args.picks.now t + 1) * c.period-period.result = c.loop-time.invariant.1 t (omega arith) in
    rw (← c.cost-cost.ensures.value, ← c.period-period.ensures.value) here)

pub returns-clause-lag : goal.returns-clause-lag
returns-clause-lag c = (λ h. walked c, λ lag. refl)

pub returns-clause-deadlines : goal.returns-clause-deadlines
returns-clause-deadlines c = (λ h. deadlines_from_lag c.args.weight c.args.picks.now c.args.horizon c.cost-cost.ensures.weight c.in_ok-check_picks.ensures.ok (walked c), λ met. refl)
