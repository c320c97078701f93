use Rattle.pfair_lag.proofs.Common.{LagWithin, quanta_before, ◌≡◌, ◌*◌, ℕ, arith, ap, sym, refl, below_more}
use Rattle.pfair_lag.proofs.Counts.{quanta_zero, LagAt, lag_at, from_lag_at, lag_within, in_windows}
use Rattle.pfair_lag.proofs.lag.lag_within.Goals as goal
use Rattle.pfair_lag.proofs.lag.lag_within.Goals.{Joined-then-due-period, After-loop-time, then-due-period-via-then-due-period, then-due-period-via-else-due-period+then-done-period}

pub loop-time-init : goal.loop-time-init
loop-time-init c = (sym (quanta_zero c.args.picks.now c.in_ok-check_picks.ensures.rising), λ t h. absurd (omega arith))

-- when the walk stops, the lag is out of its bounds
out_of_bounds : (c : Joined-then-due-period) → LagWithin c.args.weight c.args.picks.now c.args.horizon → ⊥
out_of_bounds c lag =
    let at = lag_at c.args.weight c.args.picks.now c.args.horizon c.loop-time.time lag (omega arith) in
    let here : LagAt c.cost-cost.result c.period-period.result c.args.picks.now c.loop-time.time = rw (c.cost-cost.ensures.value, c.period-period.ensures.value) at in
    let given : quanta_before c.args.picks.now c.loop-time.time * c.period-period.result ≡ c.loop-time.given * c.period-period.result = ap (λ (n : ℕ). n * c.period-period.result) (sym c.loop-time.invariant.0) in
    elim c.then-due-period.branch [ then-due-period-via-then-due-period w ↦ omega arith | then-due-period-via-else-due-period+then-done-period w ↦ omega arith ]

pub returns-then-due-period-clause-lag : goal.returns-then-due-period-clause-lag
returns-then-due-period-clause-lag c = (λ h. absurd (cc), λ lag. absurd (out_of_bounds c lag))

pub returns-then-due-period-clause-windows : goal.returns-then-due-period-clause-windows
returns-then-due-period-clause-windows c =
    (λ h. absurd (cc), λ inside. absurd (out_of_bounds c (lag_within c.args.weight c.args.picks.now c.args.horizon c.cost-cost.ensures.weight c.in_ok-check_picks.ensures.ok inside)))

pub loop-time-preserved : goal.loop-time-preserved
loop-time-preserved c =
    let is : c.loop-time.given ≡ quanta_before c.args.picks.now c.loop-time.time = c.loop-time.invariant.0 in
    let given : quanta_before c.args.picks.now c.loop-time.time * c.period-period.result ≡ c.loop-time.given * c.period-period.result = ap (λ (n : ℕ). n * c.period-period.result) (sym is) in
    let here : LagAt c.cost-cost.result c.period-period.result c.args.picks.now c.loop-time.time = record { ahead = omega arith; behind = omega arith } in (
      c.given_after-given.ensures,
      below_more (λ t. LagAt c.cost-cost.result c.period-period.result c.args.picks.now t) c.loop-time.time c.loop-time.invariant.1 here,
    )

-- when the walk ends, it has seen each time
walked : (c : After-loop-time) → LagWithin c.args.weight c.args.picks.now c.args.horizon
walked c = from_lag_at c.args.weight c.args.picks.now c.args.horizon (λ t within.
    let here : LagAt c.cost-cost.result c.period-period.result c.args.picks.now t = c.loop-time.invariant.1 t (omega arith) in
    rw (← c.cost-cost.ensures.value, ← c.period-period.ensures.value) here)

pub returns-clause-lag : goal.returns-clause-lag
returns-clause-lag c = (λ h. walked c, λ lag. refl)

pub returns-clause-windows : goal.returns-clause-windows
returns-clause-windows c = (λ h. in_windows c.args.weight c.args.picks.now c.args.horizon c.cost-cost.ensures.weight c.in_ok-check_picks.ensures.ok (walked c), λ inside. refl)
