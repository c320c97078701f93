use Rattle.pfair_weight.proofs.Common.{common_steps, div_ceil, div_ceil_rises, mul-le, le_refl, MAX_CLOSE, arith, ◌≡◌, ◌+◌, ◌-◌, ◌*◌, ◌<◌, ◌≤◌, ap, Close}
use Rattle.pfair_weight.proofs.Steppers.{grown, end_fits, more_of, more_between, ceiling_is}
use Rattle.pfair_weight.proofs.stepper.Cascade.advance.Goals as goal
use Rattle.pfair_weight.proofs.stepper.Cascade.advance.Goals.{After-ceiling}

-- the idle slots after the step
idle_next : (c : After-ceiling) → c.add_times.new.self ≡ record { numerator = (c.self.inside.close + c.args.slots) * (c.self.inside.weight.period - c.self.inside.weight.cost); denominator = c.self.inside.weight.period }
idle_next c = more_of c.self.inside.close c.args.slots _ _ c.self.inside.idle c.self.inside.idle_step c.add_times.new.self c.self.invariant.idle c.self.invariant.idle_step c.add_times.ensures

ceiling_next : (c : After-ceiling) → c.ceiling.result ≡ div_ceil ((c.self.inside.close + c.args.slots) * (c.self.inside.weight.period - c.self.inside.weight.cost)) c.self.inside.weight.period
ceiling_next c = ceiling_is c.add_times.new.self _ _ c.ceiling.result (idle_next c) c.ceiling.ensures

ceiling_before : (c : After-ceiling) → c.ceiling-before.result ≡ div_ceil (c.self.inside.close * (c.self.inside.weight.period - c.self.inside.weight.cost)) c.self.inside.weight.period
ceiling_before c = ceiling_is c.self.inside.idle _ _ c.ceiling-before.result c.self.invariant.idle c.ceiling-before.ensures

range : (c : After-ceiling) → c.self.inside.close + c.args.slots ≤ MAX_CLOSE
range c = let same = ap (λ (x : Close). x.close) c.self.view_is in omega (arith, c.requires)

rises : (c : After-ceiling) → c.ceiling-before.result ≤ c.ceiling.result
rises c = grind (arith, common_steps, ceiling_next, ceiling_before, div_ceil_rises, mul-le, le_refl)

end_at : (c : After-ceiling) → c.self.inside.end ≡ record { numerator = c.ceiling-before.result * c.self.inside.weight.period; denominator = c.self.inside.weight.period - c.self.inside.weight.cost }
end_at c = rw (ceiling_before c) c.self.invariant.end

pub add_times-requires-2-clause-small : goal.add_times-requires-2-clause-small
add_times-requires-2-clause-small c =
    let some : 0 < c.self.inside.weight.period = omega (arith, c.self.invariant.below_one) in
    let room : 0 < c.self.inside.weight.period - c.self.inside.weight.cost = omega (arith, c.self.invariant.below_one) in
    let fits = end_fits (c.self.inside.close + c.args.slots) (c.self.inside.weight.period - c.self.inside.weight.cost) c.self.inside.weight.period room some c.self.invariant.weight.period_in_range (range c) in
    rw (end_at c, c.self.invariant.end_step, grown c.ceiling-before.result c.ceiling.result c.self.inside.weight.period (rises c), ceiling_next c) fits

pub invariant_of-self : goal.invariant_of-self
invariant_of-self c =
    let at = (goal.at.invariant_of-self c).After-ceiling in
    let end = more_between c.ceiling-before.result c.ceiling.result _ _ c.self.inside.end c.self.inside.end_step c.add_times-2.new.self (rises at) (end_at at) c.self.invariant.end_step c.add_times-2.ensures in
    grind (arith, idle_next at, ceiling_next at, range at, end)
