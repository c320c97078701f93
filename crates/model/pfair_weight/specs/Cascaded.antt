-- What a cascade keeps.
use Rattle.std.specs.Prelude.{◌≡◌, ◌-◌, ◌*◌, ◌<◌, ◌≤◌}
use Rattle.std.specs.Int.{div_ceil}
use Rattle.pfair_weight.specs.Window.{IsWeight, Close}
use Rattle.pfair_weight.specs.declared.window.TheConstants.{MAX_CLOSE}
use Rattle.pfair_weight.specs.declared.stepper.Cascade.TheInside.{Inside}

abbrev pub close_of : Inside → Close
close_of a = record { weight = a.weight; close = a.close }

pub record IsCascaded (a : Inside) : Type 0 where
  pub weight : IsWeight a.weight.cost a.weight.period
  pub below_one : a.weight.cost < a.weight.period
  pub range : a.close ≤ MAX_CLOSE
  pub idle : a.idle ≡ record { numerator = a.close * (a.weight.period - a.weight.cost); denominator = a.weight.period }
  pub idle_step : a.idle_step ≡ record { numerator = a.weight.period - a.weight.cost; denominator = a.weight.period }
  pub end : a.end ≡ record { numerator = div_ceil (a.close * (a.weight.period - a.weight.cost)) a.weight.period * a.weight.period; denominator = a.weight.period - a.weight.cost }
  pub end_step : a.end_step ≡ record { numerator = a.weight.period; denominator = a.weight.period - a.weight.cost }
