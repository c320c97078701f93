-- What a stepper keeps.
use Rattle.std.specs.Prelude.{ℕ, Option, Some, None, ◌≡◌, ◌-◌, ◌*◌, ◌/◌, ◌<◌, ◌≤◌}
use Rattle.std.specs.Int.{div_ceil}
use Rattle.pfair_weight.specs.Window.{Share, Position, IsPosition, Close}
use Rattle.pfair_weight.specs.declared.stepper.Stepper.TheInside.{Inside}

abbrev pub position_of : Inside → Position
position_of a = record { weight = a.weight; index = a.index; theta = a.theta }

-- the cascade of a heavy weight below 1, for a window that closes at `close`; no other weight has one
abbrev pub IsCascadeOf : Share → ℕ → Option Close → Type 0
IsCascadeOf w close None = w.period ≤ 2 * w.cost → w.cost ≡ w.period
IsCascadeOf w close (Some cascade) = (w.period ≤ 2 * w.cost) × (w.cost < w.period) × (cascade ≡ record { weight = w; close = close })

pub record IsStepped (a : Inside) : Type 0 where
  pub position : IsPosition (position_of a)
  pub opened : a.opened ≡ ((a.index - 1) * a.weight.period) / a.weight.cost
  pub served : a.served ≡ record { numerator = a.index * a.weight.period; denominator = a.weight.cost }
  pub served_step : a.served_step ≡ record { numerator = a.weight.period; denominator = a.weight.cost }
  pub cascade : IsCascadeOf a.weight (div_ceil (a.index * a.weight.period) a.weight.cost) a.cascade
