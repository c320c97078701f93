-- A stepper's next subtask.
use Rattle.pfair_weight.proofs.Common.{div_ceil, div_ceil_times, mul-le, le_refl, MAX_CLOSE, ◌≡◌, ℕ, ◌+◌, ◌-◌, ◌*◌, ◌<◌, ◌≤◌, ◌^◌, arith, ap, ◌∙◌, Ratio, MAX_INDEX, ◌/◌, Close, Share, Option, Some}
use Rattle.pfair_weight.specs.declared.stepper.Stepper.TheInside.{Inside}
use Rattle.pfair_weight.specs.Stepped.{IsStepped, IsCascadeOf}

-- How a cascade's fractions grow.

-- from x times p to y times p by what lies between
pub grown : (x y p : ℕ) → x ≤ y → x * p + (y - x) * p ≡ y * p
grown x y p h = grind arith

-- the end of a cascade fits a word
pub end_fits : (close room p : ℕ) → 0 < room → 0 < p → p ≤ 1000000000 → close ≤ MAX_CLOSE → div_ceil (close * room) p * p < 2 ^ 63 * room
end_fits close room p some hp small near = grind (arith, div_ceil_times, mul-le, le_refl)

-- so many steps more
pub more_of : (close slots room p : ℕ) (idle step next : Ratio) →
    idle ≡ record { numerator = close * room; denominator = p } →
    step ≡ record { numerator = room; denominator = p } →
    next ≡ record idle { numerator = idle.numerator + slots * step.numerator } →
    next ≡ record { numerator = (close + slots) * room; denominator = p }
more_of close slots room p idle step next e f g = grind arith

pub more_between : (x y p room : ℕ) (end step next : Ratio) → x ≤ y →
    end ≡ record { numerator = x * p; denominator = room } →
    step ≡ record { numerator = p; denominator = room } →
    next ≡ record end { numerator = end.numerator + (y - x) * step.numerator } →
    next ≡ record { numerator = y * p; denominator = room }
more_between x y p room end step next h e f g = grind (arith, grown)

pub ceiling_is : (r : Ratio) (n d x : ℕ) → r ≡ record { numerator = n; denominator = d } → x ≡ div_ceil r.numerator r.denominator → x ≡ div_ceil n d
ceiling_is r n d x e h = h ∙ ap (λ (s : Ratio). div_ceil s.numerator s.denominator) e

-- no cascade at one window is none at another
pub cascade_kept : (w : Share) (from to : ℕ) (cascade : Option Close) → ((x : Close) → cascade ≡ Some x → ⊥) → IsCascadeOf w from cascade → IsCascadeOf w to cascade
cascade_kept w from to cascade n h = grind arith

-- a cascade goes on by as many slots as the window's end moves
pub cascade_moves : (w : Share) (from to : ℕ) (cascade : Option Close) (x y : Close) → from ≤ to → cascade ≡ Some x →
    y ≡ record x { close = x.close + (to - from) } → IsCascadeOf w from cascade → IsCascadeOf w to (Some y)
cascade_moves w from to cascade x y h is e g = grind arith

pub next_stepped : (a : Inside) (opened : ℕ) (served : Ratio) (cascade : Option Close) → IsStepped a → a.index < MAX_INDEX →
    opened ≡ a.served.numerator / a.served.denominator →
    served ≡ record a.served { numerator = a.served.numerator + a.served_step.numerator } →
    IsCascadeOf a.weight (div_ceil ((a.index + 1) * a.weight.period) a.weight.cost) cascade →
    IsStepped record { weight = a.weight; index = a.index + 1; theta = a.theta; opened = opened; served = served; served_step = a.served_step; cascade = cascade }
next_stepped a opened served cascade p h o s g = grind arith
