use Rattle.pfair_weight.proofs.Common.{◌≡◌, ◌+◌, ◌*◌}
use Rattle.pfair_weight.proofs.stepper.Fraction.add_times.Given as goal

abbrev pub invariant-loop-time : goal.invariant-loop-time
invariant-loop-time l = l.self ≡ record l.fn.self { numerator = l.fn.self.numerator + l._time * l.other.numerator }
