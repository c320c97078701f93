use Rattle.pfair_weight.proofs.Common.{common_steps, rounded_twice, arith}
use Rattle.pfair_weight.proofs.Steppers.{ceiling_is}
use Rattle.pfair_weight.proofs.stepper.Cascade.end.Goals as goal

pub returns-clause-within : goal.returns-clause-within
returns-clause-within c = grind (arith, common_steps, ceiling_is, rounded_twice)
