use Rattle.pfair_admission.proofs.Common.{arith}
use Rattle.pfair_admission.proofs.Carrying.{stepped_fits, has_run}
use Rattle.pfair_admission.proofs.incarnation.Incarnation.run_on.Goals as goal

pub delay-requires : goal.delay-requires
delay-requires c = grind (arith, stepped_fits)

pub invariant_of-self : goal.invariant_of-self
invariant_of-self c = grind (arith, has_run)
