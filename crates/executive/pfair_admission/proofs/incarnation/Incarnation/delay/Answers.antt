use Rattle.pfair_admission.proofs.Common.{arith, nat_tests}
use Rattle.pfair_admission.proofs.Carrying.{theta_rises}
use Rattle.pfair_admission.proofs.incarnation.Incarnation.delay.Goals as goal
use Rattle.pfair_admission.proofs.incarnation.Incarnation.delay.Goals.{then-release-slot, else-release-slot}

pub returns-clause-decision : goal.returns-clause-decision
returns-clause-decision c = elim c.if-release-slot.branch [ then-release-slot w ↦ grind (arith, nat_tests) | else-release-slot w ↦ grind (arith, nat_tests, theta_rises) ]
