use Rattle.pfair_admission.proofs.Common.{arith, nat_tests}
use Rattle.pfair_admission.proofs.Carrying.{last_offset_carried}
use Rattle.pfair_admission.proofs.incarnation.Incarnation.can_be_carried.Goals as goal

pub returns-then-cost-le-LAST_INDEX : goal.returns-then-cost-le-LAST_INDEX
returns-then-cost-le-LAST_INDEX c = (λ fits. grind (arith, nat_tests, last_offset_carried), λ able. grind (arith, nat_tests, last_offset_carried))
