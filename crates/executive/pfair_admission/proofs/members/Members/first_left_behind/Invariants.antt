use Rattle.pfair_admission.proofs.Common.{AllByRecursion, CanBeCarried, take}
use Rattle.pfair_admission.proofs.members.Members.first_left_behind.Given as goal

abbrev pub invariant-loop-place : goal.invariant-loop-place
invariant-loop-place l = AllByRecursion CanBeCarried (take l.place l.self.members)
