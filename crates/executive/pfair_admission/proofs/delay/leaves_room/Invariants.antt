use Rattle.pfair_admission.proofs.Common.{sum_by, ◌≡◌, ◌+◌, take, min}
use Rattle.pfair_admission.proofs.delay.leaves_room.Given as goal

abbrev pub invariant-loop-delay : goal.invariant-loop-delay
invariant-loop-delay l = l.end ≡ min (l.slot + sum_by (λ d. d.by) (take l.delay-index l.delays)) 18446744073709551615
