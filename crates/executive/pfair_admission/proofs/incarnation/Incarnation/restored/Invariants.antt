use Rattle.pfair_admission.proofs.Common.{member_in, ◌≡◌, take}
use Rattle.pfair_admission.proofs.incarnation.Incarnation.restored.Given as goal

abbrev pub invariant-loop-delay : goal.invariant-loop-delay
invariant-loop-delay l = l.member ≡ record (member_in l.fn.state) { delays = take l.delay-index l.delay-items }
