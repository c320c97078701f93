use Rattle.pfair_admission.proofs.Registers.{AreCarried}
use Rattle.pfair_admission.proofs.members.Members.carried.Given as goal

abbrev pub invariant-loop-place : goal.invariant-loop-place
invariant-loop-place l = AreCarried l.self l.place l.ledger
