use Rattle.pfair_admission.proofs.Common.{as_one, coming_delays, lowered, passed_delays, ◌≡◌, ◌++◌, map, take}
use Rattle.pfair_admission.proofs.delay.carried_delays.Given as goal

abbrev pub invariant-loop-delay : goal.invariant-loop-delay
invariant-loop-delay l = l.all.items ≡ as_one (passed_delays l.next l.delays) ++ map (lowered l.subtasks) (coming_delays l.next (take l.delay-index l.delays))
