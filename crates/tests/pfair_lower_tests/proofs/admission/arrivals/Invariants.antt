use Rattle.std.specs.List.{AllByRecursion}
use Rattle.pfair_entry.specs.Entry.{IsWithinLimits}
use Rattle.pfair_lower_tests.proofs.admission.arrivals.Given as goal

abbrev pub invariant-loop-place : goal.invariant-loop-place
invariant-loop-place g l = AllByRecursion (λ a. IsWithinLimits a.announcement) l.announced.items
