use Rattle.std.specs.List.{AllByRecursion}
use Rattle.pfair_entry.specs.Entry.{IsWithinLimits}
use Rattle.pfair_refusals.proofs.admission.announced.Given as goal

abbrev pub invariant-loop-letter : goal.invariant-loop-letter
invariant-loop-letter l = AllByRecursion (λ a. IsWithinLimits a.announcement) l.all.items
