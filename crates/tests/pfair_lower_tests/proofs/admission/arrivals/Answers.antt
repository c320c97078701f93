use Rattle.std.proofs.Common.{sym, subst, List, [], ◌∷◌, ◌++◌}
use Rattle.std.specs.List.{AllByRecursion}
use Rattle.pfair_entry.specs.Entry.{IsWithinLimits}
use Rattle.pfair_entry.specs.declared.entry.Said.{Said}
use Rattle.pfair_lower_tests.proofs.admission.arrivals.Goals as goal

-- one announcement more is within its limits
within_push : (all : List Said) (said : Said) → AllByRecursion (λ a. IsWithinLimits a.announcement) all → IsWithinLimits said.announcement → AllByRecursion (λ a. IsWithinLimits a.announcement) (all ++ said ∷ [])
within_push [] said h one = (one, tt)
within_push (x ∷ all) said h one = (h.0, within_push all said h.1 one)

pub loop-place-preserved : goal.loop-place-preserved
loop-place-preserved g c =
    subst (λ all. AllByRecursion (λ a. IsWithinLimits a.announcement) all) (sym c.in_ok-push.ensures.items)
    (within_push c.loop-place.announced.items c.arrives.result c.loop-place.invariant c.arrives.ensures)
