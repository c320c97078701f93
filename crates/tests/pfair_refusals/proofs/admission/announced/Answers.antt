use Rattle.std.proofs.Common.{refl, sym, subst, List, [], ◌∷◌, ◌++◌}
use Rattle.std.specs.List.{AllByRecursion}
use Rattle.pfair_entry.specs.Entry.{IsWithinLimits}
use Rattle.pfair_entry.specs.declared.entry.Said.{Said}
use Rattle.pfair_refusals.proofs.admission.announced.Goals as goal

-- one announcement more is within its limits
within_push : (all : List Said) (said : Said) → AllByRecursion (λ a. IsWithinLimits a.announcement) all → IsWithinLimits said.announcement → AllByRecursion (λ a. IsWithinLimits a.announcement) (all ++ said ∷ [])
within_push [] said h one = (one, tt)
within_push (x ∷ all) said h one = (h.0, within_push all said h.1 one)

pub loop-letter-preserved : goal.loop-letter-preserved
loop-letter-preserved c =
    subst (λ all. AllByRecursion (λ a. IsWithinLimits a.announcement) all) (sym c.in_ok-push.ensures.items)
    (within_push c.loop-letter.all.items (record { proc = 0; number = 1; announcement = c.in-Some.announcement }) c.loop-letter.invariant
    (c.in-Some.ensures c.in-Some.announcement refl))
