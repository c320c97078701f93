use Rattle.pfair_handle.proofs.Common.{◌∙◌, sym, true≢false}
use Rattle.pfair_handle.proofs.Handle.le.Goals as goal

pub returns-clause-below : goal.returns-clause-below
returns-clause-below c is =
    rw (c.take-served.ensures.taken, c.take-beside.ensures.taken, ← c.deref.ensures, ← c.deref-2.ensures, ← c.replica.ensures.value, ← c.replica-2.ensures.value) (c.le-below.ensures.0 is)

pub returns-clause-not_below : goal.returns-clause-not_below
returns-clause-not_below c is =
    rw (c.take-served.ensures.taken, c.take-beside.ensures.taken, ← c.deref.ensures, ← c.deref-2.ensures, ← c.replica.ensures.value, ← c.replica-2.ensures.value)
    (λ below. absurd (true≢false (sym (c.le-below.ensures.1 below) ∙ is)))
