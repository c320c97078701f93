use Rattle.pfair_table.proofs.Common.{Dispatch, HavePlannedAlike, LeaveAlike, subst, HavePlacedAlike}
use Rattle.pfair_table.proofs.Alike.{kept_alike, placed_alike}
use Rattle.pfair_table.proofs.NextRuns.{left_alike}
use Rattle.pfair_table.proofs.dispatcher.Dispatcher.plans_alike.Goals as goal

pub returns-clause-planned : goal.returns-clause-planned
returns-clause-planned g c =
    subst (λ (d : Dispatch × Dispatch). HavePlannedAlike d.0 d.1) (λ i. (c.self.view_is i, c.other.view_is i))
    (kept_alike c.self.invariant.0 c.other.invariant.0 c.processors.ensures.rows.entries c.processors-2.ensures.rows.entries)

pub returns-clause-placed : goal.returns-clause-placed
returns-clause-placed g c =
    subst (λ (d : Dispatch × Dispatch). HavePlacedAlike d.0 d.1) (λ i. (c.self.view_is i, c.other.view_is i))
    (placed_alike c.self.invariant.0 c.other.invariant.0 c.processors.ensures.rows.entries c.processors-2.ensures.rows.entries)

pub returns-clause-left : goal.returns-clause-left
returns-clause-left g c =
    subst (λ (d : Dispatch × Dispatch). LeaveAlike d.0 d.1) (λ i. (c.self.view_is i, c.other.view_is i))
    (left_alike c.self.invariant.0 c.other.invariant.0 c.processors.ensures.rows.entries c.processors-2.ensures.rows.entries)
