use Rattle.pfair_table.proofs.Common.{Roster, AreLeftAt, sym, subst}
use Rattle.pfair_table.proofs.NextRuns.{none_left}
use Rattle.pfair_table.proofs.state.State.first.Goals as goal

pub new-requires-clause-members : goal.new-requires-clause-members
new-requires-clause-members c = subst (λ (r : Roster). AreLeftAt 0 r.machine r.members) (sym c.new-members.ensures) (none_left 0 _)
