use Rattle.pfair_table.proofs.Common.{replica_of, has_torn, Dispatch, members_after, ◌≡◌, subst, false, length}
use Rattle.pfair_table.proofs.Keeping.{step_now}
use Rattle.pfair_table.proofs.dispatcher.Dispatcher.members.Goals as goal

pub returns-clause-whole : goal.returns-clause-whole
returns-clause-whole g c =
    subst (λ (d : Dispatch). has_torn (replica_of d.replica) ≡ false → c.self.inside.planner.members.members ≡ members_after d.origin d.settings (replica_of d.replica) (length d.tables)) c.self.view_is
    (λ test. (step_now c.self.invariant.0 c.processors.ensures.rows.entries test c.if-self.false).members_are)
