use Rattle.pfair_table.proofs.Common.{IsQueueBut, ◌≡◌, drop}
use Rattle.pfair_table.proofs.planner.Planner.plan.Given as goal

abbrev pub invariant-loop-said : goal.invariant-loop-said
invariant-loop-said g l = IsQueueBut (drop l.said-index l.said-items) l.members.members (g.R.Ready.held l.ready) × (g.R.Ready.now l.ready ≡ g.R.Ready.now l.fn.self.ready)
