use Rattle.pfair_table.proofs.Common.{IsQueueBesides, ◌≡◌, drop}
use Rattle.pfair_table.proofs.slot.ready_of.Given as goal

abbrev pub invariant-loop-index : goal.invariant-loop-index
invariant-loop-index g l = IsQueueBesides (drop l.index l.members.members) l.members.members (g.R.Ready.held l.ready) × (g.R.Ready.now l.ready ≡ 0)
