use Rattle.pfair_table.proofs.Common.{keys_of, ◌≡◌}
use Rattle.pfair_table.proofs.QueueKept.{RunSoFar}
use Rattle.pfair_table.proofs.slot.give_quanta.Given as goal

abbrev pub invariant-loop-seated : goal.invariant-loop-seated
invariant-loop-seated g l = RunSoFar l.fn.members (keys_of l.seated-items) l.seated-index l.members l.table.items (g.R.Ready.held l.ready) × (g.R.Ready.now l.ready ≡ l.slot)
