use Rattle.pfair_table.proofs.Common.{replica_of, AreReadFrom, IsInStep, ◌≡◌}
use Rattle.pfair_table.proofs.planner.Planner.plan_again.Given as goal

abbrev pub invariant-loop-slot : goal.invariant-loop-slot
invariant-loop-slot g l = record {
  settings : l.self.settings ≡ l.fn.self.settings;
  step : IsInStep l.origin l.fn.self.settings (replica_of l.replica) l.slot l.self.members (g.R.Ready.now l.self.ready) (g.R.Ready.held l.self.ready);
  readings : AreReadFrom (replica_of l.replica) l.self.readings;
}
