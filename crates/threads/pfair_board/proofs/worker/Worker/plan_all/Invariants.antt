use Rattle.pfair_board.proofs.Common.{IsDeskOf, HasLearned, IsAtWork, ◌≡◌}
use Rattle.pfair_board.proofs.worker.Worker.plan_all.Given as goal

abbrev pub invariant-loop-hint : goal.invariant-loop-hint
invariant-loop-hint g l = record {
  own : IsDeskOf l.desk l.board;
  learned : HasLearned l.fn.desk l.desk;
  settings : l.self.planner.settings ≡ l.fn.self.planner.settings;
  at_work : IsAtWork g.K.Sink.has l.self.planner l.self.sink l.desk;
}
