use Rattle.pfair_board.proofs.Common.{IsAtWork, ◌≡◌, ◌≤◌, length}
use Rattle.pfair_board.proofs.worker.Worker.catch_up.Given as goal

-- each turn has planned a slot
abbrev pub invariant-loop-planned : goal.invariant-loop-planned
invariant-loop-planned g l = record {
  settings : l.self.planner.settings ≡ l.fn.self.planner.settings;
  at_work : IsAtWork g.K.Sink.has l.self.planner l.self.sink l.desk;
  more : l.planned ≤ length l.self.planner.tables;
}
