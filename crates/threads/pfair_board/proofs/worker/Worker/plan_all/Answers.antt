use Rattle.pfair_board.proofs.Common.{arith}
use Rattle.pfair_board.proofs.Working.{learned_trans, at_work_later}
use Rattle.pfair_board.proofs.worker.Worker.plan_all.Goals as goal

pub catch_up-requires-then-is_empty : goal.catch_up-requires-then-is_empty
catch_up-requires-then-is_empty g c = at_work_later g.K.Sink.has c.loop-hint.self.planner c.loop-hint.self.sink c.loop-hint.desk c.look.new.self c.loop-hint.invariant.at_work c.look.ensures.kept

pub loop-hint-preserved : goal.loop-hint-preserved
loop-hint-preserved g c = record {
  own = c.look.ensures.own;
  learned = learned_trans c.args.desk.now c.loop-hint.desk c.look.new.self c.loop-hint.invariant.learned (grind arith);
  settings = c.loop-hint.invariant.settings;
  at_work = at_work_later g.K.Sink.has c.loop-hint.self.planner c.loop-hint.self.sink c.loop-hint.desk c.look.new.self c.loop-hint.invariant.at_work c.look.ensures.kept;
}

pub catch_up-requires-2 : goal.catch_up-requires-2
catch_up-requires-2 g c = at_work_later g.K.Sink.has c.loop-hint.self.planner c.loop-hint.self.sink c.loop-hint.desk c.refresh.new.self c.loop-hint.invariant.at_work c.refresh.ensures.kept
