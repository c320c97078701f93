use Rattle.pfair_board.proofs.Common.{HasPublished, length, refl, slice_get_read, slice_get_within, arith}
use Rattle.pfair_board.proofs.Working.{at_work_later, grown_trans, held_more, published_later}
use Rattle.pfair_board.proofs.worker.run_into.Goals as goal

pub returns-in-Err-Taken-clause-fault : goal.returns-in-Err-Taken-clause-fault
returns-in-Err-Taken-clause-fault g c = grind (arith, slice_get_read)

pub loop-entry-preserved : goal.loop-entry-preserved
loop-entry-preserved g c = record {
  own = c.publish.ensures.own;
  grown = grown_trans c.args.desk.now c.loop-entry.desk c.publish.new.self c.loop-entry.invariant.grown c.publish.ensures.kept;
  next = grind arith;
  log = held_more c.args.desk.now c.loop-entry.desk c.publish.new.self c.args.log.now c.loop-entry.entry-index c.entry-item.result c.loop-entry.invariant.grown c.publish.ensures.kept c.loop-entry.invariant.next
      (slice_get_read c.args.log.now (length c.args.log.now) c.loop-entry.entry-index c.entry-item.result refl (omega arith) c.entry-item.is) c.in-Ok.ensures.held_now c.loop-entry.invariant.log;
}

pub returns-in_err-send-in-Ok-clause-grown : goal.returns-in_err-send-in-Ok-clause-grown
returns-in_err-send-in-Ok-clause-grown g c = grown_trans c.args.desk.now c.loop-entry.desk c.publish.new.self c.loop-entry.invariant.grown c.publish.ensures.kept

pub plan_all-requires-clause-at_work : goal.plan_all-requires-clause-at_work
plan_all-requires-clause-at_work g c = at_work_later g.K.Sink.has c.in_ok-planner.planner c.args.sink c.args.desk.now c.loop-entry.desk (grind arith) c.loop-entry.invariant.grown

pub returns-in_err-plan_all-clause-grown : goal.returns-in_err-plan_all-clause-grown
returns-in_err-plan_all-clause-grown g c = grown_trans c.args.desk.now c.loop-entry.desk c.plan_all.new.desk c.loop-entry.invariant.grown c.plan_all.ensures.learned.grown

pub returns-clause-grown : goal.returns-clause-grown
returns-clause-grown g c = grown_trans c.args.desk.now c.loop-entry.desk c.plan_all.new.desk c.loop-entry.invariant.grown c.plan_all.ensures.learned.grown

pub returns-clause-log : goal.returns-clause-log
returns-clause-log g c =
    let published : HasPublished c.args.desk.now c.loop-entry.desk c.args.log.now = record {
      held = λ i e at. (let lt = slice_get_within c.args.log.now i e at in rw c.loop-entry.invariant.grown.processor (c.loop-entry.invariant.log i e (omega (arith, lt)) at));
      next = omega (arith, c.loop-entry.invariant.next);
    } in
    published_later c.args.desk.now c.loop-entry.desk c.plan_all.new.desk c.args.log.now published c.plan_all.ensures.learned
