use Rattle.pfair_board.proofs.Common.{get_or_from_slice_get, replica_of, plan, ◌≡◌, [], sym, subst, OnOk, IfOk, IfErr, Ok, Err, Result, slice_index_or, None, IsWorkerFault, HoldsLog}
use Rattle.pfair_board.proofs.threads.work.Goals as goal

on_ok : {T E A B : Type 0} (r : Result T E) → OnOk r A → (A → B) → OnOk r B
on_ok (Ok x) a f = f a
on_ok (Err e) a f = tt

-- the worker's log is that of its row, and its desk was at the first number
pub returns : goal.returns
returns g c =
    let script = c.args.script.now in
    let row = c.args.workplace.desk.processor in
    let log_is = subst (λ k. slice_index_or script.logs k [] ≡ c.log-log.result.now) c.proc.ensures.value
    (get_or_from_slice_get script.logs c.proc.result c.log-log.result.now [] c.log-log.ensures.value) in
    let desk = c.run_into-kept.new.desk in
    let kept = c.run_into-kept.result in
    record {
      desk = c.run_into-kept.ensures.own;
      processor = c.run_into-kept.ensures.grown.processor;
      log = on_ok kept c.run_into-kept.ensures.log (λ published.
          subst (HoldsLog desk 1) (sym log_is) (subst (λ n. HoldsLog desk n c.log-log.result.now) c.requires.place.first published.held));
      plan = subst (λ s. IfOk kept (λ sink. g.K.Sink.has sink row (plan None s (replica_of desk.replica)))) c.settings-settings.ensures.value c.run_into-kept.ensures.plan;
      fault = subst (λ log. IfErr kept (IsWorkerFault g.G.Gate.may_give_up desk 1 log)) (sym log_is)
          (subst (λ n. IfErr kept (IsWorkerFault g.G.Gate.may_give_up desk n c.log-log.result.now)) c.requires.place.first c.run_into-kept.ensures.fault);
    }
