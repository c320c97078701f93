use Rattle.pfair_board.proofs.Common.{plan, replica_of, capacity_of, replica_of_logs, IsFirstFault, ◌≡◌, ◌∙◌, sym, subst, None, IfOk, length}
use Rattle.pfair_board.proofs.Working.{first_of, run_fault, same_replica}
use Rattle.pfair_board.proofs.threads.run_on.Goals as goal

pub returns-in-Some-clause-fault : goal.returns-in-Some-clause-fault
returns-in-Some-clause-fault g c =
    let script = c.args.script.now in
    let works = c.in_ok-works.works.items in
    run_fault (g.K.Sink.has) _ script _ works c.in-Some.fault c.in_ok-works.ensures.1 (first_of script c.deref.ensures.value c.into_replica-whole.ensures c.in_ok-take_script.ensures.held c.slots.ensures.value c.settings-2.ensures.value c.in-Some.is c.first_fault.ensures)

pub returns-in-None-clause-good : goal.returns-in-None-clause-good
returns-in-None-clause-good g c = λ k w at.
    let script = c.args.script.now in
    let works = c.in_ok-works.works.items in
    let work = c.in_ok-works.ensures.1.each k w at in
    let none : IsFirstFault works (replica_of_logs script.logs) script.settings.slots None = first_of script c.deref.ensures.value c.into_replica-whole.ensures c.in_ok-take_script.ensures.held c.slots.ensures.value c.settings-2.ensures.value c.in-None.is c.first_fault.ensures in
    let held = none.0 k w at in
    let rows : w.desk.replica.processors ≡ length script.logs = work.desk.processors ∙ c.requires.processors ∙ sym c.settings.ensures.run.one_each in
    let row : w.desk.replica.capacity ≡ capacity_of script.logs = work.desk.capacity ∙ c.requires.capacity in
    let same = same_replica c.least_join.ensures (replica_of w.desk.replica) (replica_of_logs script.logs) rows row held.1 held.2 in
    record {
      desk = record {
        own = work.desk;
        processor = work.processor;
        replica = same;
      };
      kept = held.0;
      plan = subst (λ x. IfOk w.kept (λ kept. g.K.Sink.has kept k (plan None script.settings x))) same work.plan;
    }

pub returns-in-None-clause-far_enough : goal.returns-in-None-clause-far_enough
returns-in-None-clause-far_enough g c =
    let script = c.args.script.now in
    let works = c.in_ok-works.works.items in
    let none : IsFirstFault works (replica_of_logs script.logs) script.settings.slots None = first_of script c.deref.ensures.value c.into_replica-whole.ensures c.in_ok-take_script.ensures.held c.slots.ensures.value c.settings-2.ensures.value c.in-None.is c.first_fault.ensures in
    none.1
