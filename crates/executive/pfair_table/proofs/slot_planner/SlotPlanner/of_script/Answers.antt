use Rattle.pfair_table.proofs.Common.{replica_of, frontier, has_torn, test_by_untorn, Dispatch, replica_of_logs, Settings, ◌≡◌, ◌∙◌, sym, ap, subst, arith, false}
use Rattle.pfair_table.proofs.Scripts.{script_whole}
use Rattle.pfair_table.proofs.slot_planner.SlotPlanner.of_script.Goals as goal

pub returns-then-frontier-slots-clause-fault : goal.returns-then-frontier-slots-clause-fault
returns-then-frontier-slots-clause-fault g c =
    let held_is = ap replica_of c.into_replica-replica.ensures ∙ c.in_ok-take_script.ensures.held in
    let slots_are = ap (λ (s : Settings). s.slots) c.settings-settings.ensures.value in
    (c.frontier-frontier.ensures.value ∙ ap frontier held_is, omega (arith, c.if-frontier-slots.true, c.slots.ensures.value, slots_are))

pub returns-clause-able : goal.returns-clause-able
returns-clause-able g c =
    let script = c.args.script.now in
    let x = c.into_replica-replica.result in
    let held_is = ap replica_of c.into_replica-replica.ensures ∙ c.in_ok-take_script.ensures.held in
    let start = c.in_ok-planner.ensures.start in
    let limit = ap (λ (d : Dispatch). d.settings.slots) start in
    record {
      held_is = ap (λ (d : Dispatch). d.replica) start;
      whole = subst (λ r. has_torn r ≡ false) (sym held_is) (test_by_untorn (replica_of_logs script.logs) (script_whole script.logs));
      settled = omega (arith, limit, c.if-frontier-slots.false, c.slots.ensures.value, c.frontier-frontier.ensures.value);
    }
