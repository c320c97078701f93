use Rattle.pfair_table.proofs.Common.{arith, ReplicaRows, replica_of, untorn_by_test, AreReadFrom, tables_to, decided_to, Dispatch, IsInStep, IsKept, IsPlanFault, IsWholePlan, said, Settings, table, decisions, ◌+◌, ◌∙◌, sym, ap, subst, None, refl, seeing}
use Rattle.pfair_table.proofs.Keeping.{is_of_held, next_planned, next_none}
use Rattle.pfair_table.proofs.Alike.{at_slot, memory_only, plannable, next_plan, kept_of, step_seen, kept_seen, whole_seen, seen_after}
use Rattle.pfair_table.proofs.slot_planner.SlotPlanner.plan_next.Goals as goal

pub returns-in_default-clause-slot : goal.returns-in_default-clause-slot
returns-in_default-clause-slot g c =
    let a = c.self.inside in
    let none = next_none a.planner.settings (replica_of c.args.replica.now) (refl {a = a.planned}) c.in_ok-slot.field-0 c.in_ok-slot.ensures.step c.in_default.not-Planned in
    sym (plannable a.of.value a.planned (c.self.view_is ∙ c.see.ensures)) ∙ none.0

pub returns-in_default-clause-settled : goal.returns-in_default-clause-settled
returns-in_default-clause-settled g c = λ last.
    (let a = c.self.inside in
    let none = next_none a.planner.settings (replica_of c.args.replica.now) (refl {a = a.planned}) c.in_ok-slot.field-0 c.in_ok-slot.ensures.step c.in_default.not-Planned in
    subst IsWholePlan (sym c.see.ensures) (whole_seen a.of.value a.planned c.self.invariant.0 (c.self.view_is ∙ c.see.ensures) c.next_step.ensures.replica c.in_ok-slot.ensures.able.0 none.1))

pub plan-requires-clause-readings : goal.plan-requires-clause-readings
plan-requires-clause-readings g c =
    let a = c.self.inside in
    subst (λ (h : ReplicaRows). AreReadFrom (replica_of h) a.planner.readings) (ap (λ (d : Dispatch). d.replica) (c.self.view_is ∙ c.see.ensures)) (c.self.invariant.1 c.in_ok-slot.ensures.able.1)

pub plan-requires-clause-able : goal.plan-requires-clause-able
plan-requires-clause-able g c =
    let a = c.self.inside in
    let test = c.in_ok-slot.ensures.able.0 in
    let kept = kept_of a.of.value a.planned c.self.invariant.0 (c.self.view_is ∙ c.see.ensures) c.next_step.ensures.replica test in
    let there = next_planned a.planner.settings (replica_of c.args.replica.now) (refl {a = a.planned}) c.in-Planned.slot c.in_ok-slot.field-0 c.in_ok-slot.ensures.step c.in-Planned.is in
    record {
      began = tt;
      is_of = is_of_held kept c.next_step.ensures.replica;
      whole = untorn_by_test (replica_of c.args.replica.now) c.next_step.ensures.replica test;
      room = kept.capacity;
      within = omega (arith, there.1, there.2);
    }

pub plan-requires-clause-step : goal.plan-requires-clause-step
plan-requires-clause-step g c =
    let a = c.self.inside in
    let there = next_planned a.planner.settings (replica_of c.args.replica.now) (refl {a = a.planned}) c.in-Planned.slot c.in_ok-slot.field-0 c.in_ok-slot.ensures.step c.in-Planned.is in
    subst (λ n. IsInStep None a.planner.settings (replica_of c.args.replica.now) n a.planner.members (g.R.Ready.now a.planner.ready) (g.R.Ready.held a.planner.ready)) (sym there.2)
    (step_seen a.of.value a.planned c.self.invariant.0 (c.self.view_is ∙ c.see.ensures) c.next_step.ensures.replica c.in_ok-slot.ensures.able.0 c.in_ok-slot.ensures.able.1)

pub returns-in_err-next-clause-fault : goal.returns-in_err-next-clause-fault
returns-in_err-next-clause-fault g c =
    let a = c.self.inside in
    let there = next_planned a.planner.settings (replica_of c.args.replica.now) (refl {a = a.planned}) c.in-Planned.slot c.in_ok-slot.field-0 c.in_ok-slot.ensures.step c.in-Planned.is in
    let d = seeing c.args.self.now c.args.replica.now in
    memory_only (IsPlanFault d) c.from_residual-in_err-next.result c.from_residual-in_err-next.ensures.1
    (sym (ap (λ (e : Dispatch). e.spent) (c.self.view_is ∙ c.see.ensures)) ∙ c.in_ok-slot.ensures.able.1, sym (plannable a.of.value a.planned (c.self.view_is ∙ c.see.ensures)) ∙ there.3)

pub invariant_of-self-2 : goal.invariant_of-self-2
invariant_of-self-2 g c =
    let a = c.self.inside in
    let there = next_planned a.planner.settings (replica_of c.args.replica.now) (refl {a = a.planned}) c.in-Planned.slot c.in_ok-slot.field-0 c.in_ok-slot.ensures.step c.in-Planned.is in
    let next = c.plan.new.self in (
      subst (λ (s : Settings). IsKept None s (replica_of a.seen.value) (tables_to None s c.of.result.value (a.planned + 1)) (decided_to None s c.of.result.value (a.planned + 1)) next.spent next.members (g.R.Ready.now next.ready) (g.R.Ready.held next.ready)) (sym c.plan.ensures.settings)
          (kept_seen a.of.value a.planned c.self.invariant.0 (c.self.view_is ∙ c.see.ensures) c.next_step.ensures.replica c.in_ok-slot.ensures.able.0 c.of.ensures there.0 there.1
          (subst (λ n. IsInStep None a.planner.settings (replica_of c.args.replica.now) (n + 1) next.members (g.R.Ready.now next.ready) (g.R.Ready.held next.ready)) there.2 c.in_ok-next.ensures.step)),
      λ _. subst (λ (h : ReplicaRows). AreReadFrom (replica_of h) next.readings) (sym (ap (λ (d : Dispatch). d.replica) (c.self.view_is ∙ c.see.ensures))) c.in_ok-next.ensures.readings,
    )

pub returns-clause-next : goal.returns-clause-next
returns-clause-next g c =
    let a = c.self.inside in
    let y = replica_of c.args.replica.now in
    let there = next_planned a.planner.settings (replica_of c.args.replica.now) (refl {a = a.planned}) c.in-Planned.slot c.in_ok-slot.field-0 c.in_ok-slot.ensures.step c.in-Planned.is in
    let spent_is = c.in_ok-next.ensures.spent ∙ sym c.in_ok-slot.ensures.able.1 in
    (λ i. at_slot (c.plan.ensures.settings i) a.seen.value c.of.result.value (a.planned + 1) (spent_is i))
    ∙ seen_after a.of.value a.planned c.self.invariant.0 (c.self.view_is ∙ c.see.ensures) c.next_step.ensures.replica c.in_ok-slot.ensures.able.0 c.in_ok-next.next c.of.ensures
    (c.in_ok-next.ensures.plan.table_is ∙ ap (table None a.planner.settings (said y)) there.2) (c.in_ok-next.ensures.plan.decided_is ∙ ap (decisions None a.planner.settings (said y)) there.2)

pub returns-clause-slot : goal.returns-clause-slot
returns-clause-slot g c =
    let a = c.self.inside in
    let y = replica_of c.args.replica.now in
    let there = next_planned a.planner.settings (replica_of c.args.replica.now) (refl {a = a.planned}) c.in-Planned.slot c.in_ok-slot.field-0 c.in_ok-slot.ensures.step c.in-Planned.is in
    next_plan a.of.value a.planned (c.self.view_is ∙ c.see.ensures) c.in_ok-next.next there.3 c.in_ok-next.ensures.plan.limits.processors.1
    (c.in_ok-next.ensures.plan.table_is ∙ ap (table None a.planner.settings (said y)) there.2) (c.in_ok-next.ensures.plan.decided_is ∙ ap (decisions None a.planner.settings (said y)) there.2)
