use Rattle.pfair_table.proofs.Common.{AllByRecursion, length-append, replica_of, numbers_below, untorn_by_test, is_plannable, with_next_slot, with_next, PlannedSlots, IsNext, Dispatch, Decided, IsInStep, IsKept, IsPlanOf, IsWholePlan, IsOrigin, IsFit, course_of, said, Replica, Settings, Origin, Table, table, decisions, history, last_or, table_before, places_before, places_in, places_after, each, ℕ, ◌≡◌, ◌<◌, ◌≤◌, ◌++◌, ◌∷◌, ◌+◌, [], ◌∙◌, sym, ap, subst, arith, false, length, List, map, if◌then◌else◌}
use Rattle.pfair_table.proofs.Keeping.{is_of_held, plan_now, step_now, kept_next, whole_plan, next_planned, next_none, course_next, course_same}
use Rattle.pfair_table.proofs.TableLaws.{named_before, ordered_from}
use Rattle.pfair_table.proofs.Alike.{fit_before, fit_plan, last_fit, last_places, next_are}
use Rattle.pfair_table.proofs.PlacesKept.{places_before_are}
use Rattle.pfair_table.proofs.dispatcher.Dispatcher.plan_next.Goals as goal

fit_wider : (m : ℕ) (rows : Table) → m ≤ 64 → IsFit m rows → IsFit 64 rows
fit_wider m rows le fit = (let few = fit.0 in omega (arith, few, le), fit.1)

-- the last table and its places are those of at most 64 processors
module _ {o : Origin} {s : Settings} {x y : Replica} {tables : List Table} {decided : List (List Decided)} (most : s.processors ≤ 64) (began : IsOrigin o s) (plan : IsPlanOf o s x y tables decided) where
  last_small : IsFit 64 (last_or (table_before o) tables)
  last_small =
      last_fit 64 (table_before o) tables (fit_wider s.processors (table_before o) most (fit_before o s began))
      (each (IsFit s.processors) (IsFit 64) (λ rows. fit_wider s.processors rows most) tables (fit_plan began plan))

  last_below : AllByRecursion (λ k. k < 64) (last_or (places_before o) (places_in o tables))
  last_below =
      each (λ k. k < s.processors) (λ k. k < 64) (λ k less. omega (arith, less, most)) (last_or (places_before o) (places_in o tables))
      (last_places s.processors (table_before o) (places_before o) (places_before_are o s began) tables (fit_plan began plan)).below

pub plan-requires-clause-able : goal.plan-requires-clause-able
plan-requires-clause-able g c =
    let there = next_planned c.self.inside.planner.settings (replica_of c.self.inside.replica) c.len-planned.ensures.tables c.in-Planned.slot c.in_ok-step.step c.in_ok-step.ensures.step c.in-Planned.is in
    record {
      began = subst (λ (o : Origin). IsOrigin o c.self.inside.planner.settings) (sym (c.origin-origin.ensures ∙ ap (λ (p : PlannedSlots). p.origin) c.take_room-room.ensures)) c.self.invariant.0.began;
      is_of = is_of_held c.self.invariant.0 c.next_step.ensures.replica;
      whole = untorn_by_test (replica_of c.self.inside.replica) c.next_step.ensures.replica c.in_ok-step.ensures.able.0;
      room = c.self.invariant.0.capacity;
      within = omega (arith, there.1, there.2);
    }

pub plan-requires-clause-step : goal.plan-requires-clause-step
plan-requires-clause-step g c =
    let a = c.self.inside in
    let there = next_planned a.planner.settings (replica_of a.replica) c.len-planned.ensures.tables c.in-Planned.slot c.in_ok-step.step c.in_ok-step.ensures.step c.in-Planned.is in
    let origin_is = c.origin-origin.ensures ∙ ap (λ (p : PlannedSlots). p.origin) c.take_room-room.ensures in
    subst (λ (p : Origin × ℕ). IsInStep p.0 a.planner.settings (replica_of a.replica) p.1 a.planner.members (g.R.Ready.now a.planner.ready) (g.R.Ready.held a.planner.ready)) (λ i. (sym origin_is i, sym there.2 i))
    (step_now c.self.invariant.0 c.next_step.ensures.replica c.in_ok-step.ensures.able.0 c.in_ok-step.ensures.able.1)

pub places_beside-requires-clause-before : goal.places_beside-requires-clause-before
places_beside-requires-clause-before g c =
    subst (IsFit 64) (sym (c.last.ensures.table ∙ ap (λ (p : PlannedSlots). last_or (table_before p.origin) p.tables) c.take_room-room.ensures))
    (last_small c.in_ok-plan.ensures.plan.limits.processors.1 c.self.invariant.0.began c.self.invariant.0.plan)

pub places_beside-requires-clause-below : goal.places_beside-requires-clause-below
places_beside-requires-clause-below g c =
    subst (AllByRecursion (λ k. k < 64)) (sym (c.last.ensures.places ∙ ap (λ (p : PlannedSlots). last_or (places_before p.origin) (places_in p.origin p.tables)) c.take_room-room.ensures))
    (last_below c.in_ok-plan.ensures.plan.limits.processors.1 c.self.invariant.0.began c.self.invariant.0.plan)

pub places_beside-requires-clause-rows : goal.places_beside-requires-clause-rows
places_beside-requires-clause-rows g c =
    let a = c.self.inside in
    let origin_is = c.origin-origin.ensures ∙ ap (λ (p : PlannedSlots). p.origin) c.take_room-room.ensures in
    let long = ap length (c.deref.ensures.value ∙ c.in_ok-plan.ensures.plan.table_is ∙ ap (λ (o : Origin). table o a.planner.settings (said (replica_of a.replica)) c.in-Planned.slot) origin_is) in
    let few = (ordered_from a.planned.origin a.planner.settings (named_before a.planned.origin a.planner.settings c.self.invariant.0.began) (said (replica_of a.replica)) c.in-Planned.slot).0.0 in
    omega (arith, long, few, c.in_ok-plan.ensures.plan.limits.processors.1)

pub push-requires-clause-few : goal.push-requires-clause-few
push-requires-clause-few g c =
    let there = next_planned c.self.inside.planner.settings (replica_of c.self.inside.replica) c.len-planned.ensures.tables c.in-Planned.slot c.in_ok-step.step c.in_ok-step.ensures.step c.in-Planned.is in
    let same = ap (λ (p : PlannedSlots). length p.tables) c.take_room-room.ensures in
    omega (arith, same, there.1, c.in_ok-plan.ensures.plan.limits.slots.1)

pub push-requires-clause-next : goal.push-requires-clause-next
push-requires-clause-next g c =
    let a = c.self.inside in
    let now = a.planned in
    let y = replica_of a.replica in
    let there = next_planned a.planner.settings y c.len-planned.ensures.tables c.in-Planned.slot c.in_ok-step.step c.in_ok-step.ensures.step c.in-Planned.is in
    let so_far = plan_now c.self.invariant.0 c.next_step.ensures.replica c.in_ok-step.ensures.able.0 in
    let settings_are = sym c.self.invariant.2 in
    let origin_is = c.origin-origin.ensures ∙ ap (λ (p : PlannedSlots). p.origin) c.take_room-room.ensures in
    subst (λ (p : PlannedSlots). IsNext p a.replica (record { plan = record { table = c.in_ok-plan.plan.table; decided = c.in_ok-plan.plan.decided }; places = c.in_ok-places.places }))
    (sym c.take_room-room.ensures) (record {
      tables_are = so_far.tables_are ∙ ap (λ (s : Settings). (history now.origin s (said y) (length now.tables)).tables) settings_are;
      decided_are = so_far.decided_are ∙ ap (λ (s : Settings). map (decisions now.origin s (said y)) (numbers_below (length now.tables))) settings_are;
      table_is = c.in_ok-plan.ensures.plan.table_is ∙ (λ i. table (origin_is i) (settings_are i) (said y) (there.2 i));
      decision_is = c.in_ok-plan.ensures.plan.decided_is ∙ (λ i. decisions (origin_is i) (settings_are i) (said y) (there.2 i));
      places_are = next_are now.origin now.tables c.in_ok-plan.plan.table.items
          ∙ ap (λ (ps : List ℕ). places_in now.origin now.tables ++ ps ∷ []) (sym (c.in_ok-places.ensures
          ∙ (λ i. places_after (c.last.ensures.table i) (c.last.ensures.places i) (c.deref.ensures.value i))
          ∙ ap (λ (p : PlannedSlots). places_after (last_or (table_before p.origin) p.tables) (last_or (places_before p.origin) (places_in p.origin p.tables)) c.in_ok-plan.plan.table.items) c.take_room-room.ensures));
    })

pub invariant_of-self-2 : goal.invariant_of-self-2
invariant_of-self-2 g c =
    let a = c.self.inside in
    let x = replica_of a.replica in
    let n = length a.planned.tables in
    let there = next_planned a.planner.settings x c.len-planned.ensures.tables c.in-Planned.slot c.in_ok-step.step c.in_ok-step.ensures.step c.in-Planned.is in
    let origin_is = c.origin-origin.ensures ∙ ap (λ (p : PlannedSlots). p.origin) c.take_room-room.ensures in
    let planned_is = c.in_ok-push.ensures.ok ∙ ap (λ (p : PlannedSlots). with_next p a.replica) c.take_room-room.ensures in
    let after = c.plan.new.self in
    let longer : n + 1 ≡ length (a.planned.tables ++ table a.planned.origin a.planned.settings (said x) n ∷ []) = sym (length-append a.planned.tables (table a.planned.origin a.planned.settings (said x) n ∷ [])) in (
      subst (λ (d : PlannedSlots × Settings). IsKept d.0.origin d.1 x d.0.tables d.0.decided false after.members (g.R.Ready.now after.ready) (g.R.Ready.held after.ready))
          (λ i. (sym planned_is i, sym c.plan.ensures.settings i))
          (kept_next c.self.invariant.0 c.next_step.ensures.replica c.in_ok-step.ensures.able.0 there.0 there.1
          (ap (λ (s : Settings). a.planned.tables ++ table a.planned.origin s (said x) n ∷ []) c.self.invariant.2)
          (ap (λ (s : Settings). a.planned.decided ++ decisions a.planned.origin s (said x) n ∷ []) c.self.invariant.2)
          (subst (λ (p : Origin × ℕ). IsInStep p.0 a.planner.settings x p.1 after.members (g.R.Ready.now after.ready) (g.R.Ready.held after.ready))
          (λ i. (origin_is i, (ap (λ k. k + 1) there.2 ∙ longer) i)) c.in_ok-plan.ensures.step)),
      λ _. c.in_ok-plan.ensures.readings,
      ap (λ (d : PlannedSlots). d.settings) planned_is ∙ c.self.invariant.2 ∙ sym c.plan.ensures.settings,
    )

pub returns-clause-course : goal.returns-clause-course
returns-clause-course g c =
    let a = c.self.inside in
    let there = next_planned a.planner.settings (replica_of a.replica) c.len-planned.ensures.tables c.in-Planned.slot c.in_ok-step.step c.in_ok-step.ensures.step c.in-Planned.is in
    ap (λ (d : PlannedSlots). record { origin = d.origin; replica = replica_of a.replica; tables = d.tables; decided = d.decided }) (c.in_ok-push.ensures.ok ∙ ap (λ (p : PlannedSlots). with_next p a.replica) c.take_room-room.ensures)
    ∙ course_next a.planner.settings a.planned a.replica c.self.invariant.2 there.3
    ∙ ap (λ (d : Dispatch). if is_plannable d.settings (replica_of d.replica) (length d.tables) then with_next_slot d.settings (course_of d) else course_of d) c.self.view_is

pub returns-in_default-clause-course : goal.returns-in_default-clause-course
returns-in_default-clause-course g c =
    let none = next_none c.self.inside.planner.settings (replica_of c.self.inside.replica) c.len-planned.ensures.tables c.in_ok-step.step c.in_ok-step.ensures.step c.in_default.not-Planned in
    course_same c.args.self.now (subst (λ (d : Dispatch). is_plannable d.settings (replica_of d.replica) (length d.tables) ≡ false) c.self.view_is none.0)

pub returns-in_default-clause-settled : goal.returns-in_default-clause-settled
returns-in_default-clause-settled g c = λ last.
    (let none = next_none c.self.inside.planner.settings (replica_of c.self.inside.replica) c.len-planned.ensures.tables c.in_ok-step.step c.in_ok-step.ensures.step c.in_default.not-Planned in
    subst IsWholePlan c.self.view_is (whole_plan c.self.invariant.0 c.next_step.ensures.replica c.in_ok-step.ensures.able.0 none.1))
