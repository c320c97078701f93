use Rattle.std.proofs.lemmas.List.{nil_from_length}
use Rattle.std.proofs.lemmas.Iterator.{items_from_collect, YieldsList-from_map, YieldsList-from_slice, YieldsList-from_zip}
use Rattle.pfair_admission.specs.Admission.{after_boundary}
use Rattle.pfair_table.proofs.Common.{[], IfOk, IsQueue, ℕ, Decided, with_decisions, boundary_decisions, rules, IsNotifiedOf, AllByRecursion, NamesApart, MAX_INDEX, Said, replica_of, Replica, announcements, member_named, Member, Roster, apart_boundary, queued, is_said, IsSteady, heard_before, all_ran, List, Ok, false, ◌≤◌, ◌<◌, ◌≡◌, ◌+◌, ◌∙◌, sym, ap, subst, arith, suc, length, rows_at}
use Rattle.pfair_table.proofs.TableLaws.{each_boundary, few_before, in_time, steady_next}
use Rattle.pfair_table.proofs.QueueKept.{notified_turn, queue_after_boundary}
use Rattle.pfair_table.proofs.Keeping.{step_after, heard_fits}
use Rattle.pfair_table.proofs.NextRuns.{AreWithinLimits, said_within}
use Rattle.pfair_table.proofs.planner.Planner.plan.Goals as goal
use Rattle.pfair_table.proofs.planner.Planner.plan.Goals.{After-deref-said-items, then-is_empty, else-is_empty+in_ok-decisions+in_ok-decided}
use Rattle.pfair_table.proofs.planner.Planner.plan.Given.{Over}

pub slot_of-at-requires : goal.slot_of-at-requires
slot_of-at-requires g c = omega (arith, in_time c.args.origin.now c.args.self.now.settings c.requires.able.began c.processors-processors.ensures.limits.slots.1 c.args.slot (omega (arith, c.requires.able.within)))

pub boundary-requires-clause-slot : goal.boundary-requires-clause-slot
boundary-requires-clause-slot g c = omega (arith, c.slot_of-at.ensures, in_time c.args.origin.now c.args.self.now.settings c.requires.able.began c.processors-processors.ensures.limits.slots.1 c.args.slot (omega (arith, c.requires.able.within)))

pub boundary-requires-clause-heard : goal.boundary-requires-clause-heard
boundary-requires-clause-heard g c =
    let x : Replica = replica_of c.args.replica.now in
    let many = c.requires.able.is_of.processors in
    let limit = c.processors-processors.ensures.limits.processors.1 in
    let so_far = c.requires.step.heard_is in
    let fits : heard_before x (suc c.args.slot) ≤ 262144 = heard_fits x (suc c.args.slot) (omega (arith, many, limit)) c.requires.able.room in
    subst (λ (h : List Said). c.args.self.now.members.heard + length h ≤ 262144) (sym (c.deref.ensures.value ∙ c.in_ok-announced.ensures.announced)) (omega (arith, fits, so_far))

pub boundary-requires-clause-limits : goal.boundary-requires-clause-limits
boundary-requires-clause-limits g c =
    subst AreWithinLimits (sym (c.deref.ensures.value ∙ c.in_ok-announced.ensures.announced)) (said_within (replica_of c.args.replica.now) c.requires.able.is_of.replica c.args.slot)

-- what the boundary leaves, whether something was announced or not
abbrev AreDecided : List Said → ℕ → (before after : Roster) → List Decided → Type 0
AreDecided announced at before after decided =
    (after ≡ after_boundary at announced before) × (decided ≡ with_decisions announced (boundary_decisions before.machine at before.members (announcements announced)))

boundary_is : (g : Over) (c : After-deref-said-items g) → AreDecided c.in_ok-announced.announced.items c.slot_of-at.result c.args.self.now.members c.if-is_empty.self.members c.if-is_empty.decided.items
boundary_is g c = elim c.if-is_empty.branch [
  | then-is_empty w ↦ (let none : c.in_ok-announced.announced.items ≡ [] = grind (arith, c.is_empty.ensures, w.if-is_empty.true, nil_from_length) in
      grind (arith, none, w.self-is, w.decided-is, w.pass.ensures, w.new-decided.ensures))
  | else-is_empty+in_ok-decisions+in_ok-decided w ↦ (let all : IfOk w.collect.result (λ all. all.items ≡ with_decisions w.deref-else-is_empty.result.now w.deref-else-is_empty-2.result.now) =
      items_from_collect w.collect.result w.collect.ensures.ran
      (YieldsList-from_map _ _ (YieldsList-from_zip (YieldsList-from_slice w.deref-else-is_empty.result.now cc) (YieldsList-from_slice w.deref-else-is_empty-2.result.now cc)) w.map.ensures.closure (λ x r q k. search rules)) in
      grind (arith, all, w.self-is, w.decided-is, w.deref.ensures.value, w.deref-else-is_empty.ensures.value, w.deref-else-is_empty-2.ensures.value, w.in_ok-decisions.ensures))
]

ready_is : (g : Over) (c : After-deref-said-items g) → c.if-is_empty.self.ready ≡ c.args.self.now.ready
ready_is g c = elim c.if-is_empty.branch [
  | then-is_empty w ↦ grind (arith, w.self-is)
  | else-is_empty+in_ok-decisions+in_ok-decided w ↦ grind (arith, w.self-is)
]

pub loop-said-init : goal.loop-said-init
loop-said-init g c =
    let left = (goal.at.loop-said-init g c).After-deref-said-items in
    let before = c.args.self.now.members in
    let ready = c.if-is_empty.self.ready in (
      λ name e.
          (queue_after_boundary before.machine c.slot_of-at.result c.in_ok-announced.announced.items before.members (g.R.Ready.held ready) c.requires.step.steady.named
          (subst (λ r. IsQueue before.members (g.R.Ready.held r)) (sym (ready_is g left)) c.requires.step.steady.queue) name
          (subst (λ (h : List Said). is_said name h ≡ false) c.deref-said-items.ensures.value e)
          ∙ ap (λ (r : Roster). queued (member_named r.members name)) (sym (boundary_is g left).0)),
      ap g.R.Ready.now (ready_is g left),
    )

pub loop-said-preserved : goal.loop-said-preserved
loop-said-preserved g c =
    let members = c.if-is_empty.self.members.members in
    let before = g.R.Ready.held c.loop-said.ready in
    let after = g.R.Ready.held c.notify_of.new.ready in (
      notified_turn c.deref-said-items.result.now c.loop-said.said-index c.said-item.result members before after (omega (arith, c.loop-said.auto.said-index-end)) c.said-item.is c.loop-said.invariant.0
          (subst (λ name. IsNotifiedOf name members before after) c.name.ensures c.in_ok-notify_of.ensures.notified),
      c.in_ok-notify_of.ensures.time ∙ c.loop-said.invariant.1,
    )

pub give_quanta-requires-clause-named : goal.give_quanta-requires-clause-named
give_quanta-requires-clause-named g c =
    let members_are = (boundary_is g ((goal.at.give_quanta-requires-clause-named g c).After-deref-said-items)).0 in
    let before = c.args.self.now.members in
    subst (λ (r : Roster). NamesApart (λ (m : Member). m.name) r.members) (sym members_are)
    (apart_boundary before.machine c.slot_of-at.result before.members (announcements c.in_ok-announced.announced.items) c.requires.step.steady.named)

pub give_quanta-requires-clause-few : goal.give_quanta-requires-clause-few
give_quanta-requires-clause-few g c =
    let members_are = (boundary_is g ((goal.at.give_quanta-requires-clause-few g c).After-deref-said-items)).0 in
    let before = c.args.self.now.members in
    let s = c.args.self.now.settings in
    let few = subst (AllByRecursion (λ (m : Member). m.next < MAX_INDEX)) (sym c.requires.step.members_are)
    (few_before c.args.origin.now s c.requires.able.began (replica_of c.args.replica.now) c.args.slot (omega (arith, c.requires.able.within, c.processors-processors.ensures.limits.slots.1))) in
    subst (λ (r : Roster). AllByRecursion (λ (m : Member). m.next < MAX_INDEX) r.members) (sym members_are)
    (each_boundary c.slot_of-at.result (λ m. m.next < MAX_INDEX) (λ name w early. omega arith) (λ slot m h. h) (λ index by m h. h) before.machine (announcements c.in_ok-announced.announced.items) before.members few)

pub returns-clause-step : goal.returns-clause-step
returns-clause-step g c =
    let members_are = (boundary_is g ((goal.at.returns-clause-step g c).After-deref-said-items)).0 in
    let after = c.give_quanta.new.members in
    let rows = c.in_ok-table.table in
    let world_is = ap (λ (r : Roster). r.members) members_are in
    let before = c.args.self.now in
    let steady = subst (λ n. IsSteady n before.members (g.R.Ready.now before.ready) (g.R.Ready.held before.ready)) (sym c.slot_of-at.ensures) c.requires.step.steady in
    let ran_are = ap (λ (r : Roster). r.members) c.in_ok-table.ensures.members ∙ ap (all_ran rows.items) world_is in
    step_after after (g.R.Ready.now c.give_quanta.new.ready) (g.R.Ready.held c.give_quanta.new.ready) (Ok (record { table = rows; decided = c.if-is_empty.decided })) c.requires.step c.slot_of-at.ensures
    c.in_ok-announced.ensures.announced c.processors-processors.ensures.value
    (c.in_ok-table.ensures.table ∙ ap (rows_at c.processors-processors.result c.slot_of-at.result) world_is)
    ran_are
    (ap (λ (r : Roster). r.machine) c.in_ok-table.ensures.members ∙ ap (λ (r : Roster). r.machine) members_are)
    (ap (λ (r : Roster). r.heard) c.in_ok-table.ensures.members ∙ ap (λ (r : Roster). r.heard) members_are)
    (steady_next rows.items c.in_ok-announced.announced.items steady ran_are
    (ap (λ (r : Roster). r.last_slot) c.in_ok-table.ensures.members ∙ ap (λ (r : Roster). r.last_slot) members_are)
    c.in_ok-table.ensures.time c.in_ok-table.ensures.queue)

pub returns-clause-plan : goal.returns-clause-plan
returns-clause-plan g c =
    let left = boundary_is g ((goal.at.returns-clause-plan g c).After-deref-said-items) in
    let announced = c.in_ok-announced.ensures.announced in
    record {
      table_is = grind (arith, announced, c.in_ok-table.ensures.table, left.0, c.requires.step.members_are, c.slot_of-at.ensures, c.processors-processors.ensures.value);
      decided_is = grind (arith, announced, left.1, c.requires.step.members_are, c.slot_of-at.ensures);
      limits = c.processors-processors.ensures.limits;
    }
