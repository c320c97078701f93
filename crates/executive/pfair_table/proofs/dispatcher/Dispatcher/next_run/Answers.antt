use Rattle.pfair_table.proofs.Common.{Carried, CanBeFollowed, IsFirstLeft, IsNextRunFault, Member, Roster, begin_at, course_of, end_of, left_by, slot_of, Dispatch, AllByRecursion, CanBeCarried, ℕ, ◌+◌, ◌≡◌, ◌≤◌, ◌∙◌, ap, subst, arith, List, LAST_SLOT, Some, IfOk, settings_from, taken_over}
use Rattle.pfair_table.proofs.Alike.{memory_only}
use Rattle.pfair_table.proofs.NextRuns.{fault_seen, finished_seen, left_is, left_seen, left_state}
use Rattle.pfair_table.proofs.dispatcher.Dispatcher.next_run.Given.{Over}
use Rattle.pfair_table.proofs.dispatcher.Dispatcher.next_run.Goals.{In_default-first_left_behind, In_ok-from_slice-2}
use Rattle.pfair_table.proofs.dispatcher.Dispatcher.next_run.Goals as goal

-- a next run can follow
followed : (g : Over) (c : In_default-first_left_behind g) → CanBeFollowed c.args.self.now c.args.slots
followed g c =
    let finished = finished_seen c.self.view_is c.in_ok-step.ensures.able c.len-planned.ensures.tables c.in_ok-step.ensures.step c.in-Done.is in
    record {
      finished = finished;
      within = omega (arith, c.if-slot-slots-gt-LAST_SLOT.false, c.slot_of-slot.ensures ∙ (λ i. slot_of (c.origin.ensures i) (c.slots.ensures.value i)) ∙ ap end_of c.self.view_is);
      able = subst (AllByRecursion CanBeCarried) (left_seen c.self.invariant.0 c.next_step.ensures.replica c.args.self.now c.self.view_is finished) c.in_default-first_left_behind.ensures.none;
    }

abbrev left : (g : Over) → In_ok-from_slice-2 g → Carried
left g c = taken_over c.slot_of-slot.result c.in_ok-members.members c.in_ok-from_slice.field-0.items c.in_ok-from_slice-2.field-0.items

state_is : (g : Over) (c : In_ok-from_slice-2 g) → left g c ≡ left_by c.args.self.now
state_is g c =
    let finished = finished_seen c.self.view_is c.in_ok-step.ensures.able c.len-planned.ensures.tables c.in_ok-step.ensures.step c.in-Done.is in
    left_is c.self.invariant.0 c.next_step.ensures.replica c.args.self.now c.self.view_is finished (left g c)
    (c.slot_of-slot.ensures ∙ (λ i. slot_of (c.origin.ensures i) (c.slots.ensures.value i))) (ap (λ (r : Roster). r.machine) c.in_ok-members.ensures) (ap (λ (r : Roster). r.members) c.in_ok-members.ensures)
    (c.in_ok-from_slice.ensures.items ∙ c.last.ensures.table) (c.in_ok-from_slice-2.ensures.items ∙ c.last.ensures.places)

pub invariant_of-state : goal.invariant_of-state
invariant_of-state g c =
    let finished = finished_seen c.self.view_is c.in_ok-step.ensures.able c.len-planned.ensures.tables c.in_ok-step.ensures.step c.in-Done.is in
    left_state c.self.invariant.0 c.next_step.ensures.replica c.args.self.now c.self.view_is finished (left g c)
    (c.slot_of-slot.ensures ∙ (λ i. slot_of (c.origin.ensures i) (c.slots.ensures.value i))) (ap (λ (r : Roster). r.machine) c.in_ok-members.ensures) (ap (λ (r : Roster). r.members) c.in_ok-members.ensures)
    (c.in_ok-from_slice.ensures.items ∙ c.last.ensures.table) (c.in_ok-from_slice-2.ensures.items ∙ c.last.ensures.places)
    c.slots.ensures.limits c.in_default-first_left_behind.ensures.none (omega (arith, c.if-slot-slots-gt-LAST_SLOT.false))

pub returns-in-Some-clause-fault : goal.returns-in-Some-clause-fault
returns-in-Some-clause-fault g c =
    let finished = finished_seen c.self.view_is c.in_ok-step.ensures.able c.len-planned.ensures.tables c.in_ok-step.ensures.step c.in-Done.is in
    let within : end_of c.args.self.now + c.args.slots ≤ LAST_SLOT = omega (arith, c.if-slot-slots-gt-LAST_SLOT.false, c.slot_of-slot.ensures ∙ (λ i. slot_of (c.origin.ensures i) (c.slots.ensures.value i)) ∙ ap end_of c.self.view_is) in
    (finished, within, subst (λ (ms : List Member). IsFirstLeft ms c.in-Some.name) (left_seen c.self.invariant.0 c.next_step.ensures.replica c.args.self.now c.self.view_is finished) c.in-Some.ensures.some)

pub returns-in_err-members-clause-fault : goal.returns-in_err-members-clause-fault
returns-in_err-members-clause-fault g c =
    memory_only (IsNextRunFault c.args.self.now c.args.slots) c.from_residual-in_err-members.result c.from_residual-in_err-members.ensures.1
    (followed g (goal.at.returns-in_err-members-clause-fault g c).In_default-first_left_behind)

pub returns-in_err-from_slice-clause-fault : goal.returns-in_err-from_slice-clause-fault
returns-in_err-from_slice-clause-fault g c =
    memory_only (IsNextRunFault c.args.self.now c.args.slots) c.from_residual-in_err-from_slice.result c.from_residual-in_err-from_slice.ensures.1
    (followed g (goal.at.returns-in_err-from_slice-clause-fault g c).In_default-first_left_behind)

pub returns-in_err-from_slice-2-clause-fault : goal.returns-in_err-from_slice-2-clause-fault
returns-in_err-from_slice-2-clause-fault g c =
    memory_only (IsNextRunFault c.args.self.now c.args.slots) c.from_residual-in_err-from_slice-2.result c.from_residual-in_err-from_slice-2.ensures.1
    (followed g (goal.at.returns-in_err-from_slice-2-clause-fault g c).In_default-first_left_behind)

pub returns-clause-able : goal.returns-clause-able
returns-clause-able g c = (let can = followed g (goal.at.returns-clause-able g c).In_default-first_left_behind in grind (arith, can))

pub returns-clause-course : goal.returns-clause-course
returns-clause-course g c =
    let capacity_is = c.capacity.ensures.value ∙ ap (λ (d : Dispatch). d.replica.capacity) c.self.view_is in
    subst (λ (p : Carried × ℕ). IfOk c.resume.result (λ next. course_of next ≡ begin_at (Some p.0) (settings_from p.0 c.args.slots) p.1)) (λ i. (state_is g (goal.at.returns-clause-course g c).In_ok-from_slice-2 i, capacity_is i)) c.resume.ensures.course

pub returns-clause-fault : goal.returns-clause-fault
returns-clause-fault g c =
    let at = goal.at.returns-clause-fault g c in
    fault_seen c.resume.result c.args.self.now (left g at.In_ok-from_slice-2) c.args.slots (state_is g at.In_ok-from_slice-2) (followed g at.In_default-first_left_behind) c.resume.ensures.fault
