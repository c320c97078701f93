use Rattle.pfair_admission.proofs.Common.{whole, Late, values_of, set_value_at, is_freed, late_release, member_named, present, is_there, listed, rules, ◌≡◌, IfOk, sym, ap, ◌∙◌, arith, not}
use Rattle.pfair_admission.proofs.Deciding.{delayed_if_ok, is_written, late_like, stays_on_err, IsWritten, if_decided, late_decided, late_same, none_decided, room_of_named, stood, is_there_now, within, IsThere}
use Rattle.pfair_admission.proofs.Registers.{ledger_written}
use Rattle.pfair_admission.proofs.ledger.Ledger.delay.Goals as goal
use Rattle.pfair_admission.proofs.ledger.Ledger.delay.Goals.{After-delay}

pub returns-in_default-clause-decided : goal.returns-in_default-clause-decided
returns-in_default-clause-decided c = record {
  decision = search rules;
  members = stood _ (none_decided (whole c.args.self.now).machine c.args.slot (listed c.args.self.now) (Late c.args.name.now c.args.index c.args.by) (ap (λ o. late_release c.args.slot o c.args.index) c.in_default.ensures.none));
  err = search rules;
}

pub index_mut-requires : goal.index_mut-requires
index_mut-requires c = within c.args.self.now.members.entries c.in-Some.place c.in-Some.ensures.some.0 c.in-Some.ensures.some.1.at

pub delay-requires-clause-room : goal.delay-requires-clause-room
delay-requires-clause-room c =
    let m = c.index_mut.result.now in
    let there = is_there_now (is_there c.args.slot) c.args.name.now (listed c.args.self.now) c.in-Some.place m c.in-Some.ensures.some c.index_mut.ensures.value in
    let room = room_of_named (present c.args.slot (listed c.args.self.now)) c.args.name.now m c.requires.room there.found in
    omega (arith, room, c.requires.limits.1.1)

who : (c : After-delay) → IsThere (is_there c.args.slot) c.args.name.now (listed c.args.self.now) c.in-Some.place c.index_mut.result.now
who c = is_there_now (is_there c.args.slot) c.args.name.now (listed c.args.self.now) c.in-Some.place c.index_mut.result.now c.in-Some.ensures.some c.index_mut.ensures.value

written : (c : After-delay) → IsWritten (is_there c.args.slot) c.args.name.now c.index_mut.result.now c.delay.new.self (present c.args.slot (listed c.args.self.now)) (present c.args.slot (values_of (set_value_at c.args.self.now.members.entries c.in-Some.place c.delay.new.self)))
written c = is_written (is_there c.args.slot) c.args.name.now c.args.self.now.members.entries c.in-Some.place c.index_mut.result.now c.delay.new.self (who c).only (who c).counts_there

decided_so : (c : After-delay) → IfOk c.delay.result (λ d. d ≡ late_release c.args.slot (member_named (present c.args.slot (listed c.args.self.now)) c.args.name.now) c.args.index)
decided_so c = if_decided c.delay.result c.args.slot c.args.index (sym (who c).found) c.delay.ensures.decision

pub returns-clause-decided : goal.returns-clause-decided
returns-clause-decided c =
    let at = (goal.at.returns-clause-decided c).After-delay in
    record {
      decision = decided_so at;
      members = late_decided c.delay.result _ c.args.slot (present c.args.slot (listed c.args.self.now)) _ c.args.name.now c.args.index c.args.by (decided_so at)
          (delayed_if_ok c.delay.result c.args.slot c.args.name.now c.index_mut.result.now c.delay.new.self (present c.args.slot (listed c.args.self.now)) _ c.args.index c.args.by (written at) c.delay.ensures.member);
      err = late_same c.delay.result _ _ _
          (stays_on_err c.delay.result (is_there c.args.slot) c.args.name.now c.index_mut.result.now c.delay.new.self (present c.args.slot (listed c.args.self.now)) _ (written at) c.delay.ensures.err);
    }

pub returns-clause-kept : goal.returns-clause-kept
returns-clause-kept c =
    let there = (who ((goal.at.returns-clause-kept c).After-delay)).counts_there in
    let like = late_like c.delay.result c.args.index c.args.by c.index_mut.result.now c.delay.new.self c.delay.ensures.member c.delay.ensures.err in
    ledger_written (is_there c.args.slot) c.args.self.now c.in-Some.place c.index_mut.result.now c.delay.new.self c.requires.kept c.index_mut.ensures.value there
    (ap (λ o. not (is_freed c.args.slot o)) like.freed_at ∙ there) like
