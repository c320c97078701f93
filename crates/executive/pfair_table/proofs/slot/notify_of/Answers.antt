use Rattle.pfair_table.proofs.Common.{option_copied, member_named, queued, ◌≡◌, sym, ap, ◌∙◌, None}
use Rattle.pfair_table.proofs.QueueKept.{notified_gone, notified_next, queued_departing}
use Rattle.pfair_table.proofs.slot.notify_of.Goals as goal

pub returns-in_default-clause-notified : goal.returns-in_default-clause-notified
returns-in_default-clause-notified g c =
    notified_gone c.args.name.now c.args.members.now.members _ _
    (let e : member_named c.args.members.now.members c.args.name.now ≡ None = sym c.get.ensures ∙ ap option_copied c.in_default.is in ap queued e) c.remove.ensures.content

pub returns-then-is_departing-clause-notified : goal.returns-then-is_departing-clause-notified
returns-then-is_departing-clause-notified g c =
    notified_gone c.args.name.now c.args.members.now.members _ _
    (queued_departing _ c.in-Some.member.now (sym c.get.ensures ∙ ap option_copied c.in-Some.is) (sym c.is_departing.ensures ∙ c.if-is_departing.true)) c.remove.ensures.content

pub returns-clause-notified : goal.returns-clause-notified
returns-clause-notified g c =
    notified_next c.args.name.now c.args.members.now.members c.in-Some.member.now (g.R.Ready.held c.args.ready.now) (g.R.Ready.held c.remove.new.self) (g.R.Ready.held c.insert_seated.new.self) c.in_ok-insert_seated.field-0 c.next_subtask-begins.result.0 c.next_subtask-begins.result.1
    (sym c.get.ensures ∙ ap option_copied c.in-Some.is)
    (sym c.is_departing.ensures ∙ c.if-is_departing.false)
    (ap (λ p. p.0) c.next_subtask-begins.ensures)
    (ap (λ p. p.1) c.next_subtask-begins.ensures)
    c.remove.ensures.content c.in_ok-insert_seated.ensures.answer c.in_ok-insert_seated.ensures.content
