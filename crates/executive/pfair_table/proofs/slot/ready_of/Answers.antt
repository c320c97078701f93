use Rattle.pfair_table.proofs.Common.{none-some, same_Some, some_at, option_map, Member, ◌∙◌, ◌≡◌, sym, ap, arith, Bor}
use Rattle.pfair_weight.specs.declared.name.TaskName.{TaskName}
use Rattle.std.specs.FinMap as finmap
use Rattle.pfair_table.proofs.QueueKept.{besides_all, besides_at}
use Rattle.pfair_table.proofs.slot.ready_of.Goals.{in-Some+in_ok-notify_of, in_default}
use Rattle.pfair_table.proofs.slot.ready_of.Goals as goal

pub loop-index-init : goal.loop-index-init
loop-index-init g c = (besides_all c.args.members.now.members (g.R.Ready.held c.new-ready.result) c.new-ready.ensures.empty, c.new-ready.ensures.start)

pub loop-index-preserved : goal.loop-index-preserved
loop-index-preserved g c = elim c.match-at.branch [
  | in-Some+in_ok-notify_of w ↦ (let members = c.args.members.now.members in
      let m = w.in-Some.field-0-1.now in
      let named : w.in-Some.name.now ≡ m.name = same_Some _ _ (w.in-Some.ensures.name ∙ sym (ap (option_map (λ (m : Member). m.name)) w.in-Some.ensures.member)) in
      let rest = besides_at members c.loop-index.index m w.in-Some.name.now (g.R.Ready.held c.loop-index.ready) (g.R.Ready.held w.notify_of.new.ready) w.in-Some.ensures.member named c.loop-index.invariant.0 w.in_ok-notify_of.ensures.notified in (
        (λ name e. ap (λ ready. finmap.get (g.R.Ready.held ready) name) w.ready-is ∙ rest name e),
        ap (λ ready. g.R.Ready.now ready) w.ready-is ∙ w.notify_of.ensures.time ∙ c.loop-index.invariant.1,
      ))
  | in_default w ↦ (let there = some_at c.args.members.now.members c.loop-index.index (omega (arith, c.loop-index-test.true, c.len-index-end.ensures)) in
      absurd (none-some there.0 (sym (ap (option_map (λ (m : Bor TaskName × Bor Member). m.1.now)) w.in_default.is) ∙ c.at.ensures.member ∙ there.1)))
]
