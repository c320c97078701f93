use Rattle.pfair_feed.proofs.Common.{Follow, HaveWrittenAlike, ◌∙◌, sym, subst}
use Rattle.pfair_feed.proofs.RunsAlike.{written_alike}
use Rattle.pfair_feed.proofs.follower.Follower.writes_alike.Goals as goal

pub returns : goal.returns
returns g c =
    let here : Follow = record { output = c.self.inside.output; dispatch = c.self.inside.dispatcher; unwritten = c.self.inside.unwritten } in
    let there : Follow = record { output = c.other.inside.output; dispatch = c.other.inside.dispatcher; unwritten = c.other.inside.unwritten } in
    let alike : HaveWrittenAlike here there =
    written_alike here there (sym c.next_slot.ensures.value ∙ c.next_slot.ensures.decided) (sym c.next_slot-2.ensures.value ∙ c.next_slot-2.ensures.decided) c.plans_alike.ensures.planned in
    subst (λ (f : Follow). HaveWrittenAlike f c.args.other.now) c.self.view_is (subst (λ (f : Follow). HaveWrittenAlike here f) c.other.view_is alike)
