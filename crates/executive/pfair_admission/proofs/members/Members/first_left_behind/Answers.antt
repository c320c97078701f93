use Rattle.pfair_admission.proofs.Common.{CanBeCarried, Roster, ◌∙◌, sym, ap, slice_get}
use Rattle.pfair_admission.proofs.MemberLists.{each_more}
use Rattle.pfair_admission.proofs.members.Members.first_left_behind.Goals as goal

pub loop-place-preserved : goal.loop-place-preserved
loop-place-preserved c =
    let here = ap (λ (r : Roster). slice_get r.members c.loop-place.place) (sym c.self.view_is) ∙ c.index-member.ensures in
    each_more CanBeCarried c.args.self.now.members c.loop-place.place c.index-member.result.now here (c.can_be_carried.ensures.0 c.if-not-can_be_carried.false) c.loop-place.invariant
