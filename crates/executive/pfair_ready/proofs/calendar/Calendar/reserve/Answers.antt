use Rattle.pfair_ready.proofs.Common.{Date, IsHeap, Reverse, later_cmp, refl, sym, subst, List, Contains}
use Rattle.pfair_ready.proofs.CalendarLemmas.{keeps_far}
use Rattle.pfair_ready.proofs.calendar.Calendar.reserve.Goals as goal

pub returns : goal.returns
returns c =
    keeps_far c.args.self.now c.make_near.new.self (record { turned = c.make_near.new.self.turned; near = c.make_near.new.self.near; far = c.reserve.new.self }) c.make_near.ensures.keeps
    (λ x h. subst (λ (l : List (Reverse Date)). Contains l x) (sym c.reserve.ensures.items) h) (subst (IsHeap later_cmp) (sym c.reserve.ensures.items)) refl refl
