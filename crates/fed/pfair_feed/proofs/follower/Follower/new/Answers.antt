use Rattle.pfair_feed.proofs.Common.{Course, IsWholePlan, Follow, ◌∙◌, ap, length, None, subst, sym}
use Rattle.pfair_feed.proofs.Going.{whole_start}
use Rattle.pfair_feed.proofs.follower.Follower.new.Goals as goal

pub returns-clause-nothing : goal.returns-clause-nothing
returns-clause-nothing g c = ap (λ (f : Follow). length f.dispatch.tables) c.begun.ensures ∙ ap (λ (x : Course). length x.tables) c.in_ok-dispatcher.ensures.course

pub returns-clause-whole : goal.returns-clause-whole
returns-clause-whole g c =
    subst (λ (f : Follow). IsWholePlan f.dispatch) (sym c.begun.ensures)
    (whole_start None c.in_ok-dispatcher.dispatcher c.args.settings c.args.capacity c.in_ok-dispatcher.ensures.course)
