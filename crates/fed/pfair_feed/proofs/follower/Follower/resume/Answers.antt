use Rattle.pfair_feed.proofs.Common.{IsWholePlan, Follow, Some, subst, sym, settings_from}
use Rattle.pfair_feed.proofs.Going.{whole_start}
use Rattle.pfair_feed.proofs.follower.Follower.resume.Goals as goal

pub returns-clause-whole : goal.returns-clause-whole
returns-clause-whole g c =
    subst (λ (f : Follow). IsWholePlan f.dispatch) (sym c.begun.ensures)
    (whole_start (Some c.args.state) c.in_ok-dispatcher.dispatcher (settings_from c.args.state c.args.slots) c.args.capacity c.in_ok-dispatcher.ensures.course)
