-- The follower is new.
use Rattle.pfair_follow.proofs.run_fed.Goals as goal

pub follow_and_leave-requires : goal.follow_and_leave-requires
follow_and_leave-requires c = c.in_ok-follower.ensures
