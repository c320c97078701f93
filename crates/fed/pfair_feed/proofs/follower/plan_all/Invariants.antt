use Rattle.pfair_feed.proofs.Common.{replica_of, has_torn, IsGrown, ◌≡◌, ◌-◌, true, length}
use Rattle.pfair_feed.proofs.follower.plan_all.Given as goal

-- more is planned, unless something is torn or the dispatcher is spent
abbrev pub invariant-slots : goal.invariant-slots
invariant-slots g l = record {
  grown : IsGrown l.fn.dispatcher l.dispatcher;
  forgotten : l.dispatcher.forgotten ≡ l.fn.dispatcher.forgotten;
  able : l.dispatcher.spent ≡ l.fn.dispatcher.spent;
  torn : has_torn (replica_of l.fn.dispatcher.replica) ≡ true → l.dispatcher ≡ l.fn.dispatcher;
  spent : l.fn.dispatcher.spent ≡ true → l.dispatcher ≡ l.fn.dispatcher;
}

abbrev pub decreases-slots : goal.decreases-slots
decreases-slots g l = l.dispatcher.settings.slots - length l.dispatcher.tables
