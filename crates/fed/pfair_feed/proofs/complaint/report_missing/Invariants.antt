use Rattle.std.proofs.Common.{flat_map}
use Rattle.pfair_feed.proofs.Common.{Appends, replica_of, numbers_below, missing_of, missing_lines}
use Rattle.pfair_feed.proofs.complaint.report_missing.Given as goal

-- the lines of the logs so far
abbrev pub invariant-loop-processor : goal.invariant-loop-processor
invariant-loop-processor g l =
    Appends (g.E.Write.contents l.fn.complaints) (g.E.Write.contents l.complaints)
    (flat_map (λ processor. missing_lines processor (missing_of l.follower.dispatch.settings (replica_of l.follower.dispatch.replica) processor)) (numbers_below l.processor))
