use Rattle.std.proofs.Common.{flat_map}
use Rattle.pfair_feed.proofs.Common.{Appends, numbers_below, dropped_line, dropped_of, ◌+◌, ◌++◌}
use Rattle.pfair_feed.proofs.complaint.report_dropped.Given as goal

-- the lines of the logs so far
abbrev pub invariant-loop-processor : goal.invariant-loop-processor
invariant-loop-processor g l = Appends (g.E.Write.contents l.fn.complaints) (g.E.Write.contents l.complaints) (flat_map (dropped_of l.follower) (numbers_below l.processor))

-- and those of the entries of a log so far
abbrev pub invariant-loop-index : goal.invariant-loop-index
invariant-loop-index g l =
    Appends (g.E.Write.contents l.fn.complaints) (g.E.Write.contents l.complaints)
    (flat_map (dropped_of l.follower) (numbers_below l.processor) ++ flat_map (λ n. dropped_line l.follower l.processor (n + 1)) (numbers_below l.index))
