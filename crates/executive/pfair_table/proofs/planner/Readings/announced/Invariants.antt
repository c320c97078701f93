use Rattle.pfair_table.proofs.Common.{replica_of, said_by_all, AreReadingsOf, AreSilentAfter, ◌≡◌, take}
use Rattle.pfair_table.proofs.ReadOn.{AreWholeBelow}
use Rattle.pfair_table.proofs.planner.Readings.announced.Given as goal

abbrev pub invariant-loop-processor : goal.invariant-loop-processor
invariant-loop-processor l = record {
  readings : AreReadingsOf (replica_of l.replica) l.self.by_processor.items;
  whole : AreWholeBelow (replica_of l.replica) l.self.by_processor.items l.processor;
  silent : AreSilentAfter l.self.last l.self.by_processor.items;
}

abbrev pub invariant-loop-reading : goal.invariant-loop-reading
invariant-loop-reading l = l.announced.items ≡ said_by_all (take l.reading-index l.reading-items) l.slot
