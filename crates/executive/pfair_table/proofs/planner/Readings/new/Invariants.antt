use Rattle.pfair_table.proofs.Common.{◌≡◌, length}
use Rattle.pfair_table.proofs.ReadOn.{AreUnread}
use Rattle.pfair_table.proofs.planner.Readings.new.Given as goal

abbrev pub invariant-loop : goal.invariant-loop
invariant-loop l = record { unread : AreUnread l.by_processor.items; many : length l.by_processor.items ≡ l.counter }
