use Rattle.pfair_state.proofs.Common.{◌+◌, ◌-◌, ◌≤◌, length}
use Rattle.pfair_state.proofs.MembersRead.{AreReadSoFar}
use Rattle.pfair_state.proofs.read.delays_behind.Given as goal

abbrev pub invariant-loop-late : goal.invariant-loop-late
invariant-loop-late l = (l.fn.from + length l.delays.items ≤ length l.fn.rows) × AreReadSoFar l.fn.rows l.fn.from l.fn.task l.delays.items

abbrev pub decreases-loop-late : goal.decreases-loop-late
decreases-loop-late l = length l.fn.rows - (l.fn.from + length l.delays.items)
