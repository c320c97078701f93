use Rattle.pfair_state.proofs.Common.{◌-◌, ◌≤◌, length}
use Rattle.pfair_state.proofs.MembersRead.{AreAddedSoFar}
use Rattle.pfair_state.proofs.read.read_quanta.Given as goal

abbrev pub invariant-loop-pick : goal.invariant-loop-pick
invariant-loop-pick l = (l.at ≤ length l.fn.rows) × AreAddedSoFar l.fn.rows l.fn.state l.fn.from l.state l.at

abbrev pub decreases-loop-pick : goal.decreases-loop-pick
decreases-loop-pick l = length l.fn.rows - l.at
