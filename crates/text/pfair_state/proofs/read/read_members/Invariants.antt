use Rattle.pfair_state.proofs.Common.{AreLeftAt, ◌-◌, ◌≡◌, ◌≤◌, None, length}
use Rattle.pfair_state.proofs.MembersRead.{AreRestoredSoFar}
use Rattle.pfair_state.proofs.read.read_members.Given as goal

abbrev pub invariant-loop-member : goal.invariant-loop-member
invariant-loop-member l =
    (l.at ≤ length l.fn.rows) × AreLeftAt l.fn.slot l.members.machine l.members.members × (l.members.machine ≡ l.fn.members.machine) × (l.members.last_slot ≡ None) × AreRestoredSoFar l.fn.rows l.fn.slot l.fn.members l.members l.at

abbrev pub decreases-loop-member : goal.decreases-loop-member
decreases-loop-member l = length l.fn.rows - l.at
