use Rattle.pfair_board.proofs.Common.{replica_of, Worked, Holds, ◌≡◌, ◌<◌, ℕ, slice_get, Some}
use Rattle.pfair_board.proofs.dispatchers.all_hold.Given as goal

abbrev pub invariant-loop-work : goal.invariant-loop-work
invariant-loop-work g l = (k : ℕ) (w : Worked g.row.K.Denot) → k < l.work-index → slice_get l.works k ≡ Some w → Holds w (replica_of l.replica)
