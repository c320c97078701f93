use Rattle.pfair_board.proofs.Common.{Worked, ◌≡◌, ◌<◌, ℕ, slice_get, Some, Err}
use Rattle.pfair_board.proofs.dispatchers.some_ends_in.Given as goal

-- none so far ends in it
abbrev pub invariant-loop-work : goal.invariant-loop-work
invariant-loop-work g l = (k : ℕ) (w : Worked g.row.K.Denot) → k < l.work-index → slice_get l.works k ≡ Some w → w.kept ≡ Err l.fault → ⊥
