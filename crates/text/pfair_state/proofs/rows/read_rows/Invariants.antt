use Rattle.pfair_state.proofs.Common.{length}
use Rattle.pfair_state.proofs.RowsSpelled.{IsReadSoFar}
use Rattle.pfair_state.proofs.rows.read_rows.Given as goal

abbrev pub invariant-loop-line : goal.invariant-loop-line
invariant-loop-line l = IsReadSoFar l.fn.text l.rows.items l.rest

abbrev pub decreases-loop-line : goal.decreases-loop-line
decreases-loop-line l = length l.rest
