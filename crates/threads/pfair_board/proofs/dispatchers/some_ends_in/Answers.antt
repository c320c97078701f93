use Rattle.pfair_board.proofs.Common.{slice_get_read, slice_get_within, get_or_from_slice_get, arith}
use Rattle.pfair_board.proofs.dispatchers.some_ends_in.Goals.{in-Err+else-eq, in_default}
use Rattle.pfair_board.proofs.dispatchers.some_ends_in.Goals as goal

pub returns-then-eq : goal.returns-then-eq
returns-then-eq g c = grind (arith, slice_get_read)

pub loop-work-preserved : goal.loop-work-preserved
loop-work-preserved g c = grind (arith, get_or_from_slice_get)

pub returns : goal.returns
returns g c = grind (arith, slice_get_within)
