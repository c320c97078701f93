use Rattle.pfair_desk.proofs.Common.{arith}
use Rattle.pfair_desk.proofs.Following.{row_alike, rows_alike, same_trans, no_gap_on}
use Rattle.pfair_desk.proofs.desk.Desk.refresh.Goals as goal

-- want of memory in a row
pub returns-in_err-found-clause-no_gap : goal.returns-in_err-found-clause-no_gap
returns-in_err-found-clause-no_gap c = grind (arith, no_gap_on)

pub loop-processor-preserved : goal.loop-processor-preserved
loop-processor-preserved c = grind (arith, rows_alike, row_alike, same_trans, no_gap_on)
