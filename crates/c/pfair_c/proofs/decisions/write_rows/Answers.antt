use Rattle.pfair_c.proofs.Common.{add-one, decision_row}
use Rattle.pfair_c.proofs.SlotRows.{one-more}
use Rattle.pfair_c.proofs.decisions.write_rows.Goals as goal

pub loop-row-preserved : goal.loop-row-preserved
loop-row-preserved c = rw (c.loop-row.invariant, c.decision_row.ensures, add-one) (one-more (decision_row c.args.slot) c.args.decided.now c.args.rows.now c.loop-row.row c.index-decided-row.result c.loop-row-test.true c.requires c.index-decided-row.is)
