use Rattle.pfair_c.proofs.Common.{add-one, pick_row}
use Rattle.pfair_c.proofs.SlotRows.{one-more}
use Rattle.pfair_c.proofs.table.write_table.Goals as goal

pub loop-place-preserved : goal.loop-place-preserved
loop-place-preserved c = rw (c.loop-place.invariant, c.name_row.ensures, add-one) (one-more pick_row c.args.table.now c.args.rows.now c.loop-place.place c.index-table-place.result c.loop-place-test.true c.requires c.index-table-place.is)
