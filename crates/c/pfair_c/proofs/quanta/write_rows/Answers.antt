use Rattle.pfair_c.proofs.Common.{arith, add-one}
use Rattle.pfair_c.proofs.SlotRows.{one-quantum-more}
use Rattle.pfair_c.proofs.quanta.write_rows.Goals as goal

pub loop-row-preserved : goal.loop-row-preserved
loop-row-preserved c =
    rw (c.loop-row.invariant, c.quantum_row.ensures, add-one)
    (one-quantum-more c.args.places.now c.args.slot 0 c.args.table.now c.args.rows.now c.loop-row.row c.loop-row.row c.index-table-row.result
    c.loop-row-test.true c.requires (omega arith) c.index-table-row.is)
