use Rattle.pfair_c.proofs.Common.{add-one, key_row}
use Rattle.pfair_c.proofs.SlotRows.{one-more-at}
use Rattle.pfair_c.proofs.held.write_keys.Goals as goal

pub loop-place-preserved : goal.loop-place-preserved
loop-place-preserved c = rw (c.loop-place.invariant, add-one) (one-more-at key_row c.args.keys.now c.args.rows.now c.loop-place.place (0, 0) c.loop-place-test.true c.requires)
