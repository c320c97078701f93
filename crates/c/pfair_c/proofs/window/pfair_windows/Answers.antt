use Rattle.pfair_c.proofs.Common.{arith, add-one, refl}
use Rattle.pfair_c.proofs.SlotRows.{one-window-more}
use Rattle.pfair_c.proofs.window.pfair_windows.Goals as goal

pub loop-place-preserved : goal.loop-place-preserved
loop-place-preserved c =
    rw (c.loop-place.invariant, c.release.ensures.value, c.deadline.ensures.value, c.b_bit.ensures.value, c.group_deadline.ensures.value, add-one)
    (one-window-more c.in-Ok.weight c.args.theta c.args.first c.args.rows.now c.loop-place.place _ (omega arith) refl)
