use Rattle.pfair_c.proofs.Common.{◌<◌, length, arith, rules, member_row}
use Rattle.pfair_c.proofs.SlotRows.{one-found-more}
use Rattle.pfair_c.proofs.members.write_members.Goals as goal
use Rattle.pfair_c.proofs.members.write_members.Goals.{in-Some, in_default}

pub loop-place-preserved : goal.loop-place-preserved
loop-place-preserved c =
    let inside : c.loop-place.place < length c.args.members.now.members = omega (arith, c.loop-place-test.true, c.loop-place.auto.place-end, c.len-place-end.ensures) in
    one-found-more (member_row c.args.time) c.args.members.now.members c.args.rows.now c.loop-place.rows c.match-at.rows c.loop-place.place inside c.requires c.loop-place.invariant
    (λ member at. elim c.match-at.branch [ in-Some w ↦ search rules | in_default w ↦ search rules ])
