use Rattle.pfair_board.proofs.Common.{arith}
use Rattle.pfair_board.proofs.dispatchers.first_fault.Goals as goal

pub returns-then-slot-slots : goal.returns-then-slot-slots
returns-then-slot-slots g c = (c.all_hold.ensures.all c.if-not-all_hold.false, c.frontier-slot.ensures.value, c.if-slot-slots.true)

pub returns : goal.returns
returns g c = (c.all_hold.ensures.all c.if-not-all_hold.false, omega (arith, c.frontier-slot.ensures.value, c.if-slot-slots.false))
