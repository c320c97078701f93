use Rattle.pfair_output.proofs.Common.{common_steps, decided_rows, arith, refl}
use Rattle.pfair_output.proofs.SlotFacts.{at_the_end, on_the_way}
use Rattle.pfair_output.proofs.decisions.add_decisions_from.Goals as goal

pub loop-slot-init : goal.loop-slot-init
loop-slot-init g c = record { open_still = c.requires.open; whole = refl; begun = omega arith }

pub loop-slot-preserved : goal.loop-slot-preserved
loop-slot-preserved g c =
    on_the_way decided_rows c.args.dispatcher.now.decided c.args.from c.args.writer.now c.loop-slot.slot c.loop-slot.writer c.add_decisions.new.writer c.loop-slot.invariant
    (omega (arith, c.loop-slot-test.true, c.loop-slot.auto.slot-end, c.next_slot-slot-end.ensures.decided)) c.in_ok-add_decisions.ensures.open (λ x at. grind (arith, common_steps))

pub returns-clause-text : goal.returns-clause-text
returns-clause-text g c =
    at_the_end decided_rows c.args.dispatcher.now.decided c.args.from c.args.writer.now c.loop-slot.slot c.loop-slot.writer c.loop-slot.invariant
    (omega (arith, c.loop-slot-test.false, c.loop-slot.auto.slot-end, c.next_slot-slot-end.ensures.decided))
