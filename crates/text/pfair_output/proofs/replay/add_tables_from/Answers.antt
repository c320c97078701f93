use Rattle.pfair_output.proofs.Common.{same_Some, lines_text, text_so_far, Table, table_rows, ◌++◌, ◌∙◌, ap, arith, refl}
use Rattle.pfair_output.proofs.SlotFacts.{at_the_end, on_the_way}
use Rattle.pfair_output.proofs.replay.add_tables_from.Goals as goal

pub loop-slot-init : goal.loop-slot-init
loop-slot-init g c = record { open_still = c.requires.open; whole = refl; begun = omega arith }

pub loop-slot-preserved : goal.loop-slot-preserved
loop-slot-preserved g c =
    on_the_way table_rows c.args.dispatcher.now.tables c.args.from c.args.writer.now c.loop-slot.slot c.loop-slot.writer c.add_table.new.writer c.loop-slot.invariant
    (omega (arith, c.loop-slot-test.true, c.loop-slot.auto.slot-end, c.next_slot-slot-end.ensures.value)) c.in_ok-add_table.ensures.open (λ x at. c.in_ok-add_table.ensures.text
    ∙ ap (λ (t : Table). text_so_far c.loop-slot.writer ++ lines_text (table_rows c.loop-slot.slot t)) (same_Some c.in-Some.table.now x (c.in-Some.ensures.value (let begun = c.loop-slot.invariant.begun in omega (arith, begun, c.requires.unforgotten)) ∙ at)))

pub returns-clause-text : goal.returns-clause-text
returns-clause-text g c =
    at_the_end table_rows c.args.dispatcher.now.tables c.args.from c.args.writer.now c.loop-slot.slot c.loop-slot.writer c.loop-slot.invariant
    (omega (arith, c.loop-slot-test.false, c.loop-slot.auto.slot-end, c.next_slot-slot-end.ensures.value))
