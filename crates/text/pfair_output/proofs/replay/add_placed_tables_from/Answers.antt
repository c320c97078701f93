use Rattle.pfair_output.proofs.Common.{common_steps, same_Some, lines_text, text_so_far, placed_rows_from, placed_table_rows, ◌≤◌, ◌≡◌, ◌++◌, ◌∙◌, arith, refl, places_in, places_at}
use Rattle.pfair_output.proofs.SlotFacts.{at_the_end, on_the_way}
use Rattle.pfair_output.proofs.replay.add_placed_tables_from.Goals as goal

pub loop-slot-init : goal.loop-slot-init
loop-slot-init g c = record { open_still = c.requires.open; whole = refl; begun = omega arith }

pub loop-slot-preserved : goal.loop-slot-preserved
loop-slot-preserved g c =
    let early : c.args.dispatcher.now.forgotten ≤ c.loop-slot.slot = (let begun = c.loop-slot.invariant.begun in omega (arith, begun, c.requires.unforgotten)) in
    let all = places_in c.args.dispatcher.now.origin c.args.dispatcher.now.tables in
    let here : c.unwrap_or-places.result.now ≡ places_at all c.loop-slot.slot = (let are = c.places.ensures.value early in grind (arith, common_steps, are)) in
    on_the_way (placed_table_rows (places_in c.args.dispatcher.now.origin c.args.dispatcher.now.tables)) c.args.dispatcher.now.tables c.args.from c.args.writer.now c.loop-slot.slot c.loop-slot.writer c.add_table.new.writer c.loop-slot.invariant
    (omega (arith, c.loop-slot-test.true, c.loop-slot.auto.slot-end, c.next_slot-slot-end.ensures.value)) c.in_ok-add_table.ensures.open
    (λ table at. let same = same_Some c.in-Some.table.now table (c.in-Some.ensures.value early ∙ at) in
    c.in_ok-add_table.ensures.text ∙ (λ i. text_so_far c.loop-slot.writer ++ lines_text (placed_rows_from (here i) c.loop-slot.slot 0 (same i))))

pub returns-clause-text : goal.returns-clause-text
returns-clause-text g c =
    at_the_end (placed_table_rows (places_in c.args.dispatcher.now.origin c.args.dispatcher.now.tables)) c.args.dispatcher.now.tables c.args.from c.args.writer.now c.loop-slot.slot c.loop-slot.writer c.loop-slot.invariant
    (omega (arith, c.loop-slot-test.false, c.loop-slot.auto.slot-end, c.next_slot-slot-end.ensures.value))
