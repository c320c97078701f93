use Rattle.pfair_state.proofs.Common.{slice_get-get_or, slice_get_read, line, text_so_far, ran_row, IsSpelledQuantum, ◌≡◌, ◌<◌, ◌++◌, ◌∙◌, arith, length, Some, slice_get, refl, common_steps, slice_index}
use Rattle.pfair_state.proofs.RowLists.{ran_more}
use Rattle.pfair_state.proofs.RowsSpelled.{more_taken}
use Rattle.pfair_state.proofs.write.add_ran.Goals as goal

pub loop-row-preserved : goal.loop-row-preserved
loop-row-preserved c =
    let row = c.loop-row.row in
    let pick = c.index-table-row.result in
    let inside : row < length c.args.table.now = omega (arith, c.loop-row-test.true, c.loop-row.auto.row-end) in
    let here : slice_get c.args.table.now row ≡ Some pick = slice_get_read c.args.table.now (length c.args.table.now) row pick refl inside c.index-table-row.is in
    let text : text_so_far c.add_row.new.writer ≡ text_so_far c.loop-row.writer ++ line (ran_row pick (slice_index c.args.places.now row)) = grind (arith, common_steps, c.in_ok-add_row.ensures.text) in (
      c.in_ok-add_row.ensures.open,
      ran_more c.args.table.now c.args.places.now row pick (slice_index c.args.places.now row) (text_so_far c.loop-row.writer) (text_so_far c.add_row.new.writer) here (slice_get-get_or c.args.places.now row 0 (omega (arith, inside, c.requires.places))) text ∙ c.loop-row.invariant.1,
      more_taken IsSpelledQuantum c.args.table.now row pick inside here (grind (arith, common_steps)) c.loop-row.invariant.2,
    )
