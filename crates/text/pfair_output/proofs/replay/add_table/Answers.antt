use Rattle.pfair_output.proofs.Common.{slice_get_read, line, text_so_far, placed_row, ◌≡◌, ◌<◌, ◌∙◌, ◌++◌, arith, length, Some, slice_get, refl, ℕ, List, Option, option_map}
use Rattle.std.proofs.Common.{Bor}
use Rattle.std.proofs.lemmas.Option.{gets}
use Rattle.std.specs.Slice.{IsItemAt}
use Rattle.pfair_output.proofs.SlotFacts.{row_more}
use Rattle.pfair_output.proofs.replay.add_table.Goals.{in-Some+in_ok-add_row-in-Some, in-None+in_ok-add_row-in-None}
use Rattle.pfair_output.proofs.replay.add_table.Goals as goal

-- the place of a row, if it has one
place_is : (places : List ℕ) (row : ℕ) (found : Option (Bor ℕ)) → IsItemAt places row found → slice_get places row ≡ option_map (λ p. p.now) found
place_is places row found at = grind (arith, gets)

pub loop-row-preserved : goal.loop-row-preserved
loop-row-preserved c =
    let row = c.loop-row.row in
    let pick = c.index-table-row.result in
    let now = c.match-get.writer in
    let inside : row < length c.args.table.now = omega (arith, c.loop-row-test.true, c.loop-row.auto.row-end) in
    let here : slice_get c.args.table.now row ≡ Some pick = slice_get_read c.args.table.now (length c.args.table.now) row pick refl inside c.index-table-row.is in
    let one = λ (grown : text_so_far now ≡ text_so_far c.loop-row.writer ++ line (placed_row c.args.slot row pick (slice_get c.args.places.now row))).
    row_more c.args.places.now c.args.slot c.args.table.now row pick (text_so_far c.loop-row.writer) (text_so_far now) inside here grown ∙ c.loop-row.invariant.1 in
    let place = place_is c.args.places.now row c.get.result c.get.ensures.lookup in
    elim c.match-get.branch [
      | in-Some+in_ok-add_row-in-Some w ↦ (rw w.writer-is w.in_ok-add_row-in-Some.ensures.open, one (rw (w.writer-is, place, w.in-Some.is) (grind arith)))
      | in-None+in_ok-add_row-in-None w ↦ (rw w.writer-is w.in_ok-add_row-in-None.ensures.open, one (rw (w.writer-is, place, w.in-None.is) (grind arith)))
    ]
