use Rattle.pfair_output.proofs.Common.{same_Some, slice_get-map, slice_get_read, length-map, option_map, lines_text, text_so_far, placed_rows_from, placed_table_rows, ◌≡◌, ◌<◌, ◌∙◌, sym, ap, subst, refl, arith, length, map, List, ℕ, ◌++◌, Some, slice_get, Pick, Vec}
use Rattle.std.specs.declared.alloc.Global.{Global}
use Rattle.pfair_output.proofs.SlotFacts.{slot_more}
use Rattle.pfair_output.proofs.replay.placed_replay_of.Goals as goal

pub loop-slot-preserved : goal.loop-slot-preserved
loop-slot-preserved c =
    let slot = c.loop-slot.slot in
    let table = c.index-tables-slot.result in
    let places : List (List ℕ) = map (λ p. p.items) c.args.places.now in
    let inside : slot < length c.args.tables.now = omega (arith, c.loop-slot-test.true, c.loop-slot.auto.slot-end) in
    let here : slice_get c.args.tables.now slot ≡ Some table = slice_get_read c.args.tables.now (length c.args.tables.now) slot table refl inside c.index-tables-slot.is in
    let rows : slice_get (map (λ (t : Vec Pick Global). t.items) c.args.tables.now) slot ≡ Some table.items =
    slice_get-map (λ (t : Vec Pick Global). t.items) c.args.tables.now slot ∙ ap (option_map (λ (t : Vec Pick Global). t.items)) here in
    let within : slot < length (map (λ (t : Vec Pick Global). t.items) c.args.tables.now) = rw length-map inside in
    let booked : text_so_far c.add_table.new.writer ≡ text_so_far c.loop-slot.writer ++ lines_text (placed_table_rows places slot c.deref.result.now) =
    c.in_ok-add_table.ensures.text ∙ ap (λ (here : List ℕ). text_so_far c.loop-slot.writer ++ lines_text (placed_rows_from here slot 0 c.deref.result.now)) c.slot_places.ensures in (
      c.in_ok-add_table.ensures.open,
      slot_more (placed_table_rows places) (map (λ (t : Vec Pick Global). t.items) c.args.tables.now) slot (text_so_far c.loop-slot.writer) (text_so_far c.add_table.new.writer) within
          (λ x e. subst (λ (table : List Pick). text_so_far c.add_table.new.writer ≡ text_so_far c.loop-slot.writer ++ lines_text (placed_table_rows places slot table))
          (c.deref.ensures.value ∙ same_Some _ _ (sym rows ∙ e)) booked)
          ∙ c.loop-slot.invariant.1,
    )
