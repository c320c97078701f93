use Rattle.pfair_state.proofs.Common.{drop_all, flat_map, length-map, text_so_far, AreSpelled, member_said, late_row, member_rows, ◌<◌, ◌≡◌, ◌∙◌, ap, sym, Some, drop, length, map, slice_get, arith}
use Rattle.pfair_state.proofs.RowLists.{count_left, text_more}
use Rattle.pfair_state.proofs.RowsSpelled.{more_taken}
use Rattle.pfair_state.proofs.write.add_members.Goals as goal

pub loop-place-preserved : goal.loop-place-preserved
loop-place-preserved c =
    let members = c.args.members.now.members in
    let place = c.loop-place.place in
    let member = c.in-Some.member.now in
    let inside : place < length members = omega (arith, c.loop-place-test.true, c.len-place-end.ensures) in
    let at : slice_get members place ≡ Some member = sym c.in-Some.ensures.member in
    let left = count_left member_rows members place member inside at in
    let own : length (map (late_row member.name) member.delays) ≡ length c.delays.result.now = length-map member.delays (late_row member.name) ∙ ap length (sym c.delays.ensures.value) in
    let grown = c.saturating_add-rows.ensures in
    let before = c.loop-place.invariant.3 in (
      c.in_ok-add_member.ensures.open,
      text_more member_rows members place member (text_so_far c.loop-place.writer) (text_so_far c.add_member.new.writer) inside at c.in_ok-add_member.ensures.text ∙ c.loop-place.invariant.1,
      more_taken (λ m. AreSpelled (member_said m)) members place member inside at c.in_ok-add_member.ensures.spelled c.loop-place.invariant.2,
      omega (arith, left, own, grown, before),
      omega (arith, grown),
    )

pub returns-clause-count : goal.returns-clause-count
returns-clause-count c =
    let none : length (flat_map member_rows (drop c.loop-place.place c.args.members.now.members)) ≡ 0 =
    ap (λ l. length (flat_map member_rows l)) (drop_all c.loop-place.place c.args.members.now.members (omega (arith, c.loop-place-test.false, c.len-place-end.ensures))) in
    let before = c.loop-place.invariant.3 in
    omega (arith, none, before, c.loop-place.invariant.4)
