use Rattle.pfair_state.proofs.Common.{AllByRecursion, flat_map, length-append, member_rows, ran_rows, rows_before_end, Member, AreSpelled, IsSpelledQuantum, member_said, ◌≡◌, ◌+◌, ap, arith, length, min, subst, List, common_steps}
use Rattle.pfair_state.proofs.RowLists.{count_ran}
use Rattle.pfair_state.proofs.RowsSpelled.{on_ok, writable}
use Rattle.pfair_state.proofs.write.add_state.Goals as goal

pub returns-clause-readable : goal.returns-clause-readable
returns-clause-readable c =
    on_ok c.add_row-2.result
    (writable c.args.state.now c.members-members.ensures.state
    (subst (λ (ms : List Member). AllByRecursion (λ m. AreSpelled (member_said m)) ms) c.members-members.ensures.value c.in_ok-of_members.ensures.spelled)
    (subst (AllByRecursion IsSpelledQuantum) c.table.ensures.value c.in_ok-add_ran.ensures.spelled))

pub returns-clause-text : goal.returns-clause-text
returns-clause-text c =
    let state = c.args.state.now in
    let ran = count_ran state.table state.places c.members-members.ensures.state.places.one_each in
    let together = length-append (flat_map member_rows state.members) (ran_rows state.table state.places) in
    let members = ap (λ ms. length (flat_map member_rows ms)) c.members-members.ensures.value in
    let table = ap length c.table-2.ensures.value in
    let count = c.in_ok-of_members.ensures.count in
    let rows : c.saturating_add-rows.result ≡ min (length (rows_before_end state) + 1) 18446744073709551615 = omega (arith, ran, together, members, table, count, c.saturating_add.ensures, c.saturating_add-rows.ensures) in
    grind (arith, common_steps)
