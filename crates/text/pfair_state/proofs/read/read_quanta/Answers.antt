use Rattle.pfair_state.proofs.Common.{slice_get_within, with_row, as_quantum, Ran, ◌≡◌, arith, rules, None, Some, false, true, ap, sym, ◌∙◌, cond}
use Rattle.pfair_state.proofs.MembersRead.{added, all_added, can_be_added}
use Rattle.pfair_state.proofs.read.read_quanta.Goals as goal

pub returns-then-not-branch : goal.returns-then-not-branch
returns-then-not-branch c = record {
  back = λ table places behind none fit are is ends.
      let rows = c.args.rows.now in
      let here = sym c.row_at.ensures ∙ c.in-Some-Ran.is ∙ ap Some c.in-Some-Ran.field-0-is in
      let may = can_be_added rows c.args.state.now c.args.from c.loop-pick.state c.loop-pick.at c.loop-pick.invariant.1 (c.in-Some-Ran.pick, c.in-Some-Ran.place) here table places behind none fit are is ends in
      let shown = c.in_ok-add_row.ensures.able in
      let not_added = c.if-not-branch.true in
      absurd (let both : false ≡ true = sym not_added ∙ shown ∙ may in cc);
}

pub loop-pick-smaller : goal.loop-pick-smaller
loop-pick-smaller c =
    let rows = c.args.rows.now in
    let here = sym c.row_at.ensures ∙ c.in-Some-Ran.is ∙ ap Some c.in-Some-Ran.field-0-is in
    let inside = slice_get_within rows c.loop-pick.at (Ran c.in-Some-Ran.pick c.in-Some-Ran.place) here in
    omega (arith, inside)

pub loop-pick-preserved : goal.loop-pick-preserved
loop-pick-preserved c =
    let rows = c.args.rows.now in
    let here = sym c.row_at.ensures ∙ c.in-Some-Ran.is ∙ ap Some c.in-Some-Ran.field-0-is in
    let inside = slice_get_within rows c.loop-pick.at (Ran c.in-Some-Ran.pick c.in-Some-Ran.place) here in
    let grown : c.add_row.new.self ≡ with_row c.loop-pick.state c.in-Some-Ran.pick c.in-Some-Ran.place =
    c.in_ok-add_row.ensures.added ∙ ap (λ b. cond b (with_row c.loop-pick.state c.in-Some-Ran.pick c.in-Some-Ran.place) c.loop-pick.state) c.if-not-branch.false in
    (omega (arith, inside), added rows c.args.state.now c.args.from c.loop-pick.state c.loop-pick.at c.loop-pick.invariant.1 (c.in-Some-Ran.pick, c.in-Some-Ran.place) here c.add_row.new.self grown)

pub returns-in_default : goal.returns-in_default
returns-in_default c = record {
  back = λ table places behind none fit are is ends.
      let ended : as_quantum c.row_at.result ≡ None = search rules in
      all_added c.args.rows.now c.args.state.now c.args.from c.loop-pick.state c.loop-pick.at c.loop-pick.invariant.1 (ap as_quantum (sym c.row_at.ensures) ∙ ended) table places behind none fit are is ends;
}

pub returns-in_default-2 : goal.returns-in_default-2
returns-in_default-2 c = record {
  back = λ table places behind none fit are is ends.
      let ended : as_quantum c.row_at.result ≡ None = search rules in
      all_added c.args.rows.now c.args.state.now c.args.from c.loop-pick.state c.loop-pick.at c.loop-pick.invariant.1 (ap as_quantum (sym c.row_at.ensures) ∙ ended) table places behind none fit are is ends;
}
