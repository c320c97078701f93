use Rattle.pfair_state.proofs.Common.{length-append, slice_get_within, as_late, Late, rules, arith, ◌≡◌, ◌+◌, [], ◌∷◌, None, Some, ap, sym, ◌∙◌, length, slice_get, common_steps}
use Rattle.pfair_state.proofs.MembersRead.{all_named, all_read, delay_read, other_name}
use Rattle.pfair_state.proofs.read.delays_behind.Goals.{in-Some-Late+then-ne, in_default, in_default-2}
use Rattle.pfair_state.proofs.read.delays_behind.Goals as goal

pub loop-late-preserved : goal.loop-late-preserved
loop-late-preserved c =
    let rows = c.args.rows.now in
    let at : slice_get rows (c.args.from + length c.loop-late.delays.items) ≡ Some (Late c.in-Some-Late.late) = grind (arith, common_steps) in
    let inside = slice_get_within rows (c.args.from + length c.loop-late.delays.items) (Late c.in-Some-Late.late) at in
    let one = ap length c.in_ok-push.ensures.items ∙ length-append c.loop-late.delays.items (record { index = c.in-Some-Late.late.index; by = c.in-Some-Late.late.by } ∷ []) in
    (omega (arith, inside, one), delay_read rows c.args.from c.args.task.now c.loop-late.delays.items c.loop-late.invariant.1 c.in-Some-Late.late c.push.new.self.items at c.in_ok-push.ensures.items)

pub returns-clause-back : goal.returns-clause-back
returns-clause-back c all behind is not_late =
    let rows = c.args.rows.now in
    let got : c.row_at.result ≡ slice_get rows (c.args.from + length c.loop-late.delays.items) = grind (arith, common_steps) in
    elim c.match-row_at.branch [
      | in-Some-Late+then-ne w ↦
          absurd (all_named rows c.args.from c.args.task.now c.loop-late.delays.items c.loop-late.invariant.1 w.in-Some-Late.late
          (sym got ∙ w.in-Some-Late.is ∙ ap Some w.in-Some-Late.field-0-is)
          (other_name c.args.task.now w.in-Some-Late.late.name w.ne.result w.ne.ensures w.if-ne.true) all behind is not_late)
      | in_default w ↦ (let none : as_late c.row_at.result ≡ None = search rules in all_read rows c.args.from c.args.task.now c.loop-late.delays.items c.loop-late.invariant.1 (ap as_late (sym got) ∙ none) all behind is not_late)
      | in_default-2 w ↦ (let none : as_late c.row_at.result ≡ None = search rules in all_read rows c.args.from c.args.task.now c.loop-late.delays.items c.loop-late.invariant.1 (ap as_late (sym got) ∙ none) all behind is not_late)
    ]
