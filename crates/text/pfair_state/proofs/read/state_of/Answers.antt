use Rattle.pfair_state.proofs.Common.{slice_get_within, Roster, AreLeftAt, Carried, End, ◌≡◌, ◌<◌, arith, rules, ap, None, Some, sym, subst, ◌∙◌, length}
use Rattle.pfair_state.proofs.MembersRead.{none_left}
use Rattle.pfair_state.proofs.StateRead.{as_end, by_members, by_quanta, ends, memory, whole}
use Rattle.pfair_state.proofs.read.state_of.Goals.{in_default-row_at-via-in-Some+in_default, in_default-row_at-via-in_default, then-count-rows+else-rows-end, else-count-rows}
use Rattle.pfair_state.proofs.read.state_of.Goals as goal

pub read_members-requires-clause-left : goal.read_members-requires-clause-left
read_members-requires-clause-left c = subst (λ (r : Roster). AreLeftAt c.in-Some-First.first.slot r.machine r.members) (sym c.new-members.ensures) (none_left c.in-Some-First.first.slot _)

pub returns-in_err-quanta : goal.returns-in_err-quanta
returns-in_err-quanta c all can is =
    memory (λ (state : Carried). state ≡ all) c.from_residual.result c.in_err-quanta.field-0.0 (search rules)
    (by_members c.args.rows.now c.in-Some-First.first (sym c.row_at.ensures ∙ c.in-Some-First.is ∙ ap Some c.in-Some-First.field-0-is) c.new-members.result c.new-members.ensures all can is c.in_err-quanta.ensures.back)

pub returns-in_err-end : goal.returns-in_err-end
returns-in_err-end c all can is =
    let members = by_members c.args.rows.now c.in-Some-First.first (sym c.row_at.ensures ∙ c.in-Some-First.is ∙ ap Some c.in-Some-First.field-0-is) c.new-members.result c.new-members.ensures all can is c.in_ok-quanta.ensures.back in
    memory (λ (state : Carried). state ≡ all) c.from_residual-in_err-end.result c.in_err-end.field-0.0 (let gave = c.from_residual-in_err-end.ensures in search (rules, gave))
    (by_quanta c.args.rows.now c.in-Some-First.first (sym c.row_at.ensures ∙ c.in-Some-First.is ∙ ap Some c.in-Some-First.field-0-is) c.new-members.result c.new-members.ensures all can is c.in_ok-quanta.quanta c.read_members.new.members members c.new-state.result c.new-state.ensures c.in_err-end.ensures.back)

pub overflow_add-end : goal.overflow_add-end
overflow_add-end c =
    let rows = c.args.rows.now in
    let inside = slice_get_within rows c.in_ok-end.end (End c.in-Some-End.count) (sym c.row_at-2.ensures ∙ c.in-Some-End.is ∙ ap Some c.in-Some-End.field-0-is) in
    search (rules, arith, inside)

pub returns-in-Some-End : goal.returns-in-Some-End
returns-in-Some-End c all can is =
    let members = by_members c.args.rows.now c.in-Some-First.first (sym c.row_at.ensures ∙ c.in-Some-First.is ∙ ap Some c.in-Some-First.field-0-is) c.new-members.result c.new-members.ensures all can is c.in_ok-quanta.ensures.back in
    let quanta = by_quanta c.args.rows.now c.in-Some-First.first (sym c.row_at.ensures ∙ c.in-Some-First.is ∙ ap Some c.in-Some-First.field-0-is) c.new-members.result c.new-members.ensures all can is c.in_ok-quanta.quanta c.read_members.new.members members c.new-state.result c.new-state.ensures c.in_ok-end.ensures.back in
    whole c.args.rows.now c.in-Some-First.first (sym c.row_at.ensures ∙ c.in-Some-First.is ∙ ap Some c.in-Some-First.field-0-is) c.new-members.result c.new-members.ensures all can is c.in_ok-quanta.quanta c.read_members.new.members members c.new-state.result c.new-state.ensures c.read_quanta.new.state quanta.1

pub returns-in-Some-End-2 : goal.returns-in-Some-End-2
returns-in-Some-End-2 c all can is =
    let rows = c.args.rows.now in
    let few : length rows < 18446744073709551616 = search (rules, arith) in
    let members = by_members rows c.in-Some-First.first (sym c.row_at.ensures ∙ c.in-Some-First.is ∙ ap Some c.in-Some-First.field-0-is) c.new-members.result c.new-members.ensures all can is c.in_ok-quanta.ensures.back in
    let quanta = by_quanta rows c.in-Some-First.first (sym c.row_at.ensures ∙ c.in-Some-First.is ∙ ap Some c.in-Some-First.field-0-is) c.new-members.result c.new-members.ensures all can is c.in_ok-quanta.quanta c.read_members.new.members members c.new-state.result c.new-state.ensures c.in_ok-end.ensures.back in
    let last = ends rows all is c.in_ok-end.end quanta.0 few in
    let some = c.row_at-2.ensures ∙ last.0 in
    let long = last.1 in
    elim c.if-count-rows.branch [
      | then-count-rows+else-rows-end w ↦ absurd (let other = w.if-rows-end.false in omega (arith, other, long))
      | else-count-rows w ↦ absurd (let other = w.if-count-rows.false in let seen = c.in-Some-End.is in other cc)
    ]

pub returns-in_default-row_at : goal.returns-in_default-row_at
returns-in_default-row_at c all can is =
    let rows = c.args.rows.now in
    let few : length rows < 18446744073709551616 = search (rules, arith) in
    let members = by_members rows c.in-Some-First.first (sym c.row_at.ensures ∙ c.in-Some-First.is ∙ ap Some c.in-Some-First.field-0-is) c.new-members.result c.new-members.ensures all can is c.in_ok-quanta.ensures.back in
    let quanta = by_quanta rows c.in-Some-First.first (sym c.row_at.ensures ∙ c.in-Some-First.is ∙ ap Some c.in-Some-First.field-0-is) c.new-members.result c.new-members.ensures all can is c.in_ok-quanta.quanta c.read_members.new.members members c.new-state.result c.new-state.ensures c.in_ok-end.ensures.back in
    let last = ends rows all is c.in_ok-end.end quanta.0 few in
    let some = ap as_end (c.row_at-2.ensures ∙ last.0) in
    elim c.in_default-row_at.branch [
      | in_default-row_at-via-in-Some+in_default w ↦ absurd (let none : as_end c.row_at-2.result ≡ None = search rules in cc)
      | in_default-row_at-via-in_default w ↦ absurd (let none : as_end c.row_at-2.result ≡ None = search rules in cc)
    ]
