use Rattle.pfair_table.proofs.Common.{IsState, is_used, names_task, Carried, Table, ◌∙◌, ap, sym, subst, arith, List, ℕ}
use Rattle.pfair_table.proofs.NextRuns.{row_fits}
use Rattle.pfair_table.proofs.state.State.add_row.Goals as goal

pub invariant_of-self-in_default : goal.invariant_of-self-in_default
invariant_of-self-in_default c =
    let inside = c.self.inside in
    let before : Carried = record { slot = inside.slot; machine = inside.members.machine; members = inside.members.members; table = inside.table.items; places = inside.places.items } in
    subst (λ (p : Table × List ℕ). IsState (record before { table = p.0; places = p.1 })) (λ i. (sym c.in_ok-push.ensures.items i, sym c.in_default.ensures.items i))
    (row_fits before c.args.pick c.args.place c.self.invariant
    (omega (arith, c.if-len-processors.false, c.len.ensures, c.processors-processors.ensures.value)) (omega (arith, c.if-place-processors.false, c.processors-processors.ensures.value))
    (ap (names_task c.args.pick.name) (sym c.deref.ensures.value) ∙ sym c.names_task.ensures ∙ c.if-names_task.false)
    (ap (λ (ps : List ℕ). is_used ps c.args.place) (sym c.deref-else-names_task.ensures.value) ∙ sym c.contains.ensures.value ∙ c.if-contains.false))
