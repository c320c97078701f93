use Rattle.pfair_desk.proofs.Common.{knowing, rules, ◌≡◌, sym, ◌∙◌, ap, None, slice_index_or}
use Rattle.pfair_desk.proofs.NotedLemmas.{view_learned, view_same, unknown_at}
use Rattle.pfair_desk.proofs.board.Notes.set.Goals as goal

pub returns-in_err-standing-clause-err : goal.returns-in_err-standing-clause-err
returns-in_err-standing-clause-err c =
    let unknown : slice_index_or c.args.self.now.known c.args.place None ≡ None = rw (← c.self.view_is) (unknown_at c.self.inside.notes.items c.args.place c.index_mut.result.now c.index_mut.ensures.value c.in_err-standing.ensures.value.0) in
    let same = view_same c.self.inside.notes.items c.args.place c.index_mut.result.now c.get_or_try_init_as.new.note c.index_mut.ensures.value c.in_err-standing.ensures.cell (c.in_err-standing.ensures.value.1 ∙ sym c.in_err-standing.ensures.value.0) ∙ c.self.view_is in
    search (rules, unknown, same)

pub returns-clause-ok : goal.returns-clause-ok
returns-clause-ok c = view_learned c.self.inside.notes.items c.args.place c.index_mut.result.now c.get_or_try_init_as.new.note c.in_ok-standing.standing.now c.index_mut.ensures.value c.in_ok-standing.ensures.cell c.in_ok-standing.ensures.value.0 ∙ ap (λ k. knowing k c.args.place c.in_ok-standing.standing.now) c.self.view_is
