use Rattle.pfair_feed.proofs.Common.{TakesPrefix, lines_text, Follow, news, rows_in, ℕ, List, Err, ◌≡◌, ◌∙◌, sym, ap, subst, WriteFailed}
use Rattle.pfair_feed.proofs.Going.{own_err, book_after_plans}
use Rattle.pfair_feed.proofs.follower.Follower.take.Goals as goal

pub invariant_of-self-in_err-plan_all : goal.invariant_of-self-in_err-plan_all
invariant_of-self-in_err-plan_all g c =
    book_after_plans c.self.inside.output c.self.inside.unwritten c.self.inside.dispatcher c.take.new.self c.plan_all.new.dispatcher c.self.inside.book
    (sym c.next_slot.ensures.value ∙ c.next_slot.ensures.decided) c.take.ensures.rest c.plan_all.ensures.grown c.plan_all.ensures.forgotten c.self.invariant

pub invariant_of-self-2 : goal.invariant_of-self-2
invariant_of-self-2 g c =
    book_after_plans c.self.inside.output c.self.inside.unwritten c.self.inside.dispatcher c.take.new.self c.plan_all.new.dispatcher c.self.inside.book
    (sym c.next_slot.ensures.value ∙ c.next_slot.ensures.decided) c.take.ensures.rest c.plan_all.ensures.grown c.plan_all.ensures.forgotten c.self.invariant

pub returns-in_err-write_rows-clause-cut : goal.returns-in_err-write_rows-clause-cut
returns-in_err-write_rows-clause-cut g c is =
    let there : Follow = record { output = c.self.inside.output; dispatch = c.plan_all.new.dispatcher; unwritten = c.self.inside.unwritten } in
    let stands : c.write_rows.new.self ≡ there = c.in_err-write_rows.ensures.stands in
    let view = c.self.view_is in
    let same : news there there ≡ news c.args.self.now c.write_rows.new.self =
    (λ i. lines_text (rows_in (sym stands i).dispatch.origin (view i).output (view i).unwritten (sym stands i).dispatch.tables (sym stands i).dispatch.decided)) in
    subst (λ (text : List ℕ). TakesPrefix (g.W.Write.contents c.args.writer.now) (g.W.Write.contents c.write_rows.new.writer) text) same
    (c.in_err-write_rows.ensures.cut (ap Err (own_err c.from_residual-in_err-write_rows.result c.in_err-write_rows.field-0.0 WriteFailed c.from_residual-in_err-write_rows.ensures.1 is)))
