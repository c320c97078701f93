use Rattle.pfair_ready.proofs.Common.{Queue, ◌≡◌, None, refl, sym, ap, subst, ◌∙◌}
use Rattle.std.specs.FinMap as finmap
use Rattle.pfair_ready.proofs.WaitingLemmas.{absent, held_contained, queue_taken}
use Rattle.pfair_ready.proofs.waiting.Waiting.remove.Goals as goal
use Rattle.pfair_ready.proofs.waiting.Waiting.remove.Goals.{in-Some, in-None}

pub returns-clause-answer : goal.returns-clause-answer
returns-clause-answer c =
    subst (λ (h : Queue). c.match-swap_remove.result ≡ finmap.contains_key h c.args.name.now) c.self.view_is
    (elim c.match-swap_remove.branch [
      | in-Some w ↦ sym (held_contained c.self.inside.entries.entries c.args.name.now c.len.ensures.unique _ _ (sym c.swap_remove.ensures.value ∙ w.in-Some.is) (w.result-is ∙ w.is_some.ensures))
      | in-None w ↦ w.result-is ∙ sym (absent c.self.inside.entries.entries c.args.name.now c.len.ensures.unique (sym c.swap_remove.ensures.value ∙ w.in-None.is))
    ])

pub returns-clause-content : goal.returns-clause-content
returns-clause-content c =
    queue_taken c.self.inside.entries.entries c.swap_remove.new.self.entries c.len.ensures.unique c.swap_remove.ensures.unique c.args.name.now None refl c.swap_remove.ensures.updates.0
    ∙ ap (λ (h : Queue). finmap.remove h c.args.name.now) c.self.view_is
