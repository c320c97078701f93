use Rattle.pfair_ready.proofs.Common.{Key, Queue, held_under, Some, sym, ap, ◌∙◌}
use Rattle.std.specs.FinMap as finmap
use Rattle.pfair_ready.proofs.WaitingLemmas.{flat, queue_at}
use Rattle.pfair_ready.proofs.waiting.Waiting.get.Goals as goal

pub returns-in_err-get : goal.returns-in_err-get
returns-in_err-get c =
    c.from_residual.ensures ∙ ap (flat c.args.name.now) c.in_err-get.ensures.value ∙ sym (queue_at c.self.inside.entries.entries c.args.name.now c.len.ensures.unique)
    ∙ ap (λ (h : Queue). finmap.get h c.args.name.now) c.self.view_is

pub returns-in_err-held : goal.returns-in_err-held
returns-in_err-held c =
    c.from_residual-in_err-held.ensures ∙ sym (ap (held_under c.args.name.now) c.in_err-held.was)
    ∙ ap (flat c.args.name.now) c.in_ok-get.ensures.value ∙ sym (queue_at c.self.inside.entries.entries c.args.name.now c.len.ensures.unique)
    ∙ ap (λ (h : Queue). finmap.get h c.args.name.now) c.self.view_is

pub returns : goal.returns
returns c =
    ap (λ (k : Key). Some (c.in_ok-held.held.release, k)) c.key.ensures ∙ sym (ap (held_under c.args.name.now) c.in_ok-held.was)
    ∙ ap (flat c.args.name.now) c.in_ok-get.ensures.value ∙ sym (queue_at c.self.inside.entries.entries c.args.name.now c.len.ensures.unique)
    ∙ ap (λ (h : Queue). finmap.get h c.args.name.now) c.self.view_is
