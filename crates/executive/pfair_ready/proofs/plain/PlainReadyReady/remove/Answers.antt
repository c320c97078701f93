use Rattle.std.proofs.Common.{filter}
use Rattle.pfair_ready.proofs.Common.{apart_filter, name_eq, queue_of, rules, ◌≡◌, not, sym, ap, ◌∙◌, filter_same, PlainEntry}
use Rattle.std.specs.FinMap as finmap
use Rattle.pfair_ready.proofs.WaitingLemmas.{name_of, contained, queue_of_filter, retain_but}
use Rattle.pfair_ready.proofs.plain.PlainReadyReady.remove.Goals as goal

kept : (c : goal.After-retain) → c.retain.new.self.items ≡ filter (λ (w : PlainEntry). not (name_eq w.key.name c.args.name.now)) c.self.inside.waiting.items
kept c = filter_same _ _ _ (λ x b f' k. search rules) _ _ c.retain.ensures.filtered

pub invariant_of-self : goal.invariant_of-self
invariant_of-self c = rw (kept c) (apart_filter name_of (λ w. not (name_eq w.key.name c.args.name.now)) c.self.inside.waiting.items c.self.invariant)

pub returns-clause-answer : goal.returns-clause-answer
returns-clause-answer c = sym (contained _ _ _ c.args.name.now _ _ (ap (λ v. v.held) c.self.view_is) c.deref.ensures.value c.find_name.ensures c.is_some-there.ensures)

pub returns-clause-content : goal.returns-clause-content
returns-clause-content c =
    ap queue_of (kept c) ∙ queue_of_filter (λ n. not (name_eq n c.args.name.now)) c.self.inside.waiting.items
    ∙ retain_but (queue_of c.self.inside.waiting.items) c.args.name.now ∙ ap (λ v. finmap.remove v.held c.args.name.now) c.self.view_is
