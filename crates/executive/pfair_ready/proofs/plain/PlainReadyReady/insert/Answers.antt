use Rattle.pfair_ready.proofs.Common.{true≢false, apart_push, first_named, ◌≡◌, not, None, sym, ap, ◌∙◌, arith, nothing}
use Rattle.pfair_ready.proofs.WaitingLemmas.{name_of, none_named, contained, queue_of_push}
use Rattle.pfair_ready.proofs.plain.PlainReadyReady.insert.Goals as goal

pub returns-then-is_some-clause-answer : goal.returns-then-is_some-clause-answer
returns-then-is_some-clause-answer c =
    ap not (sym (contained _ _ _ c.args.key.name _ _ (ap (λ v. v.held) c.self.view_is) c.deref.ensures.value c.find_name.ensures c.is_some.ensures ∙ c.if-is_some.true))

pub invariant_of-self : goal.invariant_of-self
invariant_of-self c = rw c.in_err-push.ensures.items c.self.invariant

pub returns-in_err-push-clause-there : goal.returns-in_err-push-clause-there
returns-in_err-push-clause-there c there =
    absurd (true≢false (sym there ∙ contained _ _ _ c.args.key.name _ _ (ap (λ v. v.held) c.self.view_is) c.deref.ensures.value c.find_name.ensures c.is_some.ensures ∙ c.if-is_some.false))

pub invariant_of-self-2 : goal.invariant_of-self-2
invariant_of-self-2 c =
    let none : first_named c.args.key.name c.self.inside.waiting.items ≡ None =
    sym (c.find_name.ensures ∙ ap (first_named c.args.key.name) c.deref.ensures.value) ∙ nothing c.find_name.result (sym c.is_some.ensures ∙ c.if-is_some.false) in
    rw c.in_ok-push.ensures.items (apart_push name_of c.self.inside.waiting.items _ (none_named c.args.key.name c.self.inside.waiting.items none) c.self.invariant)

pub returns-clause-answer : goal.returns-clause-answer
returns-clause-answer c =
    ap not (sym (contained _ _ _ c.args.key.name _ _ (ap (λ v. v.held) c.self.view_is) c.deref.ensures.value c.find_name.ensures c.is_some.ensures ∙ c.if-is_some.false))

pub returns-clause-there : goal.returns-clause-there
returns-clause-there c there =
    absurd (true≢false (sym there ∙ contained _ _ _ c.args.key.name _ _ (ap (λ v. v.held) c.self.view_is) c.deref.ensures.value c.find_name.ensures c.is_some.ensures ∙ c.if-is_some.false))

pub returns-clause-content : goal.returns-clause-content
returns-clause-content c =
    let none : first_named c.args.key.name c.self.inside.waiting.items ≡ None =
    sym (c.find_name.ensures ∙ ap (first_named c.args.key.name) c.deref.ensures.value) ∙ nothing c.find_name.result (sym c.is_some.ensures ∙ c.if-is_some.false) in
    grind (arith, queue_of_push)
