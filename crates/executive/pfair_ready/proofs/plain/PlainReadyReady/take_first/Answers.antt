use Rattle.std.proofs.Common.{filter}
use Rattle.pfair_ready.proofs.Common.{PlainEntry, filter_same, rules, apart_filter, name_eq, list_any, Key, pd2_cmp, first_by_rank, released, without, queue_of, ◌≡◌, not, List, ap, subst, ◌∙◌, IsKLeast, by_cmp}
use Rattle.pfair_ready.proofs.WaitingLemmas.{name_of, queue_of_filter, first_from_least, released_of}
use Rattle.pfair_ready.proofs.plain.PlainReadyReady.take_first.Goals as goal
use Rattle.pfair_ready.proofs.plain.PlainReadyReady.take_first.Goals.{After-retain}

kept : (c : After-retain) → c.retain.new.self.items ≡ filter (λ (w : PlainEntry). not (list_any (λ k. name_eq w.key.name k.name) c.in_ok-first.first.items)) c.self.inside.waiting.items
kept c = filter_same _ _ _ (λ x b f' k. search rules) _ _ c.retain.ensures.filtered

pub invariant_of-self-2 : goal.invariant_of-self-2
invariant_of-self-2 c = rw (kept ((goal.at.invariant_of-self-2 c).After-retain)) (apart_filter name_of _ c.self.inside.waiting.items c.self.invariant)

pub returns-clause-first : goal.returns-clause-first
returns-clause-first c =
    let keys : c.deref-2.result.now ≡ released_of c.args.slot c.self.inside.waiting.items =
    c.deref-2.ensures.value ∙ c.in_ok-released.ensures ∙ ap (released_of c.args.slot) c.deref.ensures.value in
    let least : IsKLeast (by_cmp pd2_cmp) c.args.m (released_of c.args.slot c.self.inside.waiting.items) c.in_ok-first.first.items =
    subst (λ (l : List Key). IsKLeast (by_cmp pd2_cmp) c.args.m l c.in_ok-first.first.items) keys c.in_ok-first.ensures in
    subst (λ v. c.in_ok-first.first.items ≡ first_by_rank pd2_cmp c.args.m (released c.args.slot v.held)) c.self.view_is
    (first_from_least c.args.slot c.args.m c.self.inside.waiting.items c.in_ok-first.first.items c.self.invariant least)

pub returns-clause-removed : goal.returns-clause-removed
returns-clause-removed c =
    ap queue_of (kept ((goal.at.returns-clause-removed c).After-retain)) ∙ queue_of_filter (λ n. not (list_any (λ k. name_eq n k.name) c.in_ok-first.first.items)) c.self.inside.waiting.items
    ∙ ap (λ v. without c.in_ok-first.first.items v.held) c.self.view_is
