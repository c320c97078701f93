use Rattle.pfair_ready.proofs.Common.{Queue, ◌≡◌, false, sym, ap, ◌∙◌, OnErr, Ok, Err, is_some, refl}
use Rattle.std.specs.FinMap as finmap
use Rattle.pfair_ready.proofs.WaitingLemmas.{absent, entry_filled, entry_kept, entry_read, is_some_under, queue_put}
use Rattle.pfair_ready.proofs.waiting.Waiting.put.Goals as goal
use Rattle.pfair_ready.proofs.waiting.Waiting.put.Goals.{In_default, After-index_mut-there}

waits : (c : After-index_mut-there) → finmap.contains_key c.args.self.now c.args.key.now.name ≡ is_some c.index_mut-there.result.now.held
waits c =
    ap (λ (h : Queue). finmap.contains_key h c.args.key.now.name) (sym c.self.view_is)
    ∙ ap is_some (entry_read c.self.inside.entries c.in-Some.index c.args.key.now.name c.in-Some.ensures.unique c.in-Some.ensures.some c.index_mut-there.result.now c.index_mut-there.ensures.value)
    ∙ is_some_under c.args.key.now.name c.index_mut-there.result.now.held

pub returns-then-is_some-clause-answer : goal.returns-then-is_some-clause-answer
returns-then-is_some-clause-answer c = waits ((goal.at.returns-then-is_some-clause-answer c).After-index_mut-there) ∙ sym c.is_some.ensures ∙ c.if-is_some.true

pub returns-then-is_some-clause-content : goal.returns-then-is_some-clause-content
returns-then-is_some-clause-content c =
    entry_kept c.self.inside.entries c.in-Some.index c.args.key.now.name c.in-Some.ensures.unique c.in-Some.ensures.some c.index_mut-there.result.now c.index_mut-there.ensures.value ∙ c.self.view_is

pub returns-in-Some-clause-answer : goal.returns-in-Some-clause-answer
returns-in-Some-clause-answer c = waits ((goal.at.returns-in-Some-clause-answer c).After-index_mut-there) ∙ sym c.is_some.ensures ∙ c.if-is_some.false

pub returns-in-Some-clause-content : goal.returns-in-Some-clause-content
returns-in-Some-clause-content c =
    entry_filled c.self.inside.entries c.in-Some.index c.args.key.now.name c.in-Some.ensures.unique c.in-Some.ensures.some _ (c.args.release, c.args.key.now) refl
    ∙ ap (λ (h : Queue). finmap.insert h c.args.key.now.name (c.args.release, c.args.key.now)) c.self.view_is

vacant : (c : In_default) → finmap.contains_key c.args.self.now c.args.key.now.name ≡ false
vacant c =
    ap (λ (h : Queue). finmap.contains_key h c.args.key.now.name) (sym c.self.view_is)
    ∙ absent c.self.inside.entries.entries c.args.key.now.name c.in_default.ensures.unique c.in_default.ensures.none

pub returns-in_err-insert-clause-vacant : goal.returns-in_err-insert-clause-vacant
returns-in_err-insert-clause-vacant c =
    elim c.from_residual.result as (λ r. OnErr r (finmap.contains_key c.args.self.now c.args.key.now.name ≡ false)) [
      | Ok x ↦ tt
      | Err e ↦ vacant ((goal.at.returns-in_err-insert-clause-vacant c).In_default)
    ]

pub returns-clause-answer : goal.returns-clause-answer
returns-clause-answer c = vacant ((goal.at.returns-clause-answer c).In_default)

pub returns-clause-content : goal.returns-clause-content
returns-clause-content c =
    queue_put c.self-2.inside.entries.entries c.insert.new.self.entries c.len.ensures.unique c.in_ok-insert.ensures.unique c.args.key.now.name _ (c.args.release, c.args.key.now) refl c.in_ok-insert.ensures.updates.0
    ∙ ap (λ (h : Queue). finmap.insert h c.args.key.now.name (c.args.release, c.args.key.now)) (c.self-2.view_is ∙ c.drop_vacant.ensures)
