use Rattle.pfair_ready.proofs.Common.{IsEntryOf, NameValue, Queue, held_under, is_due, key_under, Key, None, Some, queue_in, ◌≡◌, refl, rules, slice_get, subst, sym, ap, ◌∙◌, is_some, name_of, name_eq}
use Rattle.indexmap.specs.IndexMap.{IsUnique, with_value_at}
use Rattle.std.specs.FinMap as finmap
use Rattle.pfair_ready.proofs.WaitingLemmas.{at, entry_at, entry_kept, entry_read, entry_vacated, none_there}
use Rattle.pfair_ready.proofs.waiting.Waiting.take.Goals as goal
use Rattle.pfair_ready.proofs.waiting.Waiting.take.Goals.{After-index_mut-entry, in-Some, in_default+in_ok-get_index_of-in_default, in_default-via-in-Some+else-number-turn, in_default-via-in_default}

pub returns-in_err-get_index_of-in_default-clause-answer : goal.returns-in_err-get_index_of-in_default-clause-answer
returns-in_err-get_index_of-in_default-clause-answer c =
    let same : c.in_default.self-inside ≡ c.self.inside =
    elim c.in_default.branch [ in_default-via-in-Some+else-number-turn w ↦ w.self-inside-is | in_default-via-in_default w ↦ w.self-inside-is ] in
    let none : at c.in_default.self-inside.entries.entries (name_of c.args.turn.now.name.0) ≡ None = search rules in
    ap is_some c.from_residual.ensures
    ∙ sym (ap (is_due c.args.turn.now c.args.slot) (ap (λ (h : Queue). finmap.get h (name_of c.args.turn.now.name.0)) (sym (ap (λ s. queue_in s.entries.entries) same ∙ c.self.view_is))
    ∙ none_there c.in_default.self-inside.entries.entries (name_of c.args.turn.now.name.0) c.get_index_of.ensures.unique none))

-- the turn's name, and where its entry is
found : (c : After-index_mut-entry) → let m = c.match-get_index in
    IsEntryOf m.self-inside.entries.entries (name_of c.args.turn.now.name.0) m.ready.0 × (m.ready.1 ≡ name_of c.args.turn.now.name.0)
    × IsUnique name_eq m.self-inside.entries × (queue_in m.self-inside.entries.entries ≡ c.args.self.now)
found c =
    elim c.match-get_index.branch [
      | in-Some w ↦
          let own : w.in-Some.there.now ≡ name_of c.args.turn.now.name.0 = sym w.number.ensures.name ∙ ap name_of w.if-number-turn.true in
          let there : slice_get c.self.inside.entries.entries c.args.turn.now.hint ≡ Some (w.in-Some.there.now, w.in-Some.field-0-1.now) = search rules in
          rw (w.self-inside-is, w.ready-is)
          (subst (λ n. IsEntryOf c.self.inside.entries.entries n c.args.turn.now.hint) own (w.in-Some.field-0-1.now, there), own, c.len.ensures.unique, c.self.view_is)
      | in_default+in_ok-get_index_of-in_default w ↦
          let same : w.in_default.self-inside ≡ c.self.inside =
          elim w.in_default.branch [ in_default-via-in-Some+else-number-turn v ↦ v.self-inside-is | in_default-via-in_default v ↦ v.self-inside-is ] in
          rw (w.self-inside-is, w.ready-is) (
            subst (λ n. IsEntryOf w.in_default.self-inside.entries.entries n w.in_ok-get_index_of-in_default.field-0) w.of_number-name.ensures
                (entry_at w.in_default.self-inside.entries.entries w.of_number-name.result w.in_ok-get_index_of-in_default.field-0 (sym w.get_index_of.ensures.index ∙ w.in_ok-get_index_of-in_default.was)),
            w.of_number-name.ensures,
            w.get_index_of.ensures.unique,
            ap (λ s. queue_in s.entries.entries) same ∙ c.self.view_is,
          )
    ]

-- what waits is what the entry has, and stays if that is written back
waits : (c : After-index_mut-entry) → let m = c.match-get_index in
    (finmap.get c.args.self.now (name_of c.args.turn.now.name.0) ≡ held_under (name_of c.args.turn.now.name.0) c.index_mut-entry.result.now.held)
    × (queue_in (with_value_at m.self-inside.entries m.ready.0 c.index_mut-entry.result.now).entries ≡ c.args.self.now)
waits c =
    let f = found c in
    let m = c.match-get_index in (
      ap (λ (h : Queue). finmap.get h (name_of c.args.turn.now.name.0)) (sym f.3)
          ∙ entry_read m.self-inside.entries m.ready.0 (name_of c.args.turn.now.name.0) f.2 f.0 c.index_mut-entry.result.now c.index_mut-entry.ensures.value,
      entry_kept m.self-inside.entries m.ready.0 (name_of c.args.turn.now.name.0) f.2 f.0 c.index_mut-entry.result.now c.index_mut-entry.ensures.value ∙ f.3,
    )

pub returns-in_err-held-clause-answer : goal.returns-in_err-held-clause-answer
returns-in_err-held-clause-answer c =
    ap is_some c.from_residual-in_err-held.ensures
    ∙ sym (ap (is_due c.args.turn.now c.args.slot) ((waits ((goal.at.returns-in_err-held-clause-answer c).After-index_mut-entry)).0 ∙ ap (held_under (name_of c.args.turn.now.name.0)) c.in_err-held.was))

pub returns-in_err-held-clause-content : goal.returns-in_err-held-clause-content
returns-in_err-held-clause-content c = rw c.from_residual-in_err-held.ensures ((waits ((goal.at.returns-in_err-held-clause-content c).After-index_mut-entry)).1)

pub returns-then-not-is_due-clause-answer : goal.returns-then-not-is_due-clause-answer
returns-then-not-is_due-clause-answer c =
    sym c.if-not-is_due.true ∙ c.is_due.ensures (name_of c.args.turn.now.name.0)
    ∙ sym (ap (is_due c.args.turn.now c.args.slot) ((waits ((goal.at.returns-then-not-is_due-clause-answer c).After-index_mut-entry)).0 ∙ ap (held_under (name_of c.args.turn.now.name.0)) c.in_ok-held.was))

pub returns-then-not-is_due-clause-content : goal.returns-then-not-is_due-clause-content
returns-then-not-is_due-clause-content c = (waits ((goal.at.returns-then-not-is_due-clause-content c).After-index_mut-entry)).1

pub returns-clause-answer : goal.returns-clause-answer
returns-clause-answer c =
    sym c.if-not-is_due.false ∙ c.is_due.ensures (name_of c.args.turn.now.name.0)
    ∙ sym (ap (is_due c.args.turn.now c.args.slot) ((waits ((goal.at.returns-clause-answer c).After-index_mut-entry)).0 ∙ ap (held_under (name_of c.args.turn.now.name.0)) c.in_ok-held.was))

pub returns-clause-key : goal.returns-clause-key
returns-clause-key c =
    let at = (goal.at.returns-clause-key c).After-index_mut-entry in (
      c.in_ok-held.held.release,
      (waits at).0 ∙ ap (held_under (name_of c.args.turn.now.name.0)) c.in_ok-held.was
          ∙ ap (λ (k : Key). Some (c.in_ok-held.held.release, k)) (sym (c.key.ensures ∙ ap (λ (n : NameValue). key_under n c.in_ok-held.held) ((found at).1))),
    )

pub returns-clause-content : goal.returns-clause-content
returns-clause-content c =
    let f = found ((goal.at.returns-clause-content c).After-index_mut-entry) in
    entry_vacated c.match-get_index.self-inside.entries c.match-get_index.ready.0 (name_of c.args.turn.now.name.0) f.2 f.0 _ refl
    ∙ ap (λ (h : Queue). finmap.remove h (name_of c.args.turn.now.name.0)) f.3
