use Rattle.pfair_admission.proofs.Common.{announcements, membership, EachBounded, Membership, ◌≡◌, ◌+◌, ◌<◌, ◌++◌, ◌∷◌, [], length, sym, subst, arith}
use Rattle.std.proofs.lemmas.Result.{err_from_is_err_and}
use Rattle.pfair_admission.proofs.Boundaries.{SoFar, one_more, bounded_so_far, room_so_far, length_announcements, said_item, limits_item}
use Rattle.pfair_admission.proofs.ledger.Ledger.decide_all.Goals as goal
use Rattle.pfair_admission.proofs.ledger.Ledger.decide_all.Goals.{After-branch-push}

pub decide-requires-clause-room : goal.decide-requires-clause-room
decide-requires-clause-room c =
    room_so_far (membership c.args.slot c.args.self.now) c.args.slot c.loop-said.said-index (length c.args.announced.now) (announcements c.args.announced.now) (membership c.args.slot c.loop-said.self) c.loop-said.all.items c.loop-said.invariant.so_far (omega (arith, c.loop-said.auto.said-index-end)) (omega (arith, c.requires.able.few)) c.requires.able.bounded

-- one announcement more is decided
step : (c : After-branch-push) → SoFar (membership c.args.slot c.args.self.now) c.args.slot (c.loop-said.said-index + 1) (announcements c.args.announced.now) (membership c.args.slot c.decide.new.self) (c.loop-said.all.items ++ c.in_ok-decide.field-0 ∷ [])
step c =
    let within : c.loop-said.said-index < length c.args.announced.now = omega (arith, c.loop-said.auto.said-index-end) in
    let inside : c.loop-said.said-index < length (announcements c.args.announced.now) = omega (arith, length_announcements c.args.announced.now) in
    one_more (membership c.args.slot c.args.self.now) c.args.slot c.loop-said.said-index (announcements c.args.announced.now) (membership c.args.slot c.loop-said.self) (membership c.args.slot c.decide.new.self) c.loop-said.all.items c.said-item.result.announcement c.in_ok-decide.field-0
    c.loop-said.invariant.so_far c.requires.slot (limits_item c.args.announced.now c.loop-said.said-index c.said-item.result c.requires.limits within c.said-item.is) inside
    (said_item c.args.announced.now c.loop-said.said-index c.said-item.result within c.said-item.is) c.in_ok-decide.ensures.decided.decision c.in_ok-decide.ensures.decided.members

pub returns-in_err-push-clause-err : goal.returns-in_err-push-clause-err
returns-in_err-push-clause-err c =
    let p = err_from_is_err_and c.from_residual-in_err-push.result c.from_residual-in_err-push.ensures.1 in
    rw p.1 (c.loop-said.said-index + 1, (step ((goal.at.returns-in_err-push-clause-err c).After-branch-push)).left)

pub returns-in_err-decide-clause-ledger : goal.returns-in_err-decide-clause-ledger
returns-in_err-decide-clause-ledger c = record {
  kept = c.in_err-decide.ensures.kept;
  admitted = omega (arith, c.in_err-decide.ensures.admitted, c.loop-said.invariant.admitted, c.loop-said.auto.said-index-end);
  bounded = λ heard h.
      subst (λ (s : Membership). EachBounded (heard + length c.args.announced.now) s.members) (sym c.in_err-decide.ensures.decided.err)
      (bounded_so_far (membership c.args.slot c.args.self.now) c.args.slot c.loop-said.said-index (length c.args.announced.now) (announcements c.args.announced.now) (membership c.args.slot c.loop-said.self) c.loop-said.all.items c.loop-said.invariant.so_far (omega (arith, c.loop-said.auto.said-index-end)) heard h);
}

pub returns-in_err-push-clause-ledger : goal.returns-in_err-push-clause-ledger
returns-in_err-push-clause-ledger c = record {
  kept = c.in_ok-decide.ensures.kept;
  admitted = omega (arith, c.in_ok-decide.ensures.admitted, c.loop-said.invariant.admitted, c.loop-said.auto.said-index-end);
  bounded = bounded_so_far (membership c.args.slot c.args.self.now) c.args.slot (c.loop-said.said-index + 1) (length c.args.announced.now) (announcements c.args.announced.now) (membership c.args.slot c.decide.new.self) _ (step ((goal.at.returns-in_err-push-clause-ledger c).After-branch-push)) (omega (arith, c.loop-said.auto.said-index-end));
}

pub returns-clause-ledger : goal.returns-clause-ledger
returns-clause-ledger c = record {
  kept = c.loop-said.invariant.kept;
  admitted = omega (arith, c.loop-said.invariant.admitted, c.loop-said.auto.said-index-end);
  bounded = bounded_so_far (membership c.args.slot c.args.self.now) c.args.slot c.loop-said.said-index (length c.args.announced.now) (announcements c.args.announced.now) (membership c.args.slot c.loop-said.self) c.loop-said.all.items c.loop-said.invariant.so_far (omega (arith, c.loop-said.auto.said-index-end));
}

pub loop-said-preserved : goal.loop-said-preserved
loop-said-preserved c =
    let pushed : c.push.new.self.items ≡ c.loop-said.all.items ++ c.in_ok-decide.field-0 ∷ [] = c.in_ok-push.ensures.items in
    rw pushed (record { so_far = step ((goal.at.loop-said-preserved c).After-branch-push); kept = c.decide.ensures.kept; admitted = omega (arith, c.decide.ensures.admitted, c.loop-said.invariant.admitted) })
