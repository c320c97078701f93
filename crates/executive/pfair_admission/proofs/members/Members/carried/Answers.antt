use Rattle.pfair_admission.proofs.Common.{CanJoin, member_in, Roster, EachBounded, None, subst, sym, ap, ◌∙◌, ◌≡◌, arith, true, slice_get, Some}
use Rattle.pfair_admission.proofs.Registers.{AreCarried, able_at, all_carried, bounded_carried, carried_joins, carried_more}
use Rattle.pfair_admission.proofs.members.Members.carried.Goals as goal
use Rattle.pfair_admission.proofs.members.Members.carried.Goals.{After-index, In_ok-carried}

-- the member at that place
here : (c : After-index) → slice_get c.args.self.now.members c.loop-place.place ≡ Some c.index.result.now
here c = ap (λ (r : Roster). slice_get r.members c.loop-place.place) (sym c.self.view_is) ∙ c.index.ensures

pub carried-requires : goal.carried-requires
carried-requires c = able_at c.args.self.now.members c.loop-place.place c.index.result.now (here ((goal.at.carried-requires c).After-index)) c.requires.able

can : (c : In_ok-carried) → CanJoin (λ _. true) c.loop-place.ledger (member_in c.in_ok-carried.field-0)
can c =
    carried_joins c.self.inside c.loop-place.ledger c.loop-place.place c.index.result.now (member_in c.in_ok-carried.field-0) c.self.invariant.kept c.index.ensures c.in_ok-carried.ensures.state
    (omega (arith, c.loop-place-test.true, c.len-tasks.ensures.small)) (subst (λ (r : Roster). AreCarried r c.loop-place.place c.loop-place.ledger) (sym c.self.view_is) c.loop-place.invariant)

pub add-requires-clause-room : goal.add-requires-clause-room
add-requires-clause-room c = (λ _. true, can ((goal.at.add-requires-clause-room c).In_ok-carried))

pub loop-place-preserved : goal.loop-place-preserved
loop-place-preserved c =
    let at = goal.at.loop-place-preserved c in
    carried_more c.args.self.now c.loop-place.ledger c.add.new.self c.loop-place.place c.index.result.now (member_in c.in_ok-carried.field-0) (here at.After-index) c.in_ok-carried.ensures.state c.loop-place.invariant
    c.in_ok-add.ensures.members c.in_ok-add.ensures.numbers (c.in_ok-add.ensures.kept (λ _. true) (can at.In_ok-carried))

pub invariant_of-result : goal.invariant_of-result
invariant_of-result c =
    let s = c.loop-place.invariant in
    let end : c.loop-place.place ≡ c.len-tasks.result = omega (arith, c.loop-place-test.false, c.loop-place.auto.place-end) in
    let members = all_carried c.self.inside c.args.self.now c.loop-place.place c.loop-place.ledger c.self.view_is (end ∙ c.len-tasks.ensures.len) s in
    record {
      few_heard = omega arith;
      admitted = omega (arith, s.admitted, c.loop-place.auto.place-end, c.len-tasks.ensures.small);
      begun = λ _. s.numbers;
      bounded = subst (EachBounded 0) (sym members) (bounded_carried c.args.self.now.members c.requires.able);
      kept = s.kept;
    }

pub returns : goal.returns
returns c =
    let s = c.loop-place.invariant in
    let end : c.loop-place.place ≡ c.len-tasks.result = omega (arith, c.loop-place-test.false, c.loop-place.auto.place-end) in
    let members = all_carried c.self.inside c.args.self.now c.loop-place.place c.loop-place.ledger c.self.view_is (end ∙ c.len-tasks.ensures.len) s in
    λ i. record { machine = record { processors = s.processors i; frame = s.frame i }; members = members i; heard = 0; last_slot = None }
