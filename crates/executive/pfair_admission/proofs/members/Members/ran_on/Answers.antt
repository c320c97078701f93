use Rattle.std.proofs.Common.{is_some}
use Rattle.pfair_admission.proofs.Common.{option_map, values_of, set_value_at, Member, member_named, quantum_of, ran, running, seatless, listed, Roster, ◌≡◌, List, Option, true, refl, sym, ap, ◌∙◌, arith, if◌then◌else◌}
use Rattle.pfair_admission.proofs.Boundaries.{bounded_run}
use Rattle.pfair_admission.proofs.Deciding.{ran_like, ran_listed, roster_ran, filter_all, is_there_now, length_written, within, IsThere}
use Rattle.pfair_admission.proofs.Registers.{ledger_written}
use Rattle.pfair_admission.proofs.members.Members.ran_on.Goals as goal
use Rattle.pfair_admission.proofs.members.Members.ran_on.Goals.{After-run_on}

pub returns-in_err-place-clause-quantum : goal.returns-in_err-place-clause-quantum
returns-in_err-place-clause-quantum c =
    ap (option_map seatless) c.from_residual.ensures
    ∙ sym (ap (λ (o : Option Member). option_map quantum_of (running o)) (ap (λ (r : Roster). member_named r.members c.args.name.now) (sym c.self.view_is) ∙ ap (λ (ms : List Member). member_named ms c.args.name.now) (sym (filter_all (listed c.self.inside.ledger)))
    ∙ c.in_err-place.ensures c.self.invariant.kept.register))

pub index_mut-requires : goal.index_mut-requires
index_mut-requires c =
    let is = c.in_ok-place.ensures c.self.invariant.kept.register in
    within c.self.inside.ledger.members.entries c.in_ok-place.place is.0 is.1.at

pub run_on-requires : goal.run_on-requires
run_on-requires c =
    let is = c.in_ok-place.ensures c.self.invariant.kept.register in
    let there = is_there_now (λ _. true) c.args.name.now (listed c.self.inside.ledger) c.in_ok-place.place c.index_mut.result.now (is.0, is.1, refl) c.index_mut.ensures.value in
    let few = c.requires c.index_mut.result.now
    (ap (λ (r : Roster). member_named r.members c.args.name.now) (sym c.self.view_is) ∙ ap (λ (ms : List Member). member_named ms c.args.name.now) (sym (filter_all (listed c.self.inside.ledger))) ∙ there.found) in
    omega (arith, few)

who : (c : After-run_on) → IsThere (λ _. true) c.args.name.now (listed c.self.inside.ledger) c.in_ok-place.place c.index_mut.result.now
who c =
    let is = c.in_ok-place.ensures c.self.invariant.kept.register in
    is_there_now (λ _. true) c.args.name.now (listed c.self.inside.ledger) c.in_ok-place.place c.index_mut.result.now (is.0, is.1, refl) c.index_mut.ensures.value

left : (c : After-run_on) → values_of (set_value_at c.self.inside.ledger.members.entries c.in_ok-place.place c.run_on.new.self) ≡ (if is_some c.run_on.result then ran c.args.name.now (listed c.self.inside.ledger) else listed c.self.inside.ledger)
left c = ran_listed c.args.name.now c.self.inside.ledger.members.entries c.in_ok-place.place c.index_mut.result.now c.run_on.new.self c.run_on.result (who c).only c.run_on.ensures.quantum c.run_on.ensures.member

pub invariant_of-self : goal.invariant_of-self
invariant_of-self c =
    let at = (goal.at.invariant_of-self c).After-run_on in
    record {
      few_heard = c.self.invariant.few_heard;
      admitted = c.self.invariant.admitted;
      begun = λ none. c.self.invariant.begun none ∙ sym (length_written c.self.inside.ledger.members.entries c.in_ok-place.place c.run_on.new.self);
      bounded = bounded_run c.self.inside.heard c.args.name.now (listed c.self.inside.ledger) _ (is_some c.run_on.result) (left at) c.self.invariant.bounded;
      kept = ledger_written (λ _. true) c.self.inside.ledger c.in_ok-place.place c.index_mut.result.now c.run_on.new.self c.self.invariant.kept c.index_mut.ensures.value refl refl (ran_like c.index_mut.result.now c.run_on.new.self c.run_on.ensures.member);
    }

pub returns-clause-quantum : goal.returns-clause-quantum
returns-clause-quantum c =
    c.run_on.ensures.quantum
    ∙ sym (ap (λ (o : Option Member). option_map quantum_of (running o)) (ap (λ (r : Roster). member_named r.members c.args.name.now) (sym c.self.view_is) ∙ ap (λ (ms : List Member). member_named ms c.args.name.now) (sym (filter_all (listed c.self.inside.ledger)))
    ∙ (who ((goal.at.returns-clause-quantum c).After-run_on)).found))

pub returns-clause-members : goal.returns-clause-members
returns-clause-members c = rw (← c.self.view_is) (roster_ran _ c.args.name.now _ (is_some c.run_on.result) (left ((goal.at.returns-clause-members c).After-run_on)))
