use Rattle.pfair_admission.proofs.Common.{arrival, claimed, Member, Membership, EachBounded, CanBeRestored, CanJoin, IsLeftAt, Refusal, Refused, Admitted, listed, whole, member_in, Roster, ◌≡◌, ◌++◌, ◌∷◌, [], true, List, refl, sym, subst, ap, ◌∙◌, arith, length}
use Rattle.pfair_admission.proofs.Registers.{can_join}
use Rattle.pfair_admission.proofs.Deciding.{filter_all}
use Rattle.pfair_admission.proofs.Restoring.{admitted_else, arrival_taken, bounded_joined, is_left, left_at, length_joined, length_values, name_found, name_free}
use Rattle.pfair_admission.proofs.members.Members.restore.Goals as goal
use Rattle.pfair_admission.proofs.members.Members.restore.Goals.{After-arrival_by_weight}

pub returns-then-is_some-clause-fault : goal.returns-then-is_some-clause-fault
returns-then-is_some-clause-fault c =
    let a = c.self.inside.ledger in
    subst (λ (r : Roster). arrival r.machine r.members c.args.state.name c.args.state.weight ≡ _) c.self.view_is (arrival_taken (whole a).machine (listed a) c.args.state.name c.args.state.weight
    (name_found c.args.state.name (listed a) c.find.result (c.find.ensures (λ _. true) c.self.invariant.kept.register) (sym c.is_some.ensures ∙ c.if-is_some.true)))

-- what is decided on the name and the weight
beside : (c : After-arrival_by_weight) → c.arrival_by_weight.result ≡ arrival (whole c.self.inside.ledger).machine (listed c.self.inside.ledger) c.args.state.name c.args.state.weight
beside c =
    let a = c.self.inside.ledger in
    c.arrival_by_weight.ensures (listed a) c.args.state.name
    (name_free c.args.state.name (listed a) c.find.result (c.find.ensures (λ _. true) c.self.invariant.kept.register) (sym c.is_some.ensures ∙ c.if-is_some.false))
    (sym (c.self.invariant.kept.total ∙ ap (claimed a.frame) (filter_all (listed a))))

pub returns-in-Refused-clause-fault : goal.returns-in-Refused-clause-fault
returns-in-Refused-clause-fault c =
    subst (λ (r : Roster). arrival r.machine r.members c.args.state.name c.args.state.weight ≡ Refused c.in-Refused.refusal) c.self.view_is (sym (beside ((goal.at.returns-in-Refused-clause-fault c).After-arrival_by_weight)) ∙ c.in-Refused.is)

pub returns-then-not-is_left_at-clause-fault : goal.returns-then-not-is_left_at-clause-fault
returns-then-not-is_left_at-clause-fault c left = let is = is_left c.args.slot (member_in c.args.state) left in absurd (let no = sym c.is_left_at.ensures.value ∙ c.if-not-is_left_at.true in cc)

admitted : (c : After-arrival_by_weight) → ((refusal : Refusal) → c.arrival_by_weight.result ≡ Refused refusal → ⊥) → Admitted ≡ arrival (whole c.self.inside.ledger).machine (listed c.self.inside.ledger) c.args.state.name c.args.state.weight
admitted c other = admitted_else (whole c.self.inside.ledger).machine (listed c.self.inside.ledger) c.args.state.name c.args.state.weight c.arrival_by_weight.result (beside c) other

can : (c : After-arrival_by_weight) → ((refusal : Refusal) → c.arrival_by_weight.result ≡ Refused refusal → ⊥) → CanJoin (λ _. true) c.self.inside.ledger (member_in c.args.state)
can c other =
    let a = c.self.inside.ledger in
    let begun = c.self.invariant.begun (ap (λ (r : Roster). r.last_slot) c.self.view_is ∙ c.requires) in
    can_join (λ _. true) a (member_in c.args.state) c.self.invariant.kept (omega (arith, begun, c.if-prove.false, c.len.ensures.len, length_values a.members.entries)) refl
    (admitted c other ∙ ap (λ (ms : List Member). arrival (whole a).machine ms c.args.state.name c.args.state.weight) (sym (filter_all (listed a))))

pub add-requires-clause-room : goal.add-requires-clause-room
add-requires-clause-room c = (λ _. true, can ((goal.at.add-requires-clause-room c).After-arrival_by_weight) c.in_default.not-Refused)

pub invariant_of-self : goal.invariant_of-self
invariant_of-self c =
    let same = ap (λ (s : Membership). length s.members) c.in_err-add.ensures.err in
    record {
      few_heard = c.self.invariant.few_heard;
      admitted = omega (arith, same, c.in_err-add.ensures.numbers, c.self.invariant.admitted);
      begun = λ none. (let begun = c.self.invariant.begun none in omega (arith, same, begun, c.in_err-add.ensures.numbers));
      bounded = subst (λ (s : Membership). EachBounded c.self.inside.heard s.members) (sym c.in_err-add.ensures.err) c.self.invariant.bounded;
      kept = c.in_err-add.ensures.kept (λ _. true) (can ((goal.at.invariant_of-self c).After-arrival_by_weight) c.in_default.not-Refused);
    }

-- it is one that a run can have left
fit : (c : After-arrival_by_weight) → ((refusal : Refusal) → c.arrival_by_weight.result ≡ Refused refusal → ⊥) → IsLeftAt c.args.slot (member_in c.args.state) → CanBeRestored (whole c.self.inside.ledger).machine c.args.slot (listed c.self.inside.ledger) (member_in c.args.state)
fit c other left = record { admitted = sym (admitted c other); left = left }

pub invariant_of-self-2 : goal.invariant_of-self-2
invariant_of-self-2 c =
    let a = c.self.inside.ledger in
    let at = goal.at.invariant_of-self-2 c in
    let begun = c.self.invariant.begun (ap (λ (r : Roster). r.last_slot) c.self.view_is ∙ c.requires) in
    let is = c.in_ok-add.ensures.members in
    let more = length_joined (whole a) (whole c.add.new.self) (member_in c.args.state) is in
    record {
      few_heard = c.self.invariant.few_heard;
      admitted = omega (arith, begun, more, c.in_ok-add.ensures.numbers, c.if-prove.false, c.len.ensures.len, length_values a.members.entries);
      begun = λ _. omega (arith, begun, more, c.in_ok-add.ensures.numbers);
      bounded = bounded_joined c.self.inside.heard c.args.slot (whole a).machine (whole a) (whole c.add.new.self) (member_in c.args.state) (fit at.After-arrival_by_weight c.in_default.not-Refused (left_at c.args.slot (member_in c.args.state) c.is_left_at.ensures.weight (sym c.is_left_at.ensures.value ∙ c.if-not-is_left_at.false))) is c.self.invariant.bounded;
      kept = c.in_ok-add.ensures.kept (λ _. true) (can at.After-arrival_by_weight c.in_default.not-Refused);
    }

pub returns-clause-fit : goal.returns-clause-fit
returns-clause-fit c =
    subst (λ (r : Roster). CanBeRestored r.machine c.args.slot r.members (member_in c.args.state)) c.self.view_is (fit ((goal.at.returns-clause-fit c).After-arrival_by_weight) c.in_default.not-Refused (left_at c.args.slot (member_in c.args.state) c.is_left_at.ensures.weight (sym c.is_left_at.ensures.value ∙ c.if-not-is_left_at.false)))

pub returns-clause-members : goal.returns-clause-members
returns-clause-members c =
    ap (λ (s : Membership). record { machine = s.machine; members = s.members; heard = c.self.inside.heard; last_slot = c.self.inside.last_slot }) c.in_ok-add.ensures.members
    ∙ ap (λ (r : Roster). record r { members = r.members ++ member_in c.args.state ∷ [] }) c.self.view_is
