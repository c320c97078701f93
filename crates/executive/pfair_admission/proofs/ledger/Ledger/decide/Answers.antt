use Rattle.pfair_admission.proofs.Common.{CanJoin, Delay, List, Membership, Admitted, arrival, newcomer, member_named, present, is_there, listed, refl, whole, None, ◌≡◌, ◌++◌, ◌∷◌, [], sym, ap, ◌∙◌, arith}
use Rattle.pfair_admission.proofs.Deciding.{arrived, not_arrived, stood, taken}
use Rattle.pfair_admission.proofs.Registers.{can_join}
use Rattle.pfair_admission.proofs.MemberLists.{none_freed_present}
use Rattle.pfair_admission.proofs.Restoring.{arrival_taken}
use Rattle.pfair_admission.proofs.ledger.Ledger.decide.Goals as goal
use Rattle.pfair_admission.proofs.ledger.Ledger.decide.Goals.{After-arrival_by_weight-decision}

pub returns-then-is_some-clause-decided : goal.returns-then-is_some-clause-decided
returns-then-is_some-clause-decided c =
    let ms = present c.args.slot (listed c.args.self.now) in
    let some = taken (is_there c.args.slot) c.in-Arrive.name (listed c.args.self.now) c.place_of.result (sym c.is_some.ensures ∙ c.if-is_some.true) c.place_of.ensures.some in
    rw c.in-Arrive.is (not_arrived (whole c.args.self.now).machine c.args.slot ms c.in-Arrive.name c.in-Arrive.weight c.in-Arrive.early _ (none_freed_present c.args.slot (listed c.args.self.now)) (λ other. absurd (cc)) (sym (arrival_taken (whole c.args.self.now).machine ms c.in-Arrive.name c.in-Arrive.weight some)))

-- what is decided on the name and the weight
beside : (c : After-arrival_by_weight-decision) → c.arrival_by_weight-decision.result ≡ arrival (whole c.args.self.now).machine (present c.args.slot (listed c.args.self.now)) c.in-Arrive.name c.in-Arrive.weight
beside c =
    let free : member_named (present c.args.slot (listed c.args.self.now)) c.in-Arrive.name ≡ None = grind arith in
    c.arrival_by_weight-decision.ensures (present c.args.slot (listed c.args.self.now)) c.in-Arrive.name free (sym c.requires.kept.total)

can : (c : After-arrival_by_weight-decision) → c.arrival_by_weight-decision.result ≡ Admitted → CanJoin (is_there c.args.slot) c.args.self.now (newcomer c.args.slot c.in-Arrive.name c.in-Arrive.weight c.in-Arrive.early)
can c is = can_join (is_there c.args.slot) c.args.self.now (newcomer c.args.slot c.in-Arrive.name c.in-Arrive.weight c.in-Arrive.early) c.requires.kept c.requires.numbers refl (sym is ∙ beside c)

pub add-requires-clause-room : goal.add-requires-clause-room
add-requires-clause-room c = (is_there c.args.slot, rw c.new.ensures.items (can ((goal.at.add-requires-clause-room c).After-arrival_by_weight-decision) c.in-Admitted.is))

pub returns-in_ok-add-in-Arrive-clause-decided : goal.returns-in_ok-add-in-Arrive-clause-decided
returns-in_ok-add-in-Arrive-clause-decided c =
    let at = (goal.at.returns-in_ok-add-in-Arrive-clause-decided c).After-arrival_by_weight-decision in
    let ms = listed c.args.self.now in
    let all = c.in_ok-add-in-Arrive.ensures.members ∙ ap (λ (ds : List Delay). record (whole c.args.self.now) { members = ms ++ record (newcomer c.args.slot c.in-Arrive.name c.in-Arrive.weight c.in-Arrive.early) { delays = ds } ∷ [] }) c.new.ensures.items in
    rw c.in-Arrive.is (record {
      decision = beside at;
      members = ap (λ (s : Membership). record s { members = present c.args.slot s.members }) all
          ∙ stood _ (arrived (whole c.args.self.now).machine c.args.slot ms c.in-Arrive.name c.in-Arrive.weight c.in-Arrive.early (sym c.in-Admitted.is ∙ beside at));
      err = tt;
    })

pub returns-in_default : goal.returns-in_default
returns-in_default c = record {
  decided = rw c.in-Arrive.is (not_arrived (whole c.args.self.now).machine c.args.slot (present c.args.slot (listed c.args.self.now)) c.in-Arrive.name c.in-Arrive.weight c.in-Arrive.early _ (none_freed_present c.args.slot (listed c.args.self.now)) c.in_default.not-Admitted
      (beside ((goal.at.returns-in_default c).After-arrival_by_weight-decision)));
  kept = c.requires.kept;
  admitted = omega arith;
}
