use Rattle.pfair_admission.proofs.Common.{MAX_HEARD, announcements, EachBounded, Roster, NoneFreed, Membership, decisions_on, is_there, listed, membership, ◌≡◌, ◌+◌, ◌-◌, length, sym, ap, subst, ◌∙◌, arith, IfOk}
use Rattle.pfair_admission.proofs.Boundaries.{begun, bounded_later, bounded_present, decided_err, decided_ok, with_heard}
use Rattle.pfair_admission.proofs.Deciding.{stood, filter_again}
use Rattle.pfair_admission.proofs.Registers.{kept_less, unswept_rest}
use Rattle.pfair_admission.proofs.MemberLists.{none_freed_present, present_all}
use Rattle.pfair_admission.proofs.members.Members.boundary.Goals as goal
use Rattle.pfair_admission.proofs.members.Members.boundary.Goals.{After-sweep}

pub decide_all-decisions-requires-clause-able : goal.decide_all-decisions-requires-clause-able
decide_all-decisions-requires-clause-able c =
    let n = MAX_HEARD - length c.args.announced.now in
    let heard = ap (λ (r : Roster). r.heard) (c.self.view_is ∙ c.pass.ensures) in
    record {
      kept = kept_less c.args.slot c.self.inside.ledger
          (subst (λ (r : Roster). NoneFreed c.args.slot r.members) (sym (c.self.view_is ∙ c.pass.ensures)) (none_freed_present c.args.slot c.args.self.now.members)) c.self.invariant.kept;
      few = omega (arith, c.requires.heard);
      numbers = omega (arith, heard, c.requires.heard, c.self.invariant.admitted);
      bounded = bounded_present n c.args.slot (listed c.self.inside.ledger) (bounded_later c.self.inside.heard n (omega (arith, heard, c.requires.heard)) (listed c.self.inside.ledger) c.self.invariant.bounded);
    }

pub sweep-requires : goal.sweep-requires
sweep-requires c = unswept_rest c.args.slot c.decide_all-decisions.new.self c.decide_all-decisions.ensures.ledger.kept

-- who is decided on is who isn't freed
start : (c : After-sweep) → membership c.args.slot c.self.inside.ledger ≡ begun c.args.slot c.args.self.now
start c = ap (begun c.args.slot) (c.self.view_is ∙ c.pass.ensures) ∙ stood _ (filter_again (is_there c.args.slot) c.args.self.now.members)

-- who is left is who stood last
left : (c : After-sweep) → record { machine = record { processors = c.sweep.new.self.processors; frame = c.sweep.new.self.frame }; members = listed c.sweep.new.self } ≡ membership c.args.slot c.decide_all-decisions.new.self
left c = stood _ (sym (present_all c.args.slot (listed c.sweep.new.self) c.sweep.ensures.gone)) ∙ c.sweep.ensures.same

after : (c : After-sweep) → record { machine = record { processors = c.sweep.new.self.processors; frame = c.sweep.new.self.frame }; members = listed c.sweep.new.self; heard = c.self.inside.heard + length c.args.announced.now; last_slot = c.self.inside.last_slot }
    ≡ with_heard c.args.slot c.args.announced.now c.args.self.now (membership c.args.slot c.decide_all-decisions.new.self)
after c = let was = c.self.view_is ∙ c.pass.ensures in let heard = ap (λ (r : Roster). r.heard) was in let last = ap (λ (r : Roster). r.last_slot) was in let so = left c in let machine = ap (λ (s : Membership). s.machine) so in let members = ap (λ (s : Membership). s.members) so in cc

pub invariant_of-self : goal.invariant_of-self
invariant_of-self c =
    let heard = ap (λ (r : Roster). r.heard) (c.self.view_is ∙ c.pass.ensures) in
    record {
      few_heard = omega (arith, heard, c.requires.heard);
      admitted = omega (arith, c.decide_all-decisions.ensures.ledger.admitted, c.sweep.ensures.admitted, c.self.invariant.admitted);
      begun = (let last = ap (λ (r : Roster). r.last_slot) (c.self.view_is ∙ c.pass.ensures) in λ none. absurd (cc));
      bounded = subst (λ (s : Membership). EachBounded (c.self.inside.heard + length c.args.announced.now) s.members) (sym (left ((goal.at.invariant_of-self c).After-sweep)))
          (c.decide_all-decisions.ensures.ledger.bounded c.self.inside.heard (bounded_present c.self.inside.heard c.args.slot (listed c.self.inside.ledger) c.self.invariant.bounded));
      kept = c.sweep.ensures.kept;
    }

pub returns-clause-decisions : goal.returns-clause-decisions
returns-clause-decisions c =
    subst (λ (s : Membership). IfOk c.decide_all-decisions.result (λ all. all.items ≡ decisions_on c.args.slot (announcements c.args.announced.now) s)) (start ((goal.at.returns-clause-decisions c).After-sweep)) c.decide_all-decisions.ensures.decisions

pub returns-clause-members : goal.returns-clause-members
returns-clause-members c =
    let at = (goal.at.returns-clause-members c).After-sweep in
    decided_ok c.decide_all-decisions.result c.args.slot c.args.announced.now c.args.self.now _ (start at) (after at) c.decide_all-decisions.ensures.members

pub returns-clause-err : goal.returns-clause-err
returns-clause-err c =
    let at = (goal.at.returns-clause-err c).After-sweep in
    decided_err c.decide_all-decisions.result c.args.slot c.args.announced.now c.args.self.now _ (start at) (after at) c.decide_all-decisions.ensures.err
