use Rattle.pfair_admission.proofs.Common.{EachBounded, Roster, Membership, listed, membership, ◌≡◌, Some, sym, ap, subst, ◌∙◌, arith}
use Rattle.pfair_admission.proofs.Boundaries.{bounded_present}
use Rattle.pfair_admission.proofs.Deciding.{stood}
use Rattle.pfair_admission.proofs.Registers.{unswept_all}
use Rattle.pfair_admission.proofs.MemberLists.{present_all}
use Rattle.pfair_admission.proofs.members.Members.pass.Goals as goal
use Rattle.pfair_admission.proofs.members.Members.pass.Goals.{After-sweep}

pub sweep-requires : goal.sweep-requires
sweep-requires c = unswept_all c.args.slot c.self.inside.ledger c.self.invariant.kept

-- who is left is who stood last
left : (c : After-sweep) → record { machine = record { processors = c.sweep.new.self.processors; frame = c.sweep.new.self.frame }; members = listed c.sweep.new.self } ≡ membership c.args.slot c.self.inside.ledger
left c = stood _ (sym (present_all c.args.slot (listed c.sweep.new.self) c.sweep.ensures.gone)) ∙ c.sweep.ensures.same

pub invariant_of-self : goal.invariant_of-self
invariant_of-self c = record {
  few_heard = c.self.invariant.few_heard;
  admitted = omega (arith, c.sweep.ensures.admitted, c.self.invariant.admitted);
  begun = λ none. absurd (cc);
  bounded = subst (λ (s : Membership). EachBounded c.self.inside.heard s.members) (sym (left ((goal.at.invariant_of-self c).After-sweep)))
      (bounded_present c.self.inside.heard c.args.slot (listed c.self.inside.ledger) c.self.invariant.bounded);
  kept = c.sweep.ensures.kept;
}

pub returns : goal.returns
returns c =
    rw (← c.self.view_is)
    (ap roster (left ((goal.at.returns c).After-sweep)))
  where
    roster : Membership → Roster
    roster s = record { machine = s.machine; members = s.members; heard = c.self.inside.heard; last_slot = Some c.args.slot }
