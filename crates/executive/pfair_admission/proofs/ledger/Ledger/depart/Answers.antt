use Rattle.pfair_admission.proofs.Common.{whole, is_freed, not, refl, Bool, true, false, values_of, set_value_at, with_value_at, Share, units_of, Depart, Decision, departure, effect, member_named, present, earlier_of, is_there, listed, IsLedger, ◌≡◌, ℕ, ◌+◌, ◌-◌, ◌≤◌, cond, sym, ap, ◌∙◌, arith}
use Rattle.pfair_admission.proofs.Deciding.{departed, departed_like, is_written, none_decided, stood, claimed_written, is_there_now, within, IsThere}
use Rattle.pfair_admission.proofs.Registers.{ledger_changed}
use Rattle.pfair_admission.proofs.MemberLists.{first_earlier, not_before_own}
use Rattle.pfair_admission.proofs.ledger.Ledger.depart.Goals as goal
use Rattle.pfair_admission.proofs.ledger.Ledger.depart.Goals.{After-claim_of, After-depart-decision, After-has_come}

pub returns-in_default-clause-members : goal.returns-in_default-clause-members
returns-in_default-clause-members c = stood _ (none_decided (whole c.args.self.now).machine c.args.slot (listed c.args.self.now) (Depart c.args.name.now) (ap (departure c.args.slot) c.in_default.ensures.none))

pub index_mut-member-requires : goal.index_mut-member-requires
index_mut-member-requires c = within c.args.self.now.members.entries c.in-Some.place c.in-Some.ensures.some.0 c.in-Some.ensures.some.1.at

-- who departs
who : (c : After-depart-decision) → IsThere (is_there c.args.slot) c.args.name.now (listed c.args.self.now) c.in-Some.place c.index_mut-member.result.now
who c = is_there_now (is_there c.args.slot) c.args.name.now (listed c.args.self.now) c.in-Some.place c.index_mut-member.result.now c.in-Some.ensures.some c.index_mut-member.ensures.value

found : (c : After-depart-decision) → c.depart-decision.result ≡ departure c.args.slot (member_named (present c.args.slot (listed c.args.self.now)) c.args.name.now)
found c = c.depart-decision.ensures.decision ∙ ap (departure c.args.slot) (sym (who c).found)

-- the members that are left are those that are decided
left : (c : After-depart-decision) → present c.args.slot (values_of (set_value_at c.args.self.now.members.entries c.in-Some.place c.depart-decision.new.self))
    ≡ present c.args.slot (effect c.args.slot (present c.args.slot (listed c.args.self.now)) (Depart c.args.name.now) (departure c.args.slot (member_named (present c.args.slot (listed c.args.self.now)) c.args.name.now)))
left c =
    departed c.args.slot c.args.name.now c.index_mut-member.result.now c.depart-decision.new.self (present c.args.slot (listed c.args.self.now)) _ c.depart-decision.result
    (is_written (is_there c.args.slot) c.args.name.now c.args.self.now.members.entries c.in-Some.place c.index_mut-member.result.now c.depart-decision.new.self (who c).only (who c).counts_there) c.depart-decision.ensures.member
    ∙ ap (λ (d : Decision). present c.args.slot (effect c.args.slot (present c.args.slot (listed c.args.self.now)) (Depart c.args.name.now) d)) (found c)

-- what stays claimed
kept : (c : After-depart-decision) (claim : ℕ) → claim + cond (is_there c.args.slot c.depart-decision.new.self) 0 (units_of c.index_mut-member.result.now.weight c.args.self.now.frame) ≡ c.args.self.now.claim
    → IsLedger (is_there c.args.slot) (record c.args.self.now { members = with_value_at c.args.self.now.members c.in-Some.place c.depart-decision.new.self; claim = claim; first_freeing = earlier_of c.args.self.now.first_freeing c.depart-decision.new.self.freed_at })
kept c claim sum =
    let like = departed_like c.depart-decision.result c.index_mut-member.result.now c.depart-decision.new.self c.depart-decision.ensures.member in
    let first = c.args.self.now.first_freeing in
    let freed_at = c.depart-decision.new.self.freed_at in
    ledger_changed (is_there c.args.slot) c.args.self.now c.in-Some.place claim (earlier_of first freed_at) c.index_mut-member.result.now c.depart-decision.new.self c.requires c.index_mut-member.ensures.value (who c).counts_there like.0 like.1 sum
    (first_earlier first freed_at (listed c.args.self.now) c.requires.first) (not_before_own first freed_at)

-- whether it still counts
still : (c : After-has_come) (b : Bool) → c.has_come.result ≡ b → is_there c.args.slot c.depart-decision.new.self ≡ not b
still c b is = ap not (sym (ap (is_freed c.args.slot) c.freed_at-2.ensures.value) ∙ sym c.has_come.ensures ∙ is)

weighs : (c : After-claim_of) → c.claim_of.result ≡ units_of c.index_mut-member.result.now.weight c.args.self.now.frame
weighs c =
    let like = departed_like c.depart-decision.result c.index_mut-member.result.now c.depart-decision.new.self c.depart-decision.ensures.member in
    c.claim_of.ensures.value ∙ ap (λ (w : Share). units_of w c.args.self.now.frame) (c.weight.ensures.value ∙ like.1)

-- the units of a member that is gone are claimed
pub overflow_sub-self : goal.overflow_sub-self
overflow_sub-self c =
    let at = goal.at.overflow_sub-self c in
    let like = departed_like c.depart-decision.result c.index_mut-member.result.now c.depart-decision.new.self c.depart-decision.ensures.member in
    let was = claimed_written (is_there c.args.slot) c.args.self.now.frame (listed c.args.self.now) c.in-Some.place c.index_mut-member.result.now c.depart-decision.new.self c.index_mut-member.ensures.value (who at.After-depart-decision).counts_there like.1 in
    let free = ap (λ b. cond b 0 (units_of c.index_mut-member.result.now.weight c.args.self.now.frame)) (still at.After-has_come true c.if-has_come.true) in
    let value = weighs c in
    omega (arith, was, free, value, c.requires.total)

pub returns-then-has_come : goal.returns-then-has_come
returns-then-has_come c =
    let at = goal.at.returns-then-has_come c in
    let free = ap (λ b. cond b 0 (units_of c.index_mut-member.result.now.weight c.args.self.now.frame)) (still at.After-has_come true c.if-has_come.true) in
    let value = weighs at.After-claim_of in
    let within : c.claim_of.result ≤ c.args.self.now.claim = overflow_sub-self at.After-claim_of in
    record {
      decision = found at.After-depart-decision;
      members = stood _ (left at.After-depart-decision);
      kept = rw (c.earlier-self.ensures, c.freed_at.ensures.value) (kept at.After-depart-decision (c.args.self.now.claim - c.claim_of.result) (omega (arith, free, value, within)));
      admitted = refl;
    }

pub returns-else-has_come : goal.returns-else-has_come
returns-else-has_come c =
    let at = goal.at.returns-else-has_come c in
    let held = ap (λ b. cond b 0 (units_of c.index_mut-member.result.now.weight c.args.self.now.frame)) (still at.After-has_come false c.if-has_come.false) in
    record {
      decision = found at.After-depart-decision;
      members = stood _ (left at.After-depart-decision);
      kept = rw (c.earlier-self.ensures, c.freed_at.ensures.value) (kept at.After-depart-decision c.args.self.now.claim (omega (arith, held)));
      admitted = refl;
    }
