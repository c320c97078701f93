use Rattle.std.proofs.Common.{nat_le}
use Rattle.pfair_admission.proofs.Common.{sum_by, MAX_OFFSET, ◌≤◌, ◌+◌, ap, arith}
use Rattle.pfair_admission.proofs.MemberLists.{sum_filter}
use Rattle.pfair_admission.proofs.incarnation.Incarnation.theta.Goals as goal
use Rattle.pfair_admission.proofs.incarnation.Incarnation.theta.Goals.{After-delay_up_to}

-- a part of the delays comes to no more than all of them
within : (c : After-delay_up_to) → c.self.inside.joined + c.delay_up_to.result ≤ MAX_OFFSET
within c =
    let part = sum_filter (λ d. d.by) (λ d. nat_le d.index c.args.index) c.deref.result.now in
    let all = ap (sum_by (λ d. d.by)) c.deref.ensures.value in
    omega (arith, part, all, c.delay_up_to.ensures, c.self.invariant.member.offset)

pub overflow_add-result : goal.overflow_add-result
overflow_add-result c = let fits = within ((goal.at.overflow_add-result c).After-delay_up_to) in omega (arith, fits)

pub returns-clause-within : goal.returns-clause-within
returns-clause-within c = within ((goal.at.returns-clause-within c).After-delay_up_to)
