use Rattle.pfair_admission.proofs.Common.{sum_by, LAST_SLOT, Member, carried_delays, delays_from, ◌≡◌, ◌≤◌, ◌+◌, ◌-◌, ◌*◌, ap, ◌∙◌, arith}
use Rattle.pfair_admission.proofs.Carrying.{carried_offset}
use Rattle.pfair_admission.proofs.incarnation.Incarnation.carried.Goals as goal
use Rattle.pfair_admission.proofs.incarnation.Incarnation.carried.Goals.{After-next-2}

-- its delays
delays : (c : After-next-2) → c.in_ok-delays.delays.items ≡ carried_delays c.args.self.now
delays c =
    let next = c.next.ensures.value in
    let jobs = c.jobs_done-jobs.ensures.value in
    let cost = c.cost.ensures.value ∙ ap (λ (x : Member). x.weight.cost) c.self.view_is in
    let own = c.deref.ensures.value ∙ ap (λ (x : Member). x.delays) c.self.view_is in
    c.in_ok-delays.ensures ∙ (λ i. delays_from (next i) (jobs i * cost i) (own i))

-- its offset after all of them
offset : (c : After-next-2) → c.self.inside.joined + c.jobs_done-jobs.result * c.period.result + sum_by (λ d. d.by) c.in_ok-delays.delays.items ≤ LAST_SLOT
offset c =
    carried_offset c.args.self.now c.jobs_done-jobs.result c.period.result c.self.inside.joined c.in_ok-delays.delays.items c.requires
    c.jobs_done-jobs.ensures.value (c.period.ensures.value ∙ ap (λ (x : Member). x.weight.period) c.self.view_is) (ap (λ (x : Member). x.joined) c.self.view_is) (delays c)

-- so many subtasks are earlier ones
low : (c : After-next-2) → c.jobs_done-jobs.result * c.cost.result ≤ c.next.result - 2
low c =
    let cost = c.cost.ensures.value ∙ ap (λ (x : Member). x.weight.cost) c.self.view_is in
    let same : c.jobs_done-jobs.result * c.cost.result ≡ c.jobs_done-jobs.result * c.args.self.now.weight.cost = ap (λ n. c.jobs_done-jobs.result * n) cost in
    omega (arith, same, c.jobs_done-jobs.ensures.subtasks, c.next.ensures.value)

pub returns-clause-member : goal.returns-clause-member
returns-clause-member c =
    let at = (goal.at.returns-clause-member c).After-next-2 in
    record {
      first = (let room = low at in omega (arith, room, c.next.ensures.value, c.next-2.ensures.value, c.next.ensures.member.first));
      last = omega (arith, c.next-2.ensures.value, c.next-2.ensures.member.last);
      offset = omega (arith, offset at);
    }

pub returns-clause-state : goal.returns-clause-state
returns-clause-state c =
    let at = (goal.at.returns-clause-state c).After-next-2 in
    let is = c.self.view_is in
    let jobs = c.jobs_done-jobs.ensures.value in
    let cost = c.cost.ensures.value ∙ ap (λ (x : Member). x.weight.cost) is in
    let period = c.period.ensures.value ∙ ap (λ (x : Member). x.weight.period) is in
    let next = c.next-2.ensures.value in
    let late = delays at in
    λ i. record {
      name = (is i).name;
      weight = (is i).weight;
      early = (is i).early;
      joined = (is i).joined + jobs i * period i;
      delays = late i;
      next = next i - jobs i * cost i;
      freed_at = (is i).freed_at;
    }
