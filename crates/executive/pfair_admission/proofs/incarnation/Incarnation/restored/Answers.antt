use Rattle.pfair_admission.proofs.Common.{common_steps, arith, sum_by_more_le, take_more, sum_by, Delay, ap}
use Rattle.pfair_admission.proofs.incarnation.Incarnation.restored.Goals as goal

pub put_off-requires : goal.put_off-requires
put_off-requires c =
    let part = sum_by_more_le (λ (d : Delay). d.by) c.deref-delay-items.result.now c.loop-delay.delay-index (record { index = 0; by = 0 }) c.loop-delay-test.true in
    let all = ap (sum_by (λ (d : Delay). d.by)) c.deref-delay-items.ensures.value in
    grind arith

pub loop-delay-preserved : goal.loop-delay-preserved
loop-delay-preserved c = grind (arith, common_steps, take_more)

pub invariant_of-member : goal.invariant_of-member
invariant_of-member c = grind (arith, common_steps)
