use Rattle.pfair_state.proofs.Common.{AllByRecursion, IsSpelled, late_said, own_said, arith, common_steps}
use Rattle.pfair_state.proofs.RowsSpelled.{member_spelled}
use Rattle.pfair_state.proofs.write.add_member.Goals as goal

pub returns-clause-spelled : goal.returns-clause-spelled
returns-clause-spelled c =
    let late : AllByRecursion (λ d. IsSpelled (late_said c.name.result.now d)) c.delays-delays.result.now = grind (arith, common_steps) in
    let own : IsSpelled (own_said c.args.member.now) = grind (arith, common_steps) in
    member_spelled c.args.member.now c.name.result.now c.delays-delays.result.now c.name.ensures.value c.delays-delays.ensures.value own late
