use Rattle.pfair_board.proofs.Common.{plan, replica_of_logs, has_first, subst, arith, None}
use Rattle.pfair_board.proofs.Working.{first_is, kept_plan, not_failed}
use Rattle.pfair_board.proofs.dispatchers.run_dispatchers_into.Goals as goal

pub unreachable-requires : goal.unreachable-requires
unreachable-requires g c =
    let works = c.in_ok-works.works.items in
    let at = first_is works c.swap_remove-kept.result (omega (arith, c.in_ok-works.ensures.count, c.processors-processors.ensures.value, c.processors-processors.ensures.limits)) c.swap_remove-kept.ensures.value in
    not_failed (has_first g.K.Sink.has) c.args.script.now _ 0 c.swap_remove-kept.result c.in_default.field-0 (c.in_ok-works.ensures.good 0 c.swap_remove-kept.result at) c.in_default.is

pub unreachable-requires-in_default-first : goal.unreachable-requires-in_default-first
unreachable-requires-in_default-first g c =
    let works = c.in_ok-works.works.items in
    let tables = plan None c.args.script.now.settings (replica_of_logs c.args.script.now.logs) in
    let at = first_is works c.swap_remove-kept.result (omega (arith, c.in_ok-works.ensures.count, c.processors-processors.ensures.value, c.processors-processors.ensures.limits)) c.swap_remove-kept.ensures.value in
    let kept : has_first g.K.Sink.has c.in-Ok.first 0 tables = kept_plan (has_first g.K.Sink.has) c.args.script.now _ 0 c.swap_remove-kept.result c.in-Ok.first (c.in_ok-works.ensures.good 0 c.swap_remove-kept.result at) c.in-Ok.is in
    subst (λ s. has_first g.K.Sink.has s 0 tables) c.in_default-first.is kept

pub returns-clause-plan : goal.returns-clause-plan
returns-clause-plan g c =
    let works = c.in_ok-works.works.items in
    let tables = plan None c.args.script.now.settings (replica_of_logs c.args.script.now.logs) in
    let at = first_is works c.swap_remove-kept.result (omega (arith, c.in_ok-works.ensures.count, c.processors-processors.ensures.value, c.processors-processors.ensures.limits)) c.swap_remove-kept.ensures.value in
    let kept : has_first g.K.Sink.has c.in-Ok.first 0 tables = kept_plan (has_first g.K.Sink.has) c.args.script.now _ 0 c.swap_remove-kept.result c.in-Ok.first (c.in_ok-works.ensures.good 0 c.swap_remove-kept.result at) c.in-Ok.is in
    record {
      plan = subst (λ s. has_first g.K.Sink.has s 0 tables) c.in-Some.is kept;
      far_enough = c.in_ok-works.ensures.far_enough;
    }
