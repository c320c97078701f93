use Rattle.pfair_replica.proofs.Common.{common_steps, lt-ltb, Torn, held, replica_of, torn_in, fallen_in, arith, inl, inr, ◌≡◌, ◌≢◌, ◌+◌, ◌<◌, ap, Some, []}
use Rattle.pfair_replica.proofs.TornKeys.{flat_next, flat_some, torn_listed}
use Rattle.pfair_replica.proofs.Merging.{on_err_here}
use Rattle.pfair_replica.proofs.replica.Replica.faults.Goals as goal

pub loop-processor-preserved : goal.loop-processor-preserved
loop-processor-preserved c = grind (arith, common_steps, flat_next)

pub returns-in_err-push-clause-wanted : goal.returns-in_err-push-clause-wanted
returns-in_err-push-clause-wanted c =
    let processors = ap (λ x. x.processors) c.self.view_is in
    let capacity = ap (λ x. x.capacity) c.self.view_is in
    let low : c.loop-processor.processor < c.args.self.now.processors = omega arith in
    let in_log : c.loop-before.before < c.args.self.now.capacity = omega arith in
    let torn : held c.args.self.now c.loop-processor.processor (c.loop-before.before + 1) ≡ Some Torn = cc (c.get.ensures.value, c.in-Some-Torn.is, c.in-Some-Torn.field-0-is) in
    on_err_here c.from_residual.result (inl (flat_some (torn_in (replica_of c.args.self.now)) _ _ low (torn_listed (replica_of c.args.self.now) _ _ in_log torn)))

pub returns-in_err-push-in-Some-One-clause-wanted : goal.returns-in_err-push-in-Some-One-clause-wanted
returns-in_err-push-in-Some-One-clause-wanted c =
    let processors = ap (λ x. x.processors) c.self.view_is in
    let low : c.loop-processor.processor < c.args.self.now.processors = omega arith in
    let fallen : fallen_in (replica_of c.args.self.now) c.loop-processor.processor ≢ [] = grind (arith, common_steps, lt-ltb) in
    on_err_here c.from_residual-in_err-push-in-Some-One.result (inr (flat_some (fallen_in (replica_of c.args.self.now)) _ _ low fallen))
