use Rattle.pfair_board.proofs.Common.{arith, ReplicaRows, replica_of, subst, sym, Below}
use Rattle.pfair_board.proofs.worker.Worker.catch_up.Goals as goal

pub plan_next-requires-clause-above : goal.plan_next-requires-clause-above
plan_next-requires-clause-above g c =
    subst (λ (h : ReplicaRows). Below (replica_of c.loop-planned.self.planner.replica) (replica_of h)) (sym c.replica-replica.ensures.value) c.loop-planned.invariant.at_work.below

-- a run has no slot after its last
pub unreachable-requires : goal.unreachable-requires
unreachable-requires g c = grind (arith)
