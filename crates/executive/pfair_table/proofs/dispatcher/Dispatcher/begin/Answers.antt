use Rattle.pfair_table.proofs.Common.{Replica, empty_replica, replica_of, PlannedSlots, IsKept, Settings, ◌≡◌, ◌∙◌, sym, ap, subst, arith, Bool}
use Rattle.pfair_table.proofs.Keeping.{start_kept}
use Rattle.pfair_table.proofs.dispatcher.Dispatcher.begin.Goals as goal

pub invariant_of-result : goal.invariant_of-result
invariant_of-result g c =
    let q = c.processors.ensures.value in
    let x : Replica = replica_of c.in_ok-replica.replica in
    let cap : x.capacity ≡ c.args.capacity = ap (λ (r : Replica). r.capacity) c.in_ok-replica.ensures in
    let few = c.requires.shape in
    let p = c.in_ok-planner.planner in
    let start = c.in_ok-planner.ensures in (
      subst (λ (d : PlannedSlots × Settings × Bool). IsKept d.0.origin d.1 x d.0.tables d.0.decided d.2 p.members (g.R.Ready.now p.ready) (g.R.Ready.held p.ready))
          (λ i. (sym c.new-3.ensures i, sym start.settings i, sym start.able i))
          (start_kept c.requires.origin (c.in_ok-replica.ensures ∙ (λ i. empty_replica (q i) (sym cap i))) (omega (arith, cap, few)) (start.step x)),
      λ _. start.readings x (ap (λ (r : Replica). r.processors) c.in_ok-replica.ensures ∙ q),
      ap (λ (d : PlannedSlots). d.settings) c.new-3.ensures ∙ sym start.settings,
    )
