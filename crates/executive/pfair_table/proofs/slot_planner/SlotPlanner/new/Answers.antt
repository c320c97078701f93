use Rattle.pfair_table.proofs.Common.{none-some, Replica, empty_replica, ReplicaRows, replica_of, IsKept, AreReadFrom, Settings, refl, sym, subst, arith, Bool, false, [], None}
use Rattle.pfair_table.proofs.Keeping.{start_kept, kept_above}
use Rattle.pfair_table.proofs.slot_planner.SlotPlanner.new.Goals as goal

pub invariant_of-result : goal.invariant_of-result
invariant_of-result g c =
    let s = c.args.settings in
    let x : Replica = replica_of c.args.replica.now in
    let p = c.in_ok-planner.planner in
    let nothing : Replica = empty_replica s.processors x.capacity in
    let room = c.processors.ensures.rows.shape.capacity_in_range in
    let kept : IsKept None s x [] [] false p.members (g.R.Ready.now p.ready) (g.R.Ready.held p.ready) =
    kept_above
    (start_kept {o = None} {x = nothing} tt refl (omega (arith, room)) (c.in_ok-planner.ensures.step nothing))
    (λ k n e h. absurd (none-some e h)) c.requires refl in (
      subst (λ (q : ReplicaRows × Settings × Bool). IsKept None q.1 (replica_of q.0) [] [] q.2 p.members (g.R.Ready.now p.ready) (g.R.Ready.held p.ready))
          (λ i. (sym c.of.ensures i, sym c.in_ok-planner.ensures.settings i, sym c.in_ok-planner.ensures.able i)) kept,
      λ _. subst (λ (h : ReplicaRows). AreReadFrom (replica_of h) p.readings) (sym c.of.ensures) (c.in_ok-planner.ensures.readings x c.requires),
    )
