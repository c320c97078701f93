use Rattle.pfair_table.proofs.Common.{ReplicaRows, SameShape, replica_of, Below, AreReadFrom, Dispatch, IsKept, tables_to, decided_to, ◌≡◌, false, sym, ap, subst, None}
use Rattle.pfair_table.proofs.Keeping.{kept_above}
use Rattle.pfair_table.proofs.ReadOn.{readings_above}
use Rattle.pfair_table.proofs.slot_planner.SlotPlanner.see.Goals as goal

pub invariant_of-self : goal.invariant_of-self
invariant_of-self g c =
    let a = c.self.inside in
    let held_is = sym (ap (λ (d : Dispatch). d.replica) c.self.view_is) in
    let above = subst (λ (h : ReplicaRows). Below (replica_of h) (replica_of c.args.replica.now)) held_is c.requires.above in
    let shape = subst (λ (h : ReplicaRows). SameShape h c.args.replica.now) held_is c.requires.shape in
    subst (λ (h : ReplicaRows). IsKept None a.planner.settings (replica_of h) (tables_to None a.planner.settings a.of.value a.planned) (decided_to None a.planner.settings a.of.value a.planned) a.planner.spent a.planner.members (g.R.Ready.now a.planner.ready) (g.R.Ready.held a.planner.ready)
    × (a.planner.spent ≡ false → AreReadFrom (replica_of h) a.planner.readings)) (sym c.of.ensures)
    (kept_above c.self.invariant.0 above (sym shape.0) (sym shape.1), λ able. readings_above (c.self.invariant.1 able) above (sym shape.0) (sym shape.1))
