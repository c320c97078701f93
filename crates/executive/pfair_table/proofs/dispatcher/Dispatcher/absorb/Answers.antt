use Rattle.pfair_table.proofs.Common.{Dispatch, sym, subst, IfErr}
use Rattle.pfair_replica.specs.Faults.{IsMergeFaultOf}
use Rattle.pfair_table.proofs.Keeping.{kept_above}
use Rattle.pfair_table.proofs.ReadOn.{readings_above}
use Rattle.pfair_table.proofs.dispatcher.Dispatcher.absorb.Goals as goal

pub invariant_of-self : goal.invariant_of-self
invariant_of-self g c = (
  kept_above c.self.invariant.0 c.merge.ensures.grows (sym c.merge.ensures.shape.0) (sym c.merge.ensures.shape.1),
  λ able. readings_above (c.self.invariant.1 able) c.merge.ensures.grows (sym c.merge.ensures.shape.0) (sym c.merge.ensures.shape.1),
  c.self.invariant.2,
)

pub returns-clause-fault : goal.returns-clause-fault
returns-clause-fault g c = subst (λ (d : Dispatch). IfErr c.merge.result (IsMergeFaultOf d.replica c.args.other.now)) c.self.view_is c.merge.ensures.fault
