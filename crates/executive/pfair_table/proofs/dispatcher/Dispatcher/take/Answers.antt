use Rattle.pfair_table.proofs.Common.{sym}
use Rattle.pfair_table.proofs.Keeping.{kept_above}
use Rattle.pfair_table.proofs.ReadOn.{readings_above}
use Rattle.pfair_table.proofs.dispatcher.Dispatcher.take.Goals as goal

pub invariant_of-self : goal.invariant_of-self
invariant_of-self g c = (
  kept_above c.self.invariant.0 c.take.ensures.grows (sym c.take.ensures.shape.0) (sym c.take.ensures.shape.1),
  λ able. readings_above (c.self.invariant.1 able) c.take.ensures.grows (sym c.take.ensures.shape.0) (sym c.take.ensures.shape.1),
  c.self.invariant.2,
)
