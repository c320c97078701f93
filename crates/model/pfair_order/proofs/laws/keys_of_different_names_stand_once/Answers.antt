use Rattle.pfair_order.proofs.InOrder.{once_from_names}
use Rattle.pfair_order.proofs.laws.keys_of_different_names_stand_once.Goals as goal

pub returns : goal.returns
returns c keys names = once_from_names keys names
