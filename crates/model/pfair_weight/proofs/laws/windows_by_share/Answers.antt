use Rattle.pfair_weight.specs.WindowFacts.{opened_by_share, not_closed_by_share}
use Rattle.pfair_weight.proofs.laws.windows_by_share.Goals as goal

pub returns : goal.returns
returns c = record { opened = λ w i theta s h. opened_by_share w i theta s h.some_cost; not_closed = λ w i theta s h. not_closed_by_share w i theta s h.some_cost }
