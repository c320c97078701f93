use Rattle.pfair_weight.proofs.Common.{w128, leading_zeros, ◌-◌, ◌/◌, ◌∙◌, ap, length}
use Rattle.pfair_weight.proofs.Length.{name_length}
use Rattle.pfair_weight.proofs.name.TaskName.length.Goals as goal

pub returns : goal.returns
returns c = (λ i. 16 - leading_zeros w128 (c.from_le_bytes-unused_bits.ensures i) / 8) ∙ name_length c.self.inside c.self.invariant c.self.told ∙ ap length c.self.view_is
