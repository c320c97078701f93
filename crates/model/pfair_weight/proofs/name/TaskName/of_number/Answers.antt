use Rattle.pfair_weight.proofs.Common.{w128, to_be_bytes, before_zero, ◌∙◌, sym, ap}
use Rattle.pfair_weight.specs.Name.{name_of}
use Rattle.pfair_weight.proofs.ByteOrder.{number_bytes}
use Rattle.pfair_weight.proofs.name.TaskName.of_number.Goals as goal

pub invariant_of-result : goal.invariant_of-result
unfolding name_of
invariant_of-result c = rw c.to_be_bytes.ensures (record {
  named = c.requires.named;
  padded_with_zeros = ap (to_be_bytes w128) (sym c.requires.same) ∙ number_bytes (name_of c.args.number) c.requires.named;
})

pub returns : goal.returns
unfolding name_of
returns c = ap before_zero c.to_be_bytes.ensures
