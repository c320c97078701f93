use Rattle.pfair_weight.specs.Name.{identical_names, tied_names, prefix_goes_first, first_byte_decides}
use Rattle.pfair_weight.proofs.laws.names_in_byte_order.Goals as goal

pub returns : goal.returns
returns c = record { identical = identical_names; tied = tied_names; prefix_first = prefix_goes_first; first_difference = first_byte_decides }
