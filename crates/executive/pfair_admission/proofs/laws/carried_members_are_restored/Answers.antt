use Rattle.pfair_admission.proofs.Restoring.{in_turn, left_carried}
use Rattle.pfair_admission.proofs.laws.carried_members_are_restored.Goals as goal

pub returns : goal.returns
returns c = record { left = left_carried; in_turn = in_turn }
