use Rattle.pfair_state.proofs.OneText.{one_text}
use Rattle.pfair_state.proofs.laws.states_have_one_text.Goals as goal

pub returns : goal.returns
returns c = one_text
