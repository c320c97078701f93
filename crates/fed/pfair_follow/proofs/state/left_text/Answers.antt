-- What the next run begins with is what this one left.
use Rattle.std.proofs.Common.{refl, inl, inr}
use Rattle.pfair_follow.proofs.Ends.{left_there, no_memory}
use Rattle.pfair_follow.proofs.state.left_text.Goals as goal

pub returns-in-Ok-clause-text : goal.returns-in-Ok-clause-text
returns-in-Ok-clause-text g c = left_there _ c.args.dispatcher.now c.in-Ok.next c.began_text.result c.in-Ok.ensures.course c.began_text.ensures.text

pub returns-in-Ok-clause-fault : goal.returns-in-Ok-clause-fault
returns-in-Ok-clause-fault g c = no_memory c.began_text.result c.began_text.ensures.memory (λ e is. inl is)

pub returns-in-Err-clause-fault : goal.returns-in-Err-clause-fault
returns-in-Err-clause-fault g c = inr (c.in-Err.fault, refl, c.in-Err.ensures.fault)
