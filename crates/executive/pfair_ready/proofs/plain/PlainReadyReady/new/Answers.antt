use Rattle.pfair_ready.proofs.Common.{apart_nil}
use Rattle.pfair_ready.proofs.WaitingLemmas.{name_of}
use Rattle.pfair_ready.proofs.plain.PlainReadyReady.new.Goals as goal

pub invariant_of-result : goal.invariant_of-result
invariant_of-result c = rw c.new.ensures.items (apart_nil name_of)
