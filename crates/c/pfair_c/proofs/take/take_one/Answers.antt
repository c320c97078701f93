use Rattle.pfair_c.proofs.Common.{arith}
use Rattle.pfair_c.proofs.TakingFacts.{met-is}
use Rattle.pfair_c.proofs.take.take_one.Goals as goal

pub returns-clause-answer : goal.returns-clause-answer
returns-clause-answer g c = grind (arith, met-is)
