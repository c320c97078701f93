use Rattle.pfair_c.proofs.Common.{refl}
use Rattle.pfair_c.proofs.take.take_as.Goals as goal

pub returns-in-Err-clause-answer : goal.returns-in-Err-clause-answer
returns-in-Err-clause-answer c =
    record {
      done = λ is. absurd (c.in-Err.ensures.numbered.0 is);
      refused = λ failed. c.in-Err.ensures.refused;
      unchanged = λ failed. (c.in-Err.ensures.unchanged, refl);
    }
