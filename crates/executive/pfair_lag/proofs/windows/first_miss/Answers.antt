use Rattle.pfair_lag.proofs.Common.{arith}
use Rattle.pfair_lag.proofs.Counts.{all_served}
use Rattle.pfair_lag.proofs.windows.first_miss.Goals as goal

pub returns-clause-found : goal.returns-clause-found
returns-clause-found c = record {
  releases = λ i from to. (c.loop-place.invariant i from (omega arith)).0;
  deadlines = record {
    in_time = λ i from to. (c.loop-place.invariant i from (omega arith)).1;
    served = all_served c.args.weight c.args.picks.now c.args.horizon c.deadline-2.ensures.weight.some_cost (omega arith);
  };
}
