use Rattle.pfair_weight.specs.WindowFacts.{release_repeats, deadline_repeats, b_bit_repeats, group_deadline_repeats, starts_job_repeats}
use Rattle.pfair_weight.proofs.laws.jobs_repeat.Goals as goal

pub returns : goal.returns
returns c = record {
  releases = λ w i k theta h. release_repeats w i k theta h.some_cost;
  deadlines = λ w i k theta h. deadline_repeats w i k theta h.some_cost;
  b_bits = λ w i k h. b_bit_repeats w i k h.some_cost;
  group_deadlines = group_deadline_repeats;
  starts = λ w i k h. starts_job_repeats w i k;
}
