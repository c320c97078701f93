use Rattle.pfair_weight.specs.WindowFacts.{starts_after_jobs, starts_job_only, job_released, job_due, job_apart}
use Rattle.pfair_weight.proofs.laws.jobs_fill_periods.Goals as goal

pub returns : goal.returns
returns c = record {
  starts = λ w k h. starts_after_jobs w k;
  only = λ w i h first. starts_job_only w i first;
  released = λ w k theta h. job_released w k theta h.some_cost;
  due = λ w k theta h. job_due w k theta h.some_cost;
  apart = λ w k h. job_apart w k h.some_cost;
}
