-- Weights, and the windows of their subtasks.
use Rattle.std.specs.Prelude.{◌≡◌, false, Option, Some, None, is_some, refl, ℕ, ◌<◌, ◌≤◌, ◌*◌, ◌/◌, ◌^◌, ◌+◌, ◌-◌, ◌%◌, ◌==◌, Bool, nat_lt, if◌then◌else◌}
use Rattle.pfair_weight.specs.declared.weight.TheConstants.Weight.{MAX_PERIOD}
use Rattle.pfair_weight.specs.declared.weight.WeightFault.{WeightFault}
use Rattle.pfair_weight.specs.declared.weight.WeightFault.TheVariants.{ZeroCost, CostOverPeriod, PeriodTooLong}
use Rattle.std.specs.Int.{div_ceil}
use Rattle.pfair_weight.specs.declared.window.TheConstants.{MAX_INDEX, MAX_OFFSET}

-- What an optional value that isn't there is.

pub nothing : {A : Type 0} (o : Option A) → is_some o ≡ false → o ≡ None
nothing None e = refl
nothing (Some x) e = cc

-- A weight as clauses see it.

-- the share of a processor that a task is given: a cost for each period
pub record Share : Type 0 where
  pub cost : ℕ
  pub period : ℕ

-- what a cost and a period have to be to make a weight
pub record IsWeight (cost period : ℕ) : Type 0 where
  pub some_cost : 0 < cost
  pub at_most_one : cost ≤ period
  pub period_in_range : period ≤ MAX_PERIOD

-- at least half of a processor
abbrev pub IsHeavy : Share → Type 0
IsHeavy w = w.period ≤ 2 * w.cost

-- the quanta of a frame that whole periods fill
abbrev pub units_of : Share → ℕ → ℕ
units_of w frame = w.cost * (frame / w.period)

-- When each refusal of a weight comes, the first that applies, and under which number it is reported.

abbrev pub IsFaultOf : ℕ → ℕ → WeightFault → Type 0
IsFaultOf cost period ZeroCost = cost ≡ 0
IsFaultOf cost period CostOverPeriod = (0 < cost) × (period < cost)
IsFaultOf cost period PeriodTooLong = (0 < cost) × (cost ≤ period) × (MAX_PERIOD < period)

abbrev pub weight_fault_number : WeightFault → ℕ
weight_fault_number ZeroCost = 4
weight_fault_number CostOverPeriod = 5
weight_fault_number PeriodTooLong = 6

-- A fraction as clauses see it.

pub record Ratio : Type 0 where
  pub numerator : ℕ
  pub denominator : ℕ

-- its whole part fits a word, with room for one more
abbrev pub IsSmall : Ratio → Type 0
IsSmall r = r.numerator < 2 ^ 63 * r.denominator

-- The window of a subtask. Subtasks are counted from 1, and `theta` is the offset from which their time runs.

-- the slot in which the window of subtask i opens
abbrev pub release_of : Share → ℕ → ℕ → ℕ
release_of w i theta = theta + ((i - 1) * w.period) / w.cost

-- the slot before which the window of subtask i closes
abbrev pub deadline_of : Share → ℕ → ℕ → ℕ
deadline_of w i theta = theta + div_ceil (i * w.period) w.cost

-- 1 if the window of subtask i reaches into that of the next one, else 0
abbrev pub b_bit_of : Share → ℕ → ℕ
b_bit_of w i = div_ceil (i * w.period) w.cost - (i * w.period) / w.cost

-- where the cascade of a heavy weight below 1 ends that holds the slot before `close`
abbrev pub cascade_end : Share → ℕ → ℕ
cascade_end w close = div_ceil (div_ceil (close * (w.period - w.cost)) w.period * w.period) (w.period - w.cost)

-- the group deadline of subtask i: 0 for a light weight, and the deadline for a weight of 1
abbrev pub group_deadline_of : Share → ℕ → ℕ → ℕ
group_deadline_of w i theta =
    if nat_lt (2 * w.cost) w.period then 0
    else (if w.cost == w.period then deadline_of w i theta else theta + cascade_end w (div_ceil (i * w.period) w.cost))

-- whether subtask i is the first of a job: a job is as many subtasks as the cost says
abbrev pub starts_job_of : Share → ℕ → Bool
starts_job_of w i = (i - 1) % w.cost == 0

-- Where a stepper stands.

-- a subtask of a weight, at an offset
pub record Position : Type 0 where
  pub weight : Share
  pub index : ℕ
  pub theta : ℕ

-- where a stepper can stand
pub record IsPosition (p : Position) : Type 0 where
  pub weight : IsWeight p.weight.cost p.weight.period
  pub first : 1 ≤ p.index
  pub last : p.index ≤ MAX_INDEX
  pub offset : p.theta ≤ MAX_OFFSET

-- A window of a heavy weight, by where it closes.

pub record Close : Type 0 where
  pub weight : Share
  pub close : ℕ
