use Rattle.pfair_admission.proofs.Common.{Member, jobs_done, subtasks_done, carried_delays, ℕ, ◌+◌, ◌-◌, ◌≤◌, arith, sym, starts_job_repeats}
use Rattle.pfair_admission.proofs.Carrying.{done_low, next_ran, b_bit_same, busy_until_same, carried_lowered, deadline_same, freeing_slot_same, group_deadline_same, next_key_same, release_same}
use Rattle.pfair_admission.proofs.laws.carrying_keeps_windows.Goals as goal

near : (m : Member) (j : ℕ) → m.next ≤ j + subtasks_done m + 1 → m.next - subtasks_done m ≤ j + 1
near m j reaches = omega (arith, reaches)

first_left : (m : Member) → 1 ≤ m.next → 1 ≤ m.next - subtasks_done m
first_left m some = (let low = done_low m in omega (arith, low))

pub returns : goal.returns
returns c = record {
  offsets = λ m j first reaches. (carried_lowered m).offsets j first (near m j reaches);
  releases = λ m j h first reaches. release_same m (jobs_done m) (carried_delays m) (m.next - subtasks_done m) (carried_lowered m) h j first (near m j reaches);
  deadlines = λ m j h first reaches. deadline_same m (jobs_done m) (carried_delays m) (m.next - subtasks_done m) (carried_lowered m) h j first (near m j reaches);
  group_deadlines = λ m j h first reaches. group_deadline_same m (jobs_done m) (carried_delays m) (m.next - subtasks_done m) (carried_lowered m) h j first (near m j reaches);
  b_bits = λ m j h. b_bit_same m (jobs_done m) (carried_delays m) (m.next - subtasks_done m) (carried_lowered m) h j;
  starts = λ m j first. sym (starts_job_repeats m.weight j (jobs_done m) first);
  delayed = λ m j later reaches. (carried_lowered m).delayed j later (omega (arith, reaches));
  next = λ m h some. next_key_same m (jobs_done m) (carried_delays m) (m.next - subtasks_done m) (carried_lowered m) h (first_left m some);
  busy = λ m h ran. busy_until_same m (jobs_done m) (carried_delays m) (m.next - subtasks_done m) (carried_lowered m) h (next_ran m ran);
  freed = λ m t h some. freeing_slot_same m (jobs_done m) (carried_delays m) (m.next - subtasks_done m) (carried_lowered m) h t (first_left m some) (next_ran m);
}
