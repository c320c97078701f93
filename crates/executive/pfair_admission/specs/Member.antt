-- A member: a task from its joining slot to its freeing slot.
use Rattle.std.specs.Prelude.{ℕ, ℤ, pos, ◌≤◌, ◌+◌, ◌-◌, ◌-ℤ◌, ◌*◌, ◌||◌, max, Bool, not, nat_le, nat_lt, ◌==◌, List, sum_by, filter, Option, is_some, if◌then◌else◌}
use Rattle.std.specs.List.{list_any}
use Rattle.pfair_weight.specs.Window.{Share, release_of, deadline_of, b_bit_of, group_deadline_of, starts_job_of}
use Rattle.pfair_weight.specs.declared.window.TheConstants.{MAX_INDEX, MAX_OFFSET}
use Rattle.pfair_order.specs.declared.Key.{Key}
use Rattle.pfair_admission.specs.declared.delay.Delay.{Delay}

-- one incarnation of a name
pub record Member : Type 0 where
  pub name : List ℕ
  pub weight : Share
  pub early : Bool
  pub joined : ℕ
  pub delays : List Delay  -- those that were accepted
  pub next : ℕ  -- the index of its next subtask
  pub freed_at : Option ℕ  -- its freeing slot, where it is departing

-- the offset of the subtasks after all delays
abbrev pub last_offset : Member → ℕ
last_offset m = m.joined + sum_by (λ d. d.by) m.delays

-- what every member keeps: its next subtask and all its offsets are those that windows can be asked for
pub record IsMember (m : Member) : Type 0 where
  pub first : 1 ≤ m.next
  pub last : m.next ≤ MAX_INDEX
  pub offset : last_offset m ≤ MAX_OFFSET

-- the offset of subtask i: the joining slot, and the accepted delays whose index is at most i
abbrev pub theta : Member → ℕ → ℕ
theta m i = m.joined + sum_by (λ d. d.by) (filter (λ d. nat_le d.index i) m.delays)

abbrev pub is_departing : Member → Bool
is_departing m = is_some m.freed_at

-- its lag at a time that isn't before it joined, as a numerator over the period: the share of the slots since then less its quanta
abbrev pub lag_at : ℕ → Member → ℤ
lag_at time m = pos (m.weight.cost * (time - m.joined)) -ℤ pos (m.weight.period * (m.next - 1))

-- ---- when its weight is free

-- where subtask i was its last: for a heavy weight the slot after the group deadline, for a light one the deadline and the b-bit
abbrev pub busy_until : Member → ℕ → ℕ
busy_until m i =
    if nat_lt (2 * m.weight.cost) m.weight.period
    then deadline_of m.weight i (theta m i) + b_bit_of m.weight i
    else group_deadline_of m.weight i (theta m i) + 1

-- the freeing slot of a member that departs at t: t itself, if it never ran
abbrev pub freeing_slot : Member → ℕ → ℕ
freeing_slot m t = if m.next == 1 then t else max t (busy_until m (m.next - 1))

-- ---- when a subtask may run

-- an accepted delay has exactly this index
abbrev pub is_delayed_at : Member → ℕ → Bool
is_delayed_at m i = list_any (λ d. d.index == i) m.delays

-- the slot from which subtask i may run, once the one before it has run
abbrev pub eligible_from : Member → ℕ → ℕ
eligible_from m i =
    if not m.early || (starts_job_of m.weight i || is_delayed_at m i)
    then release_of m.weight i (theta m i)
    else m.joined

-- the key of its next subtask
abbrev pub next_key : Member → Key
next_key m = record {
  d = deadline_of m.weight m.next (theta m m.next);
  b = b_bit_of m.weight m.next;
  group = group_deadline_of m.weight m.next (theta m m.next);
  name = m.name;
}
