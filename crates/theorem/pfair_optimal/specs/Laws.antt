-- The laws of fluid schedules and of busy bounds, each over every weight, subtask and offset, and the theorem of runs.
use Rattle.std.specs.Prelude.{sum_by, ℕ, suc, true, false, ◌≡◌, ◌+◌, ◌*◌, ◌<◌, ◌≤◌, ◌↔◌}
use Rattle.pfair_weight.specs.Window.{Share, IsWeight, IsHeavy, units_of, release_of, deadline_of, b_bit_of, group_deadline_of}
use Rattle.pfair_optimal.specs.Schedule.{IsRunBelow, share_of, total_before, busy_bound_of, Subtask, Schedule, deadline, is_row, has_run, IsRun, IsNext}

-- a subtask's shares are above 0 just in the slots of its window, at most the cost each, and add up to one quantum
pub record SharesFillWindows : Type 0 where
  pub at_most_cost : (w : Share) (i theta v : ℕ) → IsWeight w.cost w.period → share_of w i theta v ≤ w.cost
  pub in_window : (w : Share) (i theta v : ℕ) → IsWeight w.cost w.period → 1 ≤ i → (0 < share_of w i theta v) ↔ ((release_of w i theta ≤ v) × (v < deadline_of w i theta))
  pub whole : (w : Share) (i theta t : ℕ) → IsWeight w.cost w.period → 1 ≤ i → deadline_of w i theta ≤ t → total_before (share_of w i theta) t ≡ w.period

-- if offsets never fall, two subtasks of one task get at most the cost of a slot; if a window reaches into the next one, its
-- last share and the next one's first share are the cost together; and of two that aren't neighbours at most one gets any of a slot
pub record SharesFitSlots : Type 0 where
  pub two : (w : Share) (i j theta later v : ℕ) → IsWeight w.cost w.period → 1 ≤ i → i < j → theta ≤ later → share_of w i theta v + share_of w j later v ≤ w.cost
  pub neighbours : (w : Share) (i theta v later u : ℕ) → IsWeight w.cost w.period → 1 ≤ i → b_bit_of w i ≡ 1 → v + 1 ≡ deadline_of w i theta → u ≡ release_of w (i + 1) later
      → share_of w i theta v + share_of w (i + 1) later u ≡ w.cost
  pub no_three : (w : Share) (i j theta later v : ℕ) → IsWeight w.cost w.period → 1 ≤ i → i + 1 < j → theta ≤ later → 0 < share_of w i theta v → share_of w j later v ≡ 0

-- the group deadline is where the cascade ends: k slots after the deadline of a heavy subtask with b-bit 1 lie before its group
-- deadline exactly if the k-th subtask after it is due right then, and has b-bit 1 too
abbrev pub GroupDeadlinesEndCascades : Type 0
GroupDeadlinesEndCascades =
    (w : Share) (i k theta : ℕ) → IsWeight w.cost w.period → IsHeavy w → b_bit_of w i ≡ 1
    → (deadline_of w i theta + k < group_deadline_of w i theta) ↔ ((deadline_of w (i + k) theta ≡ deadline_of w i theta + k) × (b_bit_of w (i + k) ≡ 1))

-- a cascade of windows of two slots ends at time t: a subtask is due then with b-bit 0, or one whose window has three slots is due a
-- slot later
pub data EndsCascade (w : Share) (theta t : ℕ) : Type 0 where
  gap : (k : ℕ) → 1 ≤ k → t ≡ deadline_of w k theta → b_bit_of w k ≡ 0 → EndsCascade w theta t
  three_slots : (k : ℕ) → 1 ≤ k → t + 1 ≡ deadline_of w k theta → release_of w k theta + 3 ≡ deadline_of w k theta → EndsCascade w theta t

-- t is the least time from the deadline of subtask i on at which a cascade ends
pub record IsGroupDeadline (w : Share) (i theta t : ℕ) : Type 0 where
  pub not_before : deadline_of w i theta ≤ t
  pub ends : EndsCascade w theta t
  pub least : (u : ℕ) → deadline_of w i theta ≤ u → EndsCascade w theta u → t ≤ u

-- the formula of the group deadline is the definition by cascades, for each heavy weight below 1
abbrev pub GroupDeadlinesAreLeast : Type 0
GroupDeadlinesAreLeast = (w : Share) (i theta : ℕ) → IsWeight w.cost w.period → IsHeavy w → w.cost < w.period → 1 ≤ i → IsGroupDeadline w i theta (group_deadline_of w i theta)

-- the busy bound of a subtask with b-bit 1 is past each such cascade, of a light weight too; and what is released before it, by then
-- or later, has no greater share of its first slot than the next subtask has of its own
pub record BusyBoundsLast : Type 0 where
  pub past_cascades : (w : Share) (i k theta : ℕ) → IsWeight w.cost w.period → b_bit_of w i ≡ 1 → deadline_of w (i + k) theta ≡ deadline_of w i theta + k → b_bit_of w (i + k) ≡ 1
      → deadline_of w i theta + k < busy_bound_of w i theta
  pub first_shares : (w : Share) (i k theta later : ℕ) → IsWeight w.cost w.period → b_bit_of w i ≡ 1 → i < k → theta ≤ later → release_of w k later < busy_bound_of w i theta
      → share_of w k later (release_of w k later) ≤ share_of w (i + 1) theta (release_of w (i + 1) theta)

-- in a run of the PD2 order in which the weights have room, no task misses: after each slot the next subtask of an active member has
-- its deadline after the slot's end, and what ran in it ran before its deadline
pub record RunsNeverMiss : Type 0 where
  pub none_misses : (x : Schedule) (t : ℕ) (z : Subtask) → IsRun x → x.is_active z.task t ≡ true → IsNext x z (suc t) → has_run x z (suc t) ≡ false → suc t < deadline x z
  pub each_in_time : (x : Schedule) (t : ℕ) (z : Subtask) → IsRun x → is_row x t z ≡ true → t < deadline x z

-- the same of the beginning of a run, of which no more than that is known
pub record BeginningsNeverMiss : Type 0 where
  pub none_misses : (x : Schedule) (n t : ℕ) (z : Subtask) → IsRunBelow x n → t < n → x.is_active z.task t ≡ true → IsNext x z (suc t) → has_run x z (suc t) ≡ false → suc t < deadline x z
  pub each_in_time : (x : Schedule) (n t : ℕ) (z : Subtask) → IsRunBelow x n → t < n → is_row x t z ≡ true → t < deadline x z

-- the premises can be met, also if the weights fill the machine
abbrev pub SomeRunIsFull : Type 0
SomeRunIsFull = (x : Schedule) × IsRun x × ((t : ℕ) → sum_by (λ a. units_of (x.weight a) x.frame) (x.members t) ≡ x.processors * x.frame)
