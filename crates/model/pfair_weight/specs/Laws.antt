-- The laws of windows, of jobs and of names, each over every weight, subtask and offset.
use Rattle.std.specs.Prelude.{ℕ, ◌≡◌, ◌+◌, ◌-◌, ◌*◌, ◌<◌, ◌≤◌, ◌↔◌, Bool, true, List, ◌∷◌, ◌++◌, length}
use Rattle.std.specs.declared.cmp.Ordering.{Ordering}
use Rattle.std.specs.declared.cmp.Ordering.TheVariants.{Less, Equal}
use Rattle.pfair_weight.specs.Window.{Share, IsWeight, IsHeavy, release_of, deadline_of, b_bit_of, group_deadline_of, starts_job_of}

-- each window opens before it closes
abbrev pub NoWindowIsEmpty : Type 0
NoWindowIsEmpty = (w : Share) (i theta : ℕ) → IsWeight w.cost w.period → 1 ≤ i → release_of w i theta < deadline_of w i theta

-- of two subtasks the later one's window opens later and closes later
pub record WindowsRise : Type 0 where
  pub releases : (w : Share) (i j theta : ℕ) → IsWeight w.cost w.period → 1 ≤ i → i < j → release_of w i theta < release_of w j theta
  pub deadlines : (w : Share) (i j theta : ℕ) → IsWeight w.cost w.period → i < j → deadline_of w i theta < deadline_of w j theta

-- a window reaches into the next one by its b-bit, which is one slot at most, and leaves no slot between them
pub record WindowsMeet : Type 0 where
  pub overlap : (w : Share) (i theta : ℕ) → IsWeight w.cost w.period → release_of w (i + 1) theta + b_bit_of w i ≡ deadline_of w i theta
  pub one_slot : (w : Share) (i : ℕ) → b_bit_of w i ≤ 1

-- what the slots of a window are, in products: the share of the time up to the end of a slot is more than i - 1 quanta once the
-- window is open, and the share of the time before it is less than i quanta until the window closes
pub record WindowsByShare : Type 0 where
  pub opened : (w : Share) (i theta s : ℕ) → IsWeight w.cost w.period → (release_of w i theta ≤ theta + s) ↔ ((i - 1) * w.period < (s + 1) * w.cost)
  pub not_closed : (w : Share) (i theta s : ℕ) → IsWeight w.cost w.period → (theta + s < deadline_of w i theta) ↔ (s * w.cost < i * w.period)

-- what a group deadline is beside the deadline: none for a light weight, the deadline itself for a weight of 1, and for a heavy
-- weight never before the deadline nor more than a period after it, and no earlier for a later subtask
pub record GroupDeadlines : Type 0 where
  pub light : (w : Share) (i theta : ℕ) → 2 * w.cost < w.period → group_deadline_of w i theta ≡ 0
  pub whole : (w : Share) (i theta : ℕ) → IsWeight w.cost w.period → w.cost ≡ w.period → group_deadline_of w i theta ≡ deadline_of w i theta
  pub not_before : (w : Share) (i theta : ℕ) → IsWeight w.cost w.period → IsHeavy w → deadline_of w i theta ≤ group_deadline_of w i theta
  pub near : (w : Share) (i theta : ℕ) → IsWeight w.cost w.period → group_deadline_of w i theta ≤ deadline_of w i theta + w.period
  pub rise : (w : Share) (i j theta : ℕ) → IsWeight w.cost w.period → i ≤ j → group_deadline_of w i theta ≤ group_deadline_of w j theta

-- a delay puts a window and the group deadline of a heavy weight off by as many slots
pub record DelaysShift : Type 0 where
  pub releases : (w : Share) (i theta by : ℕ) → release_of w i (theta + by) ≡ release_of w i theta + by
  pub deadlines : (w : Share) (i theta by : ℕ) → deadline_of w i (theta + by) ≡ deadline_of w i theta + by
  pub group_deadlines : (w : Share) (i theta by : ℕ) → IsHeavy w → group_deadline_of w i (theta + by) ≡ group_deadline_of w i theta + by

-- a job is the quanta of one period: with k jobs before it, its first subtask is released where its period begins, and its last is
-- due where the period ends, with no overlap into the next job
pub record JobsFillPeriods : Type 0 where
  pub starts : (w : Share) (k : ℕ) → IsWeight w.cost w.period → starts_job_of w (k * w.cost + 1) ≡ true
  pub only : (w : Share) (i : ℕ) → IsWeight w.cost w.period → 1 ≤ i → starts_job_of w i ≡ true → (k : ℕ) × (i ≡ k * w.cost + 1)
  pub released : (w : Share) (k theta : ℕ) → IsWeight w.cost w.period → release_of w (k * w.cost + 1) theta ≡ theta + k * w.period
  pub due : (w : Share) (k theta : ℕ) → IsWeight w.cost w.period → deadline_of w (k * w.cost) theta ≡ theta + k * w.period
  pub apart : (w : Share) (k : ℕ) → IsWeight w.cost w.period → b_bit_of w (k * w.cost) ≡ 0

-- k jobs later windows, b-bits and starts of jobs are the same, k periods later; and so are the group deadlines of a heavy weight
pub record JobsRepeat : Type 0 where
  pub releases : (w : Share) (i k theta : ℕ) → IsWeight w.cost w.period → 1 ≤ i → release_of w (i + k * w.cost) theta ≡ release_of w i theta + k * w.period
  pub deadlines : (w : Share) (i k theta : ℕ) → IsWeight w.cost w.period → deadline_of w (i + k * w.cost) theta ≡ deadline_of w i theta + k * w.period
  pub b_bits : (w : Share) (i k : ℕ) → IsWeight w.cost w.period → b_bit_of w (i + k * w.cost) ≡ b_bit_of w i
  pub group_deadlines : (w : Share) (i k theta : ℕ) → IsWeight w.cost w.period → IsHeavy w → group_deadline_of w (i + k * w.cost) theta ≡ group_deadline_of w i theta + k * w.period
  pub starts : (w : Share) (i k : ℕ) → IsWeight w.cost w.period → 1 ≤ i → starts_job_of w (i + k * w.cost) ≡ starts_job_of w i

-- names are equal exactly if their bytes are identical, a proper prefix goes first, and else the first byte that
-- differs decides
pub record NamesInByteOrder (eq : List ℕ → List ℕ → Bool) (cmp : List ℕ → List ℕ → Ordering) : Type 0 where
  pub identical : (a b : List ℕ) → (eq a b ≡ true) ↔ (a ≡ b)
  pub tied : (a b : List ℕ) → (cmp a b ≡ Equal) ↔ (a ≡ b)
  pub prefix_first : (a b : List ℕ) → 0 < length b → cmp a (a ++ b) ≡ Less
  pub first_difference : (a b c : List ℕ) (x y : ℕ) → x < y → cmp (a ++ (x ∷ b)) (a ++ (y ∷ c)) ≡ Less
