-- How far a task is behind its share of the processor, and whether its subtasks run in their windows.
use Rattle.std.specs.Prelude.{ℕ, ℤ, pos, neg_ℤ, ◌*◌, ◌≤◌, ◌-ℤ◌, ◌<ℤ◌, List, nat_lt, count_by, ◌≡◌, ◌+◌, ◌-◌, ◌<◌, length, slice_index, ◌↔◌}
use Rattle.pfair_weight.specs.Window.{Share, release_of, deadline_of, IsWeight}
use Rattle.pfair_lag.specs.declared.windows.Miss.{Miss}
use Rattle.pfair_lag.specs.declared.windows.Miss.TheVariants.{Early, Tardy, Unserved}
use Rattle.pfair_lag.specs.declared.fault.PickFault.{PickFault}
use Rattle.pfair_lag.specs.declared.fault.PickFault.TheVariants.{PicksNotRising, PickPastHorizon}

-- How far a task is behind its share of the processor.

-- how many quanta the task got before time t
abbrev pub quanta_before : List ℕ → ℕ → ℕ
quanta_before picks t = count_by (λ slot. nat_lt slot t) picks

-- the lag at time t, as a numerator over the period
abbrev pub lag_numerator : Share → List ℕ → ℕ → ℤ
lag_numerator w picks t = pos (w.cost * t) -ℤ pos (w.period * quanta_before picks t)

-- up to the horizon the task is never a whole quantum behind
abbrev pub LagBelowOne : Share → List ℕ → ℕ → Type 0
LagBelowOne w picks horizon = (t : ℕ) → t ≤ horizon → lag_numerator w picks t <ℤ pos w.period

-- up to the horizon the task is never a whole quantum ahead
abbrev pub LagAboveMinusOne : Share → List ℕ → ℕ → Type 0
LagAboveMinusOne w picks horizon = (t : ℕ) → t ≤ horizon → neg_ℤ (pos w.period) <ℤ lag_numerator w picks t

-- the lag stays strictly between -1 and 1 up to the horizon
pub record LagWithin (w : Share) (picks : List ℕ) (horizon : ℕ) : Type 0 where
  pub above : LagAboveMinusOne w picks horizon
  pub below : LagBelowOne w picks horizon

-- The slots in which a task ran: subtask i in the i-th of them, counted from 1.

-- a pick that rises above the one before it and lies below the horizon
pub record IsPick (picks : List ℕ) (horizon place : ℕ) : Type 0 where
  pub rises : (before : ℕ) → before + 1 ≡ place → slice_index picks before < slice_index picks place
  pub below : slice_index picks place < horizon

-- rising slots below a horizon
abbrev pub ArePicks : List ℕ → ℕ → Type 0
ArePicks picks horizon = (place : ℕ) → place < length picks → IsPick picks horizon place

-- each slot is above all before it
abbrev pub Rises : List ℕ → Type 0
Rises picks = (j k : ℕ) → j < k → k < length picks → slice_index picks j < slice_index picks k

-- the slot in which subtask i ran
abbrev pub pick_of : List ℕ → ℕ → ℕ
pick_of picks i = slice_index picks (i - 1)

-- no subtask ran before its release
abbrev pub KeepsReleases : Share → List ℕ → Type 0
KeepsReleases w picks = (i : ℕ) → 1 ≤ i → i ≤ length picks → release_of w i 0 ≤ pick_of picks i

-- each subtask ran before its deadline, if that is at most the horizon, and none later
pub record MeetsDeadlines (w : Share) (picks : List ℕ) (horizon : ℕ) : Type 0 where
  pub in_time : (i : ℕ) → 1 ≤ i → i ≤ length picks → pick_of picks i < deadline_of w i 0
  pub served : (i : ℕ) → 1 ≤ i → deadline_of w i 0 ≤ horizon → i ≤ length picks

-- each pick lies in its window, and each subtask whose deadline is at most the horizon has a pick
pub record InWindows (w : Share) (picks : List ℕ) (horizon : ℕ) : Type 0 where
  pub releases : KeepsReleases w picks
  pub deadlines : MeetsDeadlines w picks horizon

-- A subtask that is out of its window.

abbrev pub miss_index : Miss → ℕ
miss_index (Early index slot) = index
miss_index (Tardy index slot) = index
miss_index (Unserved index) = index

-- the subtask ran before its release, ran at its deadline or later, or did not run though its deadline has come
abbrev pub IsMiss : Share → List ℕ → ℕ → Miss → Type 0
IsMiss w picks horizon (Early i slot) = (1 ≤ i) × (i ≤ length picks) × (slot ≡ pick_of picks i) × (slot < release_of w i 0)
IsMiss w picks horizon (Tardy i slot) = (1 ≤ i) × (i ≤ length picks) × (slot ≡ pick_of picks i) × (deadline_of w i 0 ≤ slot)
IsMiss w picks horizon (Unserved i) = (length picks < i) × (deadline_of w i 0 ≤ horizon)

-- the first subtask that is out of its window: those before it ran in theirs
pub record IsFirstMiss (w : Share) (picks : List ℕ) (horizon : ℕ) (miss : Miss) : Type 0 where
  pub is_miss : IsMiss w picks horizon miss
  pub ran_before : (i : ℕ) → 1 ≤ i → i < miss_index miss → i ≤ length picks
  pub released_before : (i : ℕ) → 1 ≤ i → i < miss_index miss → release_of w i 0 ≤ pick_of picks i
  pub in_time_before : (i : ℕ) → 1 ≤ i → i < miss_index miss → pick_of picks i < deadline_of w i 0

-- the subtask ran at its deadline or later, or did not run though its deadline has come
abbrev pub IsLate : Share → List ℕ → ℕ → Miss → Type 0
IsLate w picks horizon (Early i slot) = ⊥
IsLate w picks horizon (Tardy i slot) = IsMiss w picks horizon (Tardy i slot)
IsLate w picks horizon (Unserved i) = IsMiss w picks horizon (Unserved i)

-- the first subtask that is late: those before it met their deadlines
pub record IsFirstLate (w : Share) (picks : List ℕ) (horizon : ℕ) (miss : Miss) : Type 0 where
  pub is_late : IsLate w picks horizon miss
  pub ran_before : (i : ℕ) → 1 ≤ i → i < miss_index miss → i ≤ length picks
  pub in_time_before : (i : ℕ) → 1 ≤ i → i < miss_index miss → pick_of picks i < deadline_of w i 0

-- The first place at which a list of slots is no list of picks.

-- the place, and the places before it are in order
pub record IsFirstFault (picks : List ℕ) (horizon at : ℕ) (Fault : Type 0) : Type 0 where
  pub inside : at < length picks
  pub before : (place : ℕ) → place < at → IsPick picks horizon place
  pub fault : Fault

abbrev pub IsFaultOf : List ℕ → ℕ → PickFault → Type 0
IsFaultOf picks horizon (PicksNotRising at) = IsFirstFault picks horizon at ((0 < at) × (slice_index picks at ≤ slice_index picks (at - 1)))
IsFaultOf picks horizon (PickPastHorizon at) = IsFirstFault picks horizon at (horizon ≤ slice_index picks at)

-- the number under which a fault is reported
abbrev pub pick_fault_number : PickFault → ℕ
pick_fault_number (PicksNotRising at) = 40
pick_fault_number (PickPastHorizon at) = 41

-- What windows and lags say of one another, and what is said of a subtask that is out of its window.

-- The lag stays strictly between -1 and 1 exactly if each subtask runs in its window.
abbrev pub LagsKeepWindows : Type 0
LagsKeepWindows =
    (w : Share) (picks : List ℕ) (horizon : ℕ) → IsWeight w.cost w.period → ArePicks picks horizon
    → (InWindows w picks horizon ↔ LagWithin w picks horizon)

-- The lag stays below 1 exactly if each subtask runs before its deadline.
abbrev pub LagsKeepDeadlines : Type 0
LagsKeepDeadlines =
    (w : Share) (picks : List ℕ) (horizon : ℕ) → IsWeight w.cost w.period → ArePicks picks horizon
    → (MeetsDeadlines w picks horizon ↔ LagBelowOne w picks horizon)

-- One subtask alone is the first that is out of its window, and of one that is late alike.
abbrev pub OneFirstMiss : Type 0
OneFirstMiss =
    (w : Share) (picks : List ℕ) (horizon : ℕ) (m n : Miss) → IsWeight w.cost w.period
    → IsFirstMiss w picks horizon m → IsFirstMiss w picks horizon n → m ≡ n

abbrev pub OneFirstLate : Type 0
OneFirstLate =
    (w : Share) (picks : List ℕ) (horizon : ℕ) (m n : Miss)
    → IsFirstLate w picks horizon m → IsFirstLate w picks horizon n → m ≡ n

-- If one is out of its window, or late, not all are in their windows, or in time.
abbrev pub MissesAreOut : Type 0
MissesAreOut = (w : Share) (picks : List ℕ) (horizon : ℕ) (m : Miss) → IsFirstMiss w picks horizon m → ¬ InWindows w picks horizon

abbrev pub LateMissDeadlines : Type 0
LateMissDeadlines = (w : Share) (picks : List ℕ) (horizon : ℕ) (m : Miss) → IsFirstLate w picks horizon m → ¬ MeetsDeadlines w picks horizon
