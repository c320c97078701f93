-- A run of the executive as plain data: which subtask ran in which slot, and what is wanted of it.
use Rattle.std.specs.Prelude.{ℕ, zero, suc, ◌+◌, ◌-◌, ◌*◌, min, max, ◌≡◌, ◌%◌, ◌<◌, ◌≤◌, ◌⊎◌, ◌==◌, ◌&&◌, ◌||◌, Bool, true, false, List, [], ◌∷◌, length, sum_by}
use Rattle.pfair_weight.specs.Window.{Share, deadline_of, b_bit_of, group_deadline_of, IsWeight, units_of, release_of}
use Rattle.std.specs.List.{list_any}
use Rattle.pfair_weight.specs.Name.{NameValue, name_eq}

-- The fluid schedule: each task is served evenly, by its weight. A quantum is counted as `period` parts, so that a task's even
-- service of one slot is `cost` of them.

-- the parts that subtask i has got before time t
abbrev pub fluid_of : Share → ℕ → ℕ → ℕ → ℕ
fluid_of w i theta t = min w.period ((t - theta) * w.cost - (i - 1) * w.period)

-- the parts of it that it gets in slot v
abbrev pub share_of : Share → ℕ → ℕ → ℕ → ℕ
share_of w i theta v = fluid_of w i theta (v + 1) - fluid_of w i theta v

-- what a number of slots have together
abbrev pub total_before : (ℕ → ℕ) → ℕ → ℕ
total_before f zero = 0
total_before f (suc t) = total_before f t + f t

-- the time up to which a task, of a light weight or a heavy one, holds its weight by subtask i
abbrev pub busy_bound_of : Share → ℕ → ℕ → ℕ
busy_bound_of w i theta = max (group_deadline_of w i theta) (deadline_of w i theta + b_bit_of w i)

-- ---- lists

-- one of a list, by a test of being the same
abbrev pub is_among : {A : Type 0} → (A → A → Bool) → List A → A → Bool
is_among same xs x = list_any (same x) xs

-- none stands twice in a list
abbrev pub NoneTwice : {A : Type 0} → (A → A → Bool) → List A → Type 0
NoneTwice same [] = Unit {0}
NoneTwice same (x ∷ xs) = (is_among same xs x ≡ false) × NoneTwice same xs

-- ---- subtasks

-- one incarnation of a name
pub record Task : Type 0 where
  pub name : NameValue
  pub joined : ℕ

abbrev pub same_task : Task → Task → Bool
same_task a b = name_eq a.name b.name && a.joined == b.joined

-- its subtasks are counted from 1
pub record Subtask : Type 0 where
  pub task : Task
  pub index : ℕ

abbrev pub same_subtask : Subtask → Subtask → Bool
same_subtask a b = same_task a.task b.task && a.index == b.index

abbrev pub next_of : Subtask → Subtask
next_of z = record { task = z.task; index = z.index + 1 }

abbrev pub previous_of : Subtask → Subtask
previous_of z = record { task = z.task; index = z.index - 1 }

-- ---- the data

pub record Schedule : Type 0 where
  pub processors : ℕ
  pub frame : ℕ
  pub weight : Task → Share
  pub offset : Task → ℕ → ℕ  -- of the subtask of an index, as it is in the end
  pub table : ℕ → List Subtask  -- the rows of a slot
  pub members : ℕ → List Task  -- who holds its weight in a slot
  pub is_active : Task → ℕ → Bool  -- a member in a slot that isn't departing

-- the window of a subtask
abbrev pub release : Schedule → Subtask → ℕ
release x z = release_of (x.weight z.task) z.index (x.offset z.task z.index)

abbrev pub deadline : Schedule → Subtask → ℕ
deadline x z = deadline_of (x.weight z.task) z.index (x.offset z.task z.index)

abbrev pub b_bit : Schedule → Subtask → ℕ
b_bit x z = b_bit_of (x.weight z.task) z.index

abbrev pub group_deadline : Schedule → Subtask → ℕ
group_deadline x z = group_deadline_of (x.weight z.task) z.index (x.offset z.task z.index)

abbrev pub busy_bound : Schedule → Subtask → ℕ
busy_bound x z = busy_bound_of (x.weight z.task) z.index (x.offset z.task z.index)

-- whether it runs in a slot, and whether it ran before a time
abbrev pub is_row : Schedule → ℕ → Subtask → Bool
is_row x t z = is_among same_subtask (x.table t) z

abbrev pub has_run : Schedule → Subtask → ℕ → Bool
has_run x z zero = false
has_run x z (suc t) = has_run x z t || is_row x t z

-- all those before it ran before a time
pub record IsNext (x : Schedule) (z : Subtask) (t : ℕ) : Type 0 where
  pub counted : 1 ≤ z.index
  pub follows : (z.index ≡ 1) ⊎ (has_run x (previous_of z) t ≡ true)

-- what the PD2 order says of a subtask that goes before another one
abbrev pub GoesFirst : Schedule → Subtask → Subtask → Type 0
GoesFirst x w z =
    (deadline x w < deadline x z)
    ⊎ ((deadline x w ≡ deadline x z)
    × ((b_bit x z < b_bit x w)
    ⊎ ((b_bit x w ≡ b_bit x z)
    × ((b_bit x z ≡ 0) ⊎ (group_deadline x z ≤ group_deadline x w)))))

-- ---- what is wanted of it

-- of the slots below n, and of no later one
pub record IsRunBelow (x : Schedule) (n : ℕ) : Type 0 where
  pub frame : 0 < x.frame
  pub weights : (a : Task) → IsWeight (x.weight a).cost (x.weight a).period
  pub periods : (a : Task) → x.frame % (x.weight a).period ≡ 0
  -- offsets begin at the joining slot, and never fall
  pub offsets_start : (a : Task) (i : ℕ) → 1 ≤ i → a.joined ≤ x.offset a i
  pub offsets_rise : (a : Task) (i : ℕ) → 1 ≤ i → x.offset a i ≤ x.offset a (i + 1)
  -- no subtask runs twice, each runs after the one before it, and only active members run
  pub rows_apart : (t : ℕ) → t < n → NoneTwice same_subtask (x.table t)
  pub rows_once : (s t : ℕ) (z : Subtask) → s < n → t < n → is_row x s z ≡ true → is_row x t z ≡ true → s ≡ t
  pub rows_follow : (t : ℕ) (z : Subtask) → t < n → is_row x t z ≡ true → IsNext x z t
  pub rows_active : (t : ℕ) (z : Subtask) → t < n → is_row x t z ≡ true → x.is_active z.task t ≡ true
  -- who is active was so since it joined, and holds its weight
  pub active_since : (a : Task) (s t : ℕ) → a.joined ≤ s → s ≤ t → t < n → x.is_active a t ≡ true → x.is_active a s ≡ true
  pub active_members : (a : Task) (t : ℕ) → t < n → x.is_active a t ≡ true → is_among same_task (x.members t) a ≡ true
  -- the weight of a task is held up to the busy bound of each subtask that ran
  pub held : (z : Subtask) (s t : ℕ) → s < n → t < n → is_row x s z ≡ true → z.task.joined ≤ t → t < busy_bound x z → is_among same_task (x.members t) z.task ≡ true
  -- the weights that are held have room
  pub room : (t : ℕ) → t < n → sum_by (λ a. units_of (x.weight a) x.frame) (x.members t) ≤ x.processors * x.frame
  -- if the next subtask of an active member is released and doesn't run, all processors run what goes before it
  pub chosen : (t : ℕ) (z : Subtask) → t < n → IsNext x z t → x.is_active z.task t ≡ true → release x z ≤ t → has_run x z (suc t) ≡ false
      → (length (x.table t) ≡ x.processors) × ((w : Subtask) → is_row x t w ≡ true → GoesFirst x w z)

-- of all slots
abbrev pub IsRun : Schedule → Type 0
IsRun x = (n : ℕ) → IsRunBelow x n

-- ---- a miss

-- a member's next subtask has not run by its deadline, which is td at most
pub record IsMiss (x : Schedule) (td : ℕ) (z : Subtask) : Type 0 where
  pub some_time : 1 ≤ td
  pub active : x.is_active z.task (td - 1) ≡ true
  pub next : IsNext x z td
  pub not_run : has_run x z td ≡ false
  pub late : deadline x z ≤ td

-- the least time at which there is one
pub record IsFirstMiss (x : Schedule) (td : ℕ) (z : Subtask) : Type 0 where
  pub miss : IsMiss x td z
  pub first : (s : ℕ) (w : Subtask) → s < td → IsMiss x s w → ⊥
