-- The count: all that the set needed, in units, against the rows that it had. There is no first miss.
use Rattle.pfair_optimal.proofs.Common.{false≢true, le_refl, lt_of_not-le, units_of, fluid_of, Task, Subtask, is_among, NoneTwice, same_task, same_subtask, Schedule, IsRunBelow, IsMiss, IsFirstMiss, ◌≡◌, ℕ, zero, suc, ◌+◌, ◌-◌, ◌*◌, ◌/◌, ◌<◌, ◌≤◌, Bool, true, false, cond, List, [], ◌∷◌, length, arith, ap, sym, ◌∙◌, subst, mul-le, div-add-mod', IsRunBelow}
use Rattle.std.proofs.lemmas.List.{length-append}
use Rattle.pfair_optimal.specs.Laws.{BeginningsNeverMiss, RunsNeverMiss}
use Rattle.pfair_optimal.proofs.BusyBounds.{fluid_none, fluid_whole, fluid_rises}
use Rattle.pfair_optimal.proofs.Past.{among_here, among_more, among_cases, task_exact, subtask_exact, total, total_sum, total_plus, total_times, total_constant, total_all_le, total_all_same, total_none, total_same, total_among, total_one}
use Rattle.pfair_optimal.proofs.Reasons.{picks, later, reasons, is_full, In, late_row, later_step, later_last, picks_full, full_some, full_rows, full_last, reason_index, due_by_miss, reason_pick}
use Rattle.pfair_optimal.proofs.Shares.{share, own_share, shares, carry, carry_full, picked, hole_pays, full_pays}

-- the tasks of some subtasks, each once
abbrev pub tasks_of : List Subtask → List Task
tasks_of [] = []
tasks_of (z ∷ zs) = cond (is_among same_task (tasks_of zs) z.task) (tasks_of zs) (z.task ∷ tasks_of zs)

pub tasks_twice : (zs : List Subtask) → NoneTwice same_task (tasks_of zs)
tasks_twice [] = tt
tasks_twice (z ∷ zs) = grind (arith, tasks_twice zs)

pub tasks_among : (zs : List Subtask) (z : Subtask) → In zs z → is_among same_task (tasks_of zs) z.task ≡ true
tasks_among [] z h = absurd (false≢true h)
tasks_among (y ∷ zs) z h =
    grind (arith, among_cases, subtask_exact, among_here, task_exact, among_more, tasks_among zs z)

-- a sum over subtasks, task by task
pub total_by_task : (f : Subtask → ℕ) (tasks : List Task) → NoneTwice same_task tasks → (zs : List Subtask) → ((z : Subtask) → In zs z → is_among same_task tasks z.task ≡ true) →
    total f zs ≡ total (λ a. total (λ z. cond (same_task z.task a) (f z) 0) zs) tasks
total_by_task f tasks apart [] all = sym (total_none tasks)
total_by_task f tasks apart (z ∷ zs) all =
    let rest = total_by_task f tasks apart zs (λ w h. all w (among_more same_subtask subtask_exact z zs w h)) in
    let one = total_one same_task task_exact (f z) z.task tasks apart (all z (among_here same_subtask subtask_exact zs z)) in
    let split = total_plus (λ a. cond (same_task z.task a) (f z) 0) (λ a. total (λ w. cond (same_task w.task a) (f w) 0) zs) tasks in
    omega arith

-- the units of one quantum of a cost
abbrev pub unit : Schedule → Task → ℕ
unit x a = x.frame / (x.weight a).period

-- the fluid of all reasons before a time, in units; what is left over then; and their tasks
abbrev pub fluid : Schedule → ℕ → Subtask → ℕ → ℕ
fluid x td missed t = total (λ z. unit x z.task * fluid_of (x.weight z.task) z.index (x.offset z.task z.index) t) (reasons x td missed)

abbrev pub tasks : Schedule → ℕ → Subtask → List Task
tasks x td missed = tasks_of (reasons x td missed)

abbrev pub left_over_of_all : Schedule → ℕ → Subtask → ℕ → ℕ
left_over_of_all x td missed n = total (λ a. unit x a * carry x td missed a n) (tasks x td missed)

abbrev pub shares_of_all : Schedule → ℕ → Subtask → ℕ → ℕ
shares_of_all x td missed n = total (λ a. unit x a * shares x td missed a n) (tasks x td missed)

module _ (x : Schedule) {n : ℕ} (is : IsRunBelow x n) (td : ℕ) (within : td ≤ n) (missed : Subtask) (m : IsFirstMiss x td missed) where
  -- the units of a whole processor are the frame
  unit_whole : (a : Task) → unit x a * (x.weight a).period ≡ x.frame
  unit_whole a = let split = div-add-mod' x.frame (x.weight a).period in let none = is.periods a in omega arith

  fluid_start : fluid x td missed 0 ≡ 0
  fluid_start =
      total_same same_subtask subtask_exact (λ (z : Subtask). unit x z.task * fluid_of (x.weight z.task) z.index (x.offset z.task z.index) 0) (λ _. 0) (reasons x td missed)
      (λ z h. ap (λ (n : ℕ). unit x z.task * n) (fluid_none (x.weight z.task) z.index (x.offset z.task z.index) 0 (is.weights z.task) (omega arith)) ∙ omega arith)
      ∙ total_none (reasons x td missed)

  fluid_end : fluid x td missed td ≡ length (reasons x td missed) * x.frame
  fluid_end =
      total_same same_subtask subtask_exact (λ (z : Subtask). unit x z.task * fluid_of (x.weight z.task) z.index (x.offset z.task z.index) td) (λ _. x.frame) (reasons x td missed)
      (λ z h. ap (λ (n : ℕ). unit x z.task * n) (fluid_whole (x.weight z.task) z.index (x.offset z.task z.index) td (is.weights z.task) (reason_index x is td within missed m z h) (due_by_miss x is td within missed m 0 (omega arith) z h)) ∙ unit_whole z.task)
      ∙ total_constant x.frame (reasons x td missed)

  -- one slot's rise, task by task
  fluid_step : (t : ℕ) → fluid x td missed (suc t) ≡ fluid x td missed t + shares_of_all x td missed t
  fluid_step t =
      total_all_same (λ (z : Subtask). unit x z.task * fluid_of (x.weight z.task) z.index (x.offset z.task z.index) (suc t))
      (λ (z : Subtask). unit x z.task * fluid_of (x.weight z.task) z.index (x.offset z.task z.index) t + unit x z.task * share x z t) (reasons x td missed) more
      ∙ total_plus (λ (z : Subtask). unit x z.task * fluid_of (x.weight z.task) z.index (x.offset z.task z.index) t) (λ (z : Subtask). unit x z.task * share x z t) (reasons x td missed)
      ∙ ap (λ (n : ℕ). fluid x td missed t + n)
      (total_by_task (λ (z : Subtask). unit x z.task * share x z t) (tasks x td missed) (tasks_twice (reasons x td missed)) (reasons x td missed) (tasks_among (reasons x td missed))
      ∙ total_all_same (λ a. total (λ (z : Subtask). cond (same_task z.task a) (unit x z.task * share x z t) 0) (reasons x td missed)) (λ a. unit x a * shares x td missed a t) (tasks x td missed)
      (λ a. total_all_same (λ (z : Subtask). cond (same_task z.task a) (unit x z.task * share x z t) 0) (λ (z : Subtask). unit x a * own_share x a t z) (reasons x td missed) (mine a)
      ∙ total_times (unit x a) (own_share x a t) (reasons x td missed)))
    where
      more : (z : Subtask) → unit x z.task * fluid_of (x.weight z.task) z.index (x.offset z.task z.index) (suc t) ≡ unit x z.task * fluid_of (x.weight z.task) z.index (x.offset z.task z.index) t + unit x z.task * share x z t
      more z =
          let rise = fluid_rises (x.weight z.task) z.index (x.offset z.task z.index) t in
          let next : suc t ≡ t + 1 = omega arith in
          let parts : fluid_of (x.weight z.task) z.index (x.offset z.task z.index) (t + 1) ≡ fluid_of (x.weight z.task) z.index (x.offset z.task z.index) t + share x z t = omega arith in
          ap (λ (n : ℕ). unit x z.task * n) (ap (fluid_of (x.weight z.task) z.index (x.offset z.task z.index)) next ∙ parts)
          ∙ spread (unit x z.task) (fluid_of (x.weight z.task) z.index (x.offset z.task z.index) t) (share x z t)
        where
          spread : (u a b : ℕ) → u * (a + b) ≡ u * a + u * b
          spread u a b = omega arith

      mine : (a : Task) (z : Subtask) → cond (same_task z.task a) (unit x z.task * share x z t) 0 ≡ unit x a * own_share x a t z
      mine a z = grind (arith, task_exact)

  -- a slot's picks, task by task
  picks_by_task : (t : ℕ) → t < td → total (λ a. unit x a * ((x.weight a).period * picked x td missed a t)) (tasks x td missed) ≡ length (picks x td missed t) * x.frame
  picks_by_task t less =
      sym (sym (total_constant x.frame (picks x td missed t))
      ∙ total_by_task (λ _. x.frame) (tasks x td missed) (tasks_twice (reasons x td missed)) (picks x td missed t) (λ z h. tasks_among (reasons x td missed) z (reason_pick x is td within missed m t z less h))
      ∙ total_all_same (λ a. total (λ (z : Subtask). cond (same_task z.task a) x.frame 0) (picks x td missed t)) (λ a. unit x a * ((x.weight a).period * picked x td missed a t)) (tasks x td missed) counted)
    where
      each : (b : Bool) → cond b x.frame 0 ≡ x.frame * cond b 1 0
      each true = omega arith
      each false = omega arith

      group : (u p f n : ℕ) → u * p ≡ f → f * n ≡ u * (p * n)
      group u p f n e = sym (ap (λ (k : ℕ). k * n) e) ∙ omega arith

      counted : (a : Task) → total (λ (z : Subtask). cond (same_task z.task a) x.frame 0) (picks x td missed t) ≡ unit x a * ((x.weight a).period * picked x td missed a t)
      counted a =
          total_all_same (λ (z : Subtask). cond (same_task z.task a) x.frame 0) (λ (z : Subtask). x.frame * cond (same_task z.task a) 1 0) (picks x td missed t) (λ z. each (same_task z.task a))
          ∙ total_times x.frame (λ (z : Subtask). cond (same_task z.task a) 1 0) (picks x td missed t)
          ∙ group (unit x a) (x.weight a).period x.frame (picked x td missed a t) (unit_whole a)

  -- the rows picked in a hole pay for it, but for what is left over
  hole_sum : (n : ℕ) → n < td → is_full x td missed n ≡ false → shares_of_all x td missed n + left_over_of_all x td missed n ≤ length (picks x td missed n) * x.frame + left_over_of_all x td missed (suc n)
  hole_sum n less hole =
      let each = total_all_le (λ a. unit x a * shares x td missed a n + unit x a * carry x td missed a n) (λ a. unit x a * ((x.weight a).period * picked x td missed a n) + unit x a * carry x td missed a (suc n)) (tasks x td missed)
      (λ a. scaled (unit x a) (shares x td missed a n) (carry x td missed a n) ((x.weight a).period * picked x td missed a n) (carry x td missed a (suc n)) (hole_pays x is td within missed m a n less hole)) in
      let one = total_plus (λ a. unit x a * shares x td missed a n) (λ a. unit x a * carry x td missed a n) (tasks x td missed) in
      let other = total_plus (λ a. unit x a * ((x.weight a).period * picked x td missed a n)) (λ a. unit x a * carry x td missed a (suc n)) (tasks x td missed) in
      let rows = picks_by_task n less in
      omega arith
    where
      scaled : (u s c p d : ℕ) → s + c ≤ p + d → u * s + u * c ≤ u * p + u * d
      scaled u s c p d h = let grown = mul-le u (s + c) u (p + d) (le_refl u) h in omega arith

  -- who holds its weight in a full slot claims no more than its rows
  full_sum : (n : ℕ) → n < td → is_full x td missed n ≡ true → shares_of_all x td missed n + left_over_of_all x td missed n ≤ length (picks x td missed n) * x.frame
  full_sum n less full =
      let one = total_plus (λ a. unit x a * shares x td missed a n) (λ a. unit x a * carry x td missed a n) (tasks x td missed) in
      let each = total_all_le (λ a. unit x a * shares x td missed a n + unit x a * carry x td missed a n) claim (tasks x td missed) (λ a. scaled a (is_among same_task (x.members n) a) (full_pays x is td within missed m a n less)) in
      let only = total_among same_task task_exact claim (tasks x td missed) (x.members n) (tasks_twice (reasons x td missed)) (λ a h some. grind arith) in
      let most = total_all_le claim (λ a. units_of (x.weight a) x.frame) (x.members n) (λ a. grind arith) in
      let sum_is = total_sum (λ a. units_of (x.weight a) x.frame) (x.members n) in
      let w = full_some x is td within missed m n full in
      let room = is.room n (omega arith) in
      let rows = (full_rows x is td within missed m w.0 n less w.1 w.2).0 in
      let all : length (picks x td missed n) * x.frame ≡ x.processors * x.frame = ap (λ q. length q * x.frame) (picks_full x is td within missed m n less full) ∙ ap (λ k. k * x.frame) rows in
      omega arith
    where
      claim : Task → ℕ
      claim a = cond (is_among same_task (x.members n) a) (units_of (x.weight a) x.frame) 0

      scaled : (a : Task) (b : Bool) → shares x td missed a n + carry x td missed a n ≤ cond b (x.weight a).cost 0 → unit x a * shares x td missed a n + unit x a * carry x td missed a n ≤ cond b (units_of (x.weight a) x.frame) 0
      scaled a true h = let grown = mul-le (unit x a) (shares x td missed a n + carry x td missed a n) (unit x a) (x.weight a).cost (le_refl (unit x a)) h in omega arith
      scaled a false h = let grown = mul-le (unit x a) (shares x td missed a n + carry x td missed a n) (unit x a) 0 (le_refl (unit x a)) h in omega arith

  -- nothing is left over after a full slot
  none_left : (n : ℕ) → is_full x td missed n ≡ true → left_over_of_all x td missed (suc n) ≡ 0
  none_left n full =
      total_all_same (λ a. unit x a * carry x td missed a (suc n)) (λ _. 0) (tasks x td missed) (λ a. ap (λ c. unit x a * c) (carry_full x is td within missed m a n full) ∙ omega arith)
      ∙ total_none (tasks x td missed)

  -- the fluid before time n is paid for by those that came in before n, but for what is left over
  paid : (n : ℕ) → n ≤ td → fluid x td missed n + length (later x td missed n) * x.frame ≤ length (reasons x td missed) * x.frame + left_over_of_all x td missed n
  paid zero le = let none = fluid_start in omega arith
  paid (suc n) le =
      let before = paid n (omega arith) in
      let step = fluid_step n in
      let lengths : length (later x td missed n) ≡ length (picks x td missed n) + length (later x td missed (suc n)) = ap length (later_step x is td within missed m n le) ∙ length-append (picks x td missed n) (later x td missed (suc n)) in
      let scaled : length (later x td missed n) * x.frame ≡ (length (picks x td missed n) + length (later x td missed (suc n))) * x.frame = ap (λ (k : ℕ). k * x.frame) lengths in
      grind (arith, full_sum, none_left, hole_sum)

  -- there is no first miss
  pub overload : ⊥
  overload =
      let all = paid td (omega arith) in
      let ended = fluid_end in
      let one : length (later x td missed td) * x.frame ≡ 1 * x.frame = ap (λ (q : List Subtask). length q * x.frame) (later_last x is td within missed m) in
      let last : suc (td - 1) ≡ td = omega arith in
      let none : left_over_of_all x td missed td ≡ 0 = sym (ap (left_over_of_all x td missed) last) ∙ none_left (td - 1) (full_last x is td within missed m (td - 1) last) in
      omega arith

-- no time has a miss: else the least one
no_miss_below : (x : Schedule) {n : ℕ} → IsRunBelow x n → (k td : ℕ) (z : Subtask) → td ≤ n → td < k → IsMiss x td z → ⊥
no_miss_below x is zero td z within less miss = omega arith
no_miss_below x is (suc k) td z within less miss = overload x is td within z (record { miss = miss; first = λ s w before other. no_miss_below x is k s w (omega arith) (omega arith) other })

-- so the next subtask of an active member has its deadline after the slot, and each row's slot is before its deadline
pub beginnings : BeginningsNeverMiss
beginnings = record {
  none_misses = λ x n t z is less active next not_run. lt_of_not-le (λ late.
      (let same : t ≡ suc t - 1 = omega arith in
      no_miss_below x is (suc (suc t)) (suc t) z less (omega arith) (record { some_time = omega arith; active = subst (λ n. x.is_active z.task n ≡ true) same active; next = next; not_run = not_run; late = late })));
  each_in_time = λ x n t z is less row. lt_of_not-le (λ late. no_miss_below x is (suc t) t z (omega arith) (omega arith) (late_row x is z t less row late));
}

pub runs : RunsNeverMiss
runs = record {
  none_misses = λ x t z is. beginnings.none_misses x (suc t) t z (is (suc t)) (omega arith);
  each_in_time = λ x t z is. beginnings.each_in_time x (suc t) t z (is (suc t)) (omega arith);
}
