-- What runs in holes: cascades of tight windows, which end at the next full slot.
use Rattle.pfair_optimal.proofs.Common.{false_from_ne_true, true_from_ne_false, true≢false, cases_lt, cases_eq, cases_Bool, Task, Subtask, same_task, same_subtask, next_of, previous_of, Schedule, release, deadline, b_bit, busy_bound, is_row, has_run, IsRunBelow, IsFirstMiss, ◌≡◌, ℕ, zero, suc, ◌+◌, ◌-◌, ◌<◌, ◌≤◌, Bool, true, false, arith, ap, refl, sym, ◌∙◌, subst, inl, inr, ⊎_elim, ◌⊎◌, list_any, ⊎_map}
use Rattle.pfair_optimal.proofs.BusyBounds.{busy_after}
use Rattle.pfair_optimal.proofs.Past.{any_from, any_some, task_exact, subtask_exact, previous_next, next_previous, ran_at, ran_by, ran_more, next_after, release_two_before, next_release, next_release_late, b_bit_small, next_deadline, first_bound}
use Rattle.pfair_optimal.proofs.Reasons.{picks, reasons, is_full, In, in_time, picks_rows, reason_pick, full_from, full_some, hole_pick, pick_hole, reason_index, reason_follows, reason_ran, full_rows}

-- a row of the task is picked in the slot
abbrev pub is_served : Schedule → ℕ → Subtask → Task → ℕ → Bool
is_served x td missed a t = list_any (λ z. same_task z.task a) (picks x td missed t)

-- what is picked in a hole: it ran in its last slot, in which the next subtask is released, with no delay between them
pub record IsTight (x : Schedule) (w : Subtask) (t : ℕ) : Type 0 where
  pub due : deadline x w ≡ suc t
  pub bit : b_bit x w ≡ 1
  pub next : release x (next_of w) ≡ t
  pub undelayed : x.offset w.task (w.index + 1) ≡ x.offset w.task w.index

-- what ran by the end of the hole t, before the full slot v: it was due by then, and if right then it is bound past v
pub record IsReached (x : Schedule) (t v : ℕ) (z : Subtask) : Type 0 where
  pub due : deadline x z ≤ suc t
  pub bit : deadline x z ≡ suc t → b_bit x z ≡ 1
  pub bound : deadline x z ≡ suc t → v < busy_bound x z

module _ (x : Schedule) {n : ℕ} (is : IsRunBelow x n) (td : ℕ) (within : td ≤ n) (missed : Subtask) (m : IsFirstMiss x td missed) where
  -- all slots from t to v are holes
  abbrev pub AreHoles : ℕ → ℕ → Type 0
  AreHoles t v = (u : ℕ) → t ≤ u → u < v → is_full x td missed u ≡ false

  -- in a hole nothing is left that was ready for it
  pub hole_ran : (z : Subtask) (t : ℕ) → is_full x td missed t ≡ false → In (reasons x td missed) z → release x z ≤ t → (z.index ≡ 1) ⊎ (has_run x (previous_of z) t ≡ true) → has_run x z (suc t) ≡ true
  hole_ran z t hole h released follows = true_from_ne_false (has_run x z (suc t)) (λ not_run.
      true≢false (sym (full_from x is td within missed m t z h (record { released = released; not_run = not_run; follows = follows })) ∙ hole))

  pub tight : (w : Subtask) (t : ℕ) → t < td → is_full x td missed t ≡ false → In (picks x td missed t) w → IsTight x w t
  tight w t less hole h =
      let row = picks_rows x is td within missed m t w h in
      let counted = (is.rows_follow t w (omega arith) row).counted in
      let early = in_time x is td within missed m w t less row in
      let next = hole_pick x is td within missed m t w less hole h in
      let window = next_release x is w counted in
      let rise = is.offsets_rise w.task w.index counted in
      let bit = b_bit_small x is w in
      record { due = omega arith; bit = omega arith; next = omega arith; undelayed = omega arith }

  -- in two holes running the next subtask of a pick is picked next
  pub cascade : (w : Subtask) (t : ℕ) → suc t < td → is_full x td missed t ≡ false → is_full x td missed (suc t) ≡ false → In (picks x td missed t) w → In (picks x td missed (suc t)) (next_of w)
  cascade w t less hole next_hole h =
      let row = picks_rows x is td within missed m t w h in
      let next = hole_pick x is td within missed m t w (omega arith) hole h in
      let before : has_run x (previous_of (next_of w)) (suc t) ≡ true = subst (λ z. has_run x z (suc t) ≡ true) (sym (previous_next w)) (ran_by x w t (suc t) (omega arith) row) in
      let ran = hole_ran (next_of w) (suc t) next_hole next.0 (omega arith) (inr before) in
      let p = reason_ran x is td within missed m (next_of w) (suc (suc t)) less next.0 ran in
      let after = next_after x is w t p.0 (omega arith) (omega arith) row (picks_rows x is td within missed m p.0 (next_of w) p.2) in
      let at : p.0 ≡ suc t = omega arith in
      subst (λ n. In (picks x td missed n) (next_of w)) at p.2

  -- and over k holes, with no delays between
  pub cascades : (w : Subtask) (t k : ℕ) → t + k < td → AreHoles t (t + k + 1) → In (picks x td missed t) w →
      In (picks x td missed (t + k)) (record { task = w.task; index = w.index + k }) × (x.offset w.task (w.index + k) ≡ x.offset w.task w.index)
  cascades w t zero less holes h =
      let slot : t ≡ t + 0 = omega arith in
      let index : w.index ≡ w.index + 0 = omega arith in
      (subst (λ n. In (picks x td missed n) (record { task = w.task; index = w.index + 0 })) slot (subst (λ n. In (picks x td missed t) (record { task = w.task; index = n })) index h), sym (ap (x.offset w.task) index))
  cascades w t (suc k) less holes h =
      let before = cascades w t k (omega arith) (λ u from to. holes u from (omega arith)) h in
      let here = tight (record { task = w.task; index = w.index + k }) (t + k) (omega arith) (holes (t + k) (omega arith) (omega arith)) before.0 in
      let slot : suc (t + k) ≡ t + suc k = omega arith in
      let index : w.index + k + 1 ≡ w.index + suc k = omega arith in
      let next = cascade (record { task = w.task; index = w.index + k }) (t + k) (omega arith) (holes (t + k) (omega arith) (omega arith)) (holes (suc (t + k)) (omega arith) (omega arith)) before.0 in (
        subst (λ n. In (picks x td missed n) (record { task = w.task; index = w.index + suc k })) slot (subst (λ n. In (picks x td missed (suc (t + k))) (record { task = w.task; index = n })) index next),
        sym (ap (x.offset w.task) index) ∙ here.undelayed ∙ before.1,
      )

  -- the busy bound of what is picked in a hole is past the holes
  pub cascade_bound : (w : Subtask) (t v : ℕ) → t < v → v ≤ td → AreHoles t v → In (picks x td missed t) w → v < busy_bound x w
  cascade_bound w t v from to holes h =
      let here = tight w t (omega arith) (holes t (omega arith) from) h in
      let more = cascades w t (v - suc t) (omega arith) (λ u a b. holes u a (omega arith)) h in
      let last = tight (record { task = w.task; index = w.index + (v - suc t) }) (t + (v - suc t)) (omega arith) (holes (t + (v - suc t)) (omega arith) (omega arith)) more.0 in
      let past = busy_after (x.weight w.task) w.index (v - suc t) (x.offset w.task w.index) (is.weights w.task) here.bit (omega arith) last.bit in
      omega arith

  -- so is that of all that ran by the end of the hole and is due right then
  pub reached_from : (t v : ℕ) → t < v → v ≤ td → AreHoles t v → (n s : ℕ) (z : Subtask) → s ≤ t → t < s + n → In (picks x td missed s) z → IsReached x t v z
  reached_from t v from to holes zero s z le near h = absurd (omega arith)
  reached_from t v from to holes (suc n) s z le near h =
      let rest : (u : ℕ) (y : Subtask) → s < u → u ≤ t → In (picks x td missed u) y → IsReached x t v y = λ u y a b i. reached_from t v from to holes n u y b (omega (arith, a)) i in
      grind (arith, cases_eq, at_hole, before_hole, cases_Bool)
    where
      hole : is_full x td missed t ≡ false
      hole = holes t (omega arith) from

      at_hole : In (picks x td missed t) z → IsReached x t v z
      at_hole i =
          let here = tight z t (omega arith) hole i in
          record { due = omega arith; bit = λ _. here.bit; bound = λ _. cascade_bound z t v from to holes i }

      -- it came in by a full slot, for one that waits there, or by a hole, for its next subtask
      before_hole : (s : ℕ) (z : Subtask) → s < t → In (picks x td missed s) z → ((u : ℕ) (y : Subtask) → s < u → u ≤ t → In (picks x td missed u) y → IsReached x t v y)
          → (is_full x td missed s ≡ true) ⊎ (is_full x td missed s ≡ false) → IsReached x t v z
      before_hole s z less i rest (inl full) =
          let w = full_some x is td within missed m s full in
          let first = (full_rows x is td within missed m w.0 s (omega arith) w.1 w.2).1 z (picks_rows x is td within missed m s z i) in
          let bounds = first_bound x is z w.0 first in
          let follows : (w.0.index ≡ 1) ⊎ (has_run x (previous_of w.0) t ≡ true) = ⊎_elim (λ one. inl one) (λ r. inr (ran_more x (previous_of w.0) s t (omega arith) r)) w.2.follows in
          let ran = hole_ran w.0 t hole w.1 (omega arith) follows in
          let p = reason_ran x is td within missed m w.0 (suc t) (omega arith) w.1 ran in
          elim (cases_lt s p.0) [
            | inr earlier ↦ absurd (true≢false (sym (ran_by x w.0 p.0 (suc s) (omega arith) (picks_rows x is td within missed m p.0 w.0 p.2)) ∙ w.2.not_run))
            | inl after ↦
                let that = rest p.0 w.0 after (omega arith) p.2 in
                record {
                  due = omega arith;
                  bit = λ e. (bounds.1 (omega arith) (that.bit (omega arith))).0;
                  bound = λ e. (let b = that.bound (omega arith) in let c = (bounds.1 (omega arith) (that.bit (omega arith))).1 in omega arith);
                }
          ]
      before_hole s z less i rest (inr empty) =
          let row = picks_rows x is td within missed m s z i in
          let next = hole_pick x is td within missed m s z (omega arith) empty i in
          let before : has_run x (previous_of (next_of z)) t ≡ true = subst (λ y. has_run x y t ≡ true) (sym (previous_next z)) (ran_by x z s t less row) in
          let p = reason_ran x is td within missed m (next_of z) (suc t) (omega arith) next.0 (hole_ran (next_of z) t hole next.0 (omega arith) (inr before)) in
          let that = rest p.0 (next_of z) (next_after x is z s p.0 (omega arith) (omega arith) row (picks_rows x is td within missed m p.0 (next_of z) p.2)) (omega arith) p.2 in
          let up = next_deadline x is z (is.rows_follow s z (omega arith) row).counted in
          record { due = omega arith; bit = λ e. absurd (omega arith); bound = λ e. absurd (omega arith) }

  pub reached : (z : Subtask) (t v : ℕ) → t < v → v ≤ td → AreHoles t v → In (reasons x td missed) z → has_run x z (suc t) ≡ true → IsReached x t v z
  reached z t v from to holes h ran =
      let p = reason_ran x is td within missed m z (suc t) (omega arith) h ran in
      reached_from t v from to holes (suc t) p.0 z (omega arith) (omega arith) p.2

  -- ---- who has a window on a hole, but no row that is picked there

  pub served_from : (a : Task) (t : ℕ) (w : Subtask) → In (picks x td missed t) w → w.task ≡ a → is_served x td missed a t ≡ true
  served_from a t w h e = any_from same_subtask subtask_exact (λ (z : Subtask). same_task z.task a) (picks x td missed t) w h ((task_exact w.task a).1 e)

  pub served_some : (a : Task) (t : ℕ) → is_served x td missed a t ≡ true → (w : Subtask) × In (picks x td missed t) w × (w.task ≡ a)
  served_some a t h = let p = any_some same_subtask subtask_exact (λ (z : Subtask). same_task z.task a) (picks x td missed t) h in (p.0, p.1, (task_exact p.0.task a).0 p.2)

  -- that hole is the first of its block, and the last slot of the window
  pub record IsUnserved (z : Subtask) (t : ℕ) : Type 0 where
    pub ran : has_run x z t ≡ true
    pub due : deadline x z ≡ suc t
    pub bit : b_bit x z ≡ 1
    pub first : (s : ℕ) → suc s ≡ t → is_full x td missed s ≡ true

  pub unserved : (z : Subtask) (t : ℕ) → t < td → is_full x td missed t ≡ false → In (reasons x td missed) z → release x z ≤ t → t < deadline x z → is_served x td missed z.task t ≡ false → IsUnserved z t
  unserved z t less hole h opened closes alone =
      let ran = hole_ran z t hole h opened (⊎_map (λ one. one) ready (reason_follows x is td within missed m z h)) in
      let p = reason_ran x is td within missed m z (suc t) less h ran in
      elim (cases_eq p.0 t) [
        | inl now ↦ absurd (true≢false (sym (served_from z.task t z (subst (λ n. In (picks x td missed n) z) now p.2) refl) ∙ alone))
        | inr other ↦
            let before = ran_by x z p.0 t (omega (arith, other)) (picks_rows x is td within missed m p.0 z p.2) in
            let one : AreHoles t (suc t) = λ u a b. (let e : t ≡ u = omega (arith, a, b) in subst (λ n. is_full x td missed n ≡ false) e hole) in
            let that = reached z t (suc t) (omega arith) less one h ran in
            let due : deadline x z ≡ suc t = omega arith in
            record { ran = before; due = due; bit = that.bit due; first = λ s e. first_of s e before }
      ]
    where
      ready : has_run x (previous_of z) td ≡ true → has_run x (previous_of z) t ≡ true
      ready ran =
          let counted = reason_index x is td within missed m z h in
          let p = ran_at x (previous_of z) td ran in
          let early = in_time x is td within missed m (previous_of z) p.0 p.1 p.2 in
          let late = next_release_late x is (previous_of z) (is.rows_follow p.0 (previous_of z) (omega arith) p.2).counted in
          let same : release x (next_of (previous_of z)) ≡ release x z = ap (release x) (next_previous z counted) in
          elim (cases_lt p.0 t) [
            | inl before ↦ ran_by x (previous_of z) p.0 t before p.2
            | inr after ↦ absurd (
                let now : p.0 ≡ t = omega arith in
                let row : is_row x t (previous_of z) ≡ true = subst (λ n. is_row x n (previous_of z) ≡ true) now p.2 in
                let next : In (reasons x td missed) (next_of (previous_of z)) = subst (λ w. In (reasons x td missed) w) (sym (next_previous z counted)) h in
                let pick = pick_hole x is td within missed m t (previous_of z) less hole row next (omega arith) in
                true≢false (sym (served_from z.task t (previous_of z) pick refl) ∙ alone))
          ]

      first_of : (s : ℕ) → suc s ≡ t → has_run x z t ≡ true → is_full x td missed s ≡ true
      first_of s e before = true_from_ne_false (is_full x td missed s) (λ empty.
          let one : AreHoles s (suc s) = λ u a b. (let i : s ≡ u = omega (arith, a, b) in subst (λ n. is_full x td missed n ≡ false) i empty) in
          let that = reached z s (suc s) (omega arith) (omega arith) one h (ap (has_run x z) e ∙ before) in
          omega arith)

  -- within a block who is unserved stays unserved
  pub unserved_next : (a : Task) (t : ℕ) → suc t < td → is_full x td missed t ≡ false → is_full x td missed (suc t) ≡ false → is_served x td missed a t ≡ false → is_served x td missed a (suc t) ≡ false
  unserved_next a t less hole next_hole alone = false_from_ne_true (is_served x td missed a (suc t)) (λ served.
      let p = served_some a (suc t) served in
      let here = tight p.0 (suc t) less next_hole p.1 in
      let first = (is.rows_follow (suc t) p.0 (omega arith) (picks_rows x is td within missed m (suc t) p.0 p.1)).counted in
      let two = release_two_before x is p.0 first here.bit in
      let q = reason_pick x is td within missed m (suc t) p.0 less p.1 in
      let left = unserved p.0 t (omega arith) hole q (omega arith) (omega arith) (ap (λ b. is_served x td missed b t) p.2 ∙ alone) in
      omega arith)

  pub unserved_on : (a : Task) (u s v : ℕ) → u ≤ s → s < v → v ≤ td → AreHoles u v → is_served x td missed a u ≡ false → is_served x td missed a s ≡ false
  unserved_on a u zero v from to le holes alone = let e : u ≡ 0 = omega arith in subst (λ n. is_served x td missed a n ≡ false) e alone
  unserved_on a u (suc s) v from to le holes alone = grind (arith, unserved_next, unserved_on a u s v)
