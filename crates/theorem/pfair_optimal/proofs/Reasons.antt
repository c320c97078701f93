-- The subtasks that a missed one hangs on. Back from the miss, slot by slot: if one of them waits, all rows of the slot come in;
-- if none does, those rows come in whose next subtask is one of them and is released by the slot.
use Rattle.pfair_optimal.proofs.Common.{false_from_ne_true, le_refl, lt_of_not-le, true≢false, false≢true, and_parts, and_from, leb-true, le-leb, cases_lt, cases_Bool, Subtask, is_among, NoneTwice, same_subtask, next_of, previous_of, Schedule, release, deadline, is_row, has_run, IsRunBelow, IsMiss, IsFirstMiss, GoesFirst, ◌≡◌, ℕ, zero, suc, ◌+◌, ◌-◌, ◌<◌, ◌≤◌, Bool, true, false, cond, not, ◌&&◌, List, [], ◌∷◌, ◌++◌, length, arith, ap, refl, sym, ◌∙◌, subst, inl, inr, ⊎_elim, ◌⊎◌, filter, list_any, ⊎_map, ◌||◌, ◌==◌, nat_le}
use Rattle.pfair_optimal.proofs.Past.{among_here, among_cases, among_left, among_right, among_append, among_filter, filter_among, any_from, any_same, any_some, twice_filter, twice_append, subtask_exact, next_previous, ran_at, ran_by, ran_more, row_not_before, next_not_run, release_joined, release_before, next_deadline}

-- it is released by slot v, the one before it ran before v, and it has not run by the end of v
pub record Waits (x : Schedule) (z : Subtask) (v : ℕ) : Type 0 where
  pub released : release x z ≤ v
  pub not_run : has_run x z (suc v) ≡ false
  pub follows : (z.index ≡ 1) ⊎ (has_run x (previous_of z) v ≡ true)

abbrev pub waits : Schedule → ℕ → Subtask → Bool
waits x v z = nat_le (release x z) v && (not (has_run x z (suc v)) && (z.index == 1 || has_run x (previous_of z) v))

pub waits_true : (x : Schedule) (v : ℕ) (z : Subtask) → waits x v z ≡ true → Waits x z v
waits_true x v z h = grind arith

pub waits_from : (x : Schedule) (v : ℕ) (z : Subtask) → Waits x z v → waits x v z ≡ true
waits_from x v z h = grind arith

-- the rows of slot v that those of q hang on
abbrev pub is_wanted : Schedule → List Subtask → ℕ → Subtask → Bool
is_wanted x q v w = is_among same_subtask q (next_of w) && nat_le (release x (next_of w)) v

abbrev pub picks_from : Schedule → List Subtask → ℕ → List Subtask
picks_from x q v = cond (list_any (waits x v) q) (x.table v) (filter (is_wanted x q v) (x.table v))

-- back by n slots from the miss
abbrev pub back : Schedule → ℕ → Subtask → ℕ → List Subtask
back x td missed zero = missed ∷ []
back x td missed (suc n) = picks_from x (back x td missed n) (td - suc n) ++ back x td missed n

-- those that come in at slot t or later, those that come in at slot v, and all
abbrev pub later : Schedule → ℕ → Subtask → ℕ → List Subtask
later x td missed t = back x td missed (td - t)

abbrev pub picks : Schedule → ℕ → Subtask → ℕ → List Subtask
picks x td missed v = picks_from x (later x td missed (suc v)) v

abbrev pub reasons : Schedule → ℕ → Subtask → List Subtask
reasons x td missed = later x td missed 0

-- a slot is full if one of them waits, and else a hole
abbrev pub is_full : Schedule → ℕ → Subtask → ℕ → Bool
is_full x td missed v = list_any (waits x v) (reasons x td missed)

abbrev pub In : List Subtask → Subtask → Type 0
In q z = is_among same_subtask q z ≡ true

-- downward from a time
pub downward : (P : ℕ → Type 0) (td : ℕ) → P td → ((t : ℕ) → t < td → P (suc t) → P t) → (t : ℕ) → t ≤ td → P t
downward P td start step t le = go (td - t) t (omega arith)
  where
    go : (n t : ℕ) → n + t ≡ td → P t
    go zero t e = subst P (let back : td ≡ t = omega arith in back) start
    go (suc n) t e = step t (omega arith) (go n (suc t) (omega arith))

-- a row of a slot at or after its deadline missed it by then
pub late_row : (x : Schedule) {n : ℕ} (is : IsRunBelow x n) (z : Subtask) (s : ℕ) → s < n → is_row x s z ≡ true → deadline x z ≤ s → IsMiss x s z
late_row x is z s early row late =
    let next = is.rows_follow s z early row in
    let opens = release_before x is z next.counted in
    let joined = release_joined x is z next.counted in
    let active = is.active_since z.task (s - 1) s (omega arith) (omega arith) early (is.rows_active s z early row) in
    record { some_time = omega arith; active = active; next = next; not_run = row_not_before x is z s s early row (le_refl s); late = late }

module _ (x : Schedule) {n : ℕ} (is : IsRunBelow x n) (td : ℕ) (within : td ≤ n) (missed : Subtask) (m : IsFirstMiss x td missed) where
  -- what ran before the first miss ran before its deadline
  pub in_time : (z : Subtask) (s : ℕ) → s < td → is_row x s z ≡ true → s < deadline x z
  in_time z s before row = lt_of_not-le (λ late. m.first s z before (late_row x is z s (omega arith) row late))

  -- ---- who came in, and when

  pub later_last : later x td missed td ≡ missed ∷ []
  later_last = let e : td - td ≡ 0 = omega arith in ap (back x td missed) e

  pub later_step : (v : ℕ) → v < td → later x td missed v ≡ picks x td missed v ++ later x td missed (suc v)
  later_step v before =
      let n : td - v ≡ suc (td - suc v) = omega arith in
      let at : td - suc (td - suc v) ≡ v = omega arith in
      ap (back x td missed) n ∙ ap (λ (k : ℕ). picks_from x (later x td missed (suc v)) k ++ later x td missed (suc v)) at

  -- picks are rows
  pub picks_rows : (v : ℕ) (w : Subtask) → In (picks x td missed v) w → is_row x v w ≡ true
  picks_rows v w = by (list_any (waits x v) q)
    where
      q : List Subtask
      q = later x td missed (suc v)

      by : (b : Bool) → In (cond b (x.table v) (filter (is_wanted x q v) (x.table v))) w → is_row x v w ≡ true
      by true h = h
      by false h = (among_filter same_subtask subtask_exact (is_wanted x q v) (x.table v) w h).0

  pub later_cases : (t : ℕ) → t ≤ td → (z : Subtask) → In (later x td missed t) z → (z ≡ missed) ⊎ ((v : ℕ) × (t ≤ v) × (v < td) × In (picks x td missed v) z)
  later_cases = downward (λ t. (z : Subtask) → In (later x td missed t) z → (z ≡ missed) ⊎ ((v : ℕ) × (t ≤ v) × (v < td) × In (picks x td missed v) z)) td
      (λ z h. ⊎_elim (λ e. inl e) (λ none. absurd (false≢true none)) (among_cases same_subtask subtask_exact missed [] z (subst (λ q. In q z) later_last h)))
      (λ t less rest z h. ⊎_elim
      (λ here. inr (t, omega arith, less, here))
      (λ after. ⊎_elim (λ e. inl e) (λ p. inr (p.0, omega arith, p.2, p.3)) (rest z after))
      (among_append same_subtask subtask_exact (picks x td missed t) (later x td missed (suc t)) z (subst (λ q. In q z) (later_step t less) h)))

  pub later_missed : (t : ℕ) → t ≤ td → In (later x td missed t) missed
  later_missed = downward (λ t. In (later x td missed t) missed) td
      (subst (λ q. In q missed) (sym later_last) (among_here same_subtask subtask_exact [] missed))
      (λ t less rest. subst (λ q. In q missed) (sym (later_step t less)) (among_right same_subtask subtask_exact (picks x td missed t) (later x td missed (suc t)) missed rest))

  pub later_pick : (t : ℕ) → t ≤ td → (v : ℕ) (z : Subtask) → t ≤ v → v < td → In (picks x td missed v) z → In (later x td missed t) z
  later_pick = downward (λ t. (v : ℕ) (z : Subtask) → t ≤ v → v < td → In (picks x td missed v) z → In (later x td missed t) z) td
      (λ v z from to h. absurd (omega arith))
      (λ t less rest v z from to h. subst (λ q. In q z) (sym (later_step t less))
      (elim (cases_lt t v) [
        | inl after ↦ among_right same_subtask subtask_exact (picks x td missed t) (later x td missed (suc t)) z (rest v z after to h)
        | inr now ↦ among_left same_subtask subtask_exact (picks x td missed t) (later x td missed (suc t)) z (let e : v ≡ t = omega arith in subst (λ n. In (picks x td missed n) z) e h)
      ]))

  pub reason_cases : (z : Subtask) → In (reasons x td missed) z → (z ≡ missed) ⊎ ((v : ℕ) × (v < td) × In (picks x td missed v) z)
  reason_cases z h = ⊎_map (λ e. e) (λ p. (p.0, p.2, p.3)) (later_cases 0 (omega arith) z h)

  pub reason_pick : (v : ℕ) (z : Subtask) → v < td → In (picks x td missed v) z → In (reasons x td missed) z
  reason_pick v z before h = later_pick 0 (omega arith) v z (omega arith) before h

  pub later_reason : (v : ℕ) (z : Subtask) → v ≤ td → In (later x td missed v) z → In (reasons x td missed) z
  later_reason v z le h = grind (arith, later_missed, reason_pick, later_cases)

  -- what has not run by the end of v came in later
  pub reason_later : (z : Subtask) (v : ℕ) → v < td → In (reasons x td missed) z → has_run x z (suc v) ≡ false → In (later x td missed (suc v)) z
  reason_later z v before h not_run = ⊎_elim
      (λ e. subst (λ w. In (later x td missed (suc v)) w) (sym e) (later_missed (suc v) before))
      (λ (p : (v : ℕ) × (v < td) × In (picks x td missed v) z). elim (cases_lt v p.0) [
        | inl after ↦ later_pick (suc v) before p.0 z after p.1 p.2
        | inr earlier ↦ absurd (true≢false (sym (ran_by x z p.0 (suc v) (omega arith) (picks_rows p.0 z p.2)) ∙ not_run))
      ])
      (reason_cases z h)

  -- what came in at v or later has not run before v
  pub later_not_run : (z : Subtask) (v : ℕ) → v ≤ td → In (later x td missed v) z → has_run x z v ≡ false
  later_not_run z v le h = ⊎_elim
      (λ e. subst (λ w. has_run x w v ≡ false) (sym e) (false_from_ne_true (has_run x missed v) (λ ran. true≢false (sym (ran_more x missed v td le ran) ∙ m.miss.not_run))))
      (λ p. row_not_before x is z p.0 v (omega arith) (picks_rows p.0 z p.3) p.1)
      (later_cases v le z h)

  -- ---- full slots and holes

  -- who makes v full came in later
  pub full_from : (v : ℕ) (z : Subtask) → In (reasons x td missed) z → Waits x z v → is_full x td missed v ≡ true
  full_from v z h w = any_from same_subtask subtask_exact (waits x v) (reasons x td missed) z h (waits_from x v z w)

  pub full_some : (v : ℕ) → is_full x td missed v ≡ true → (z : Subtask) × In (reasons x td missed) z × Waits x z v
  full_some v h = let t = any_some same_subtask subtask_exact (waits x v) (reasons x td missed) h in (t.0, t.1, waits_true x v t.0 t.2)

  full_later : (v : ℕ) → v < td → list_any (waits x v) (later x td missed (suc v)) ≡ is_full x td missed v
  full_later v before = any_same same_subtask subtask_exact (waits x v) (later x td missed (suc v)) (reasons x td missed)
      (λ z w. (later_reason (suc v) z before, λ h. reason_later z v before h (waits_true x v z w).not_run))

  -- the picks of a full slot are all its rows
  pub picks_full : (v : ℕ) → v < td → is_full x td missed v ≡ true → picks x td missed v ≡ x.table v
  picks_full v before h = ap (λ b. cond b (x.table v) (filter (is_wanted x (later x td missed (suc v)) v) (x.table v))) (full_later v before ∙ h)

  picks_hole : (v : ℕ) → v < td → is_full x td missed v ≡ false → picks x td missed v ≡ filter (is_wanted x (later x td missed (suc v)) v) (x.table v)
  picks_hole v before h = ap (λ b. cond b (x.table v) (filter (is_wanted x (later x td missed (suc v)) v) (x.table v))) (full_later v before ∙ h)

  -- those of a hole are the rows whose next subtasks are among the reasons, and released by then
  pub hole_pick : (v : ℕ) (w : Subtask) → v < td → is_full x td missed v ≡ false → In (picks x td missed v) w → In (reasons x td missed) (next_of w) × (release x (next_of w) ≤ v)
  hole_pick v w before h at =
      let f = among_filter same_subtask subtask_exact (is_wanted x (later x td missed (suc v)) v) (x.table v) w (subst (λ q. In q w) (picks_hole v before h) at) in
      let p = and_parts (is_among same_subtask (later x td missed (suc v)) (next_of w)) (nat_le (release x (next_of w)) v) f.1 in
      (later_reason (suc v) (next_of w) before p.0, leb-true (release x (next_of w)) v p.1)

  pub pick_hole : (v : ℕ) (w : Subtask) → v < td → is_full x td missed v ≡ false → is_row x v w ≡ true → In (reasons x td missed) (next_of w) → release x (next_of w) ≤ v → In (picks x td missed v) w
  pick_hole v w before h row next released =
      subst (λ q. In q w) (sym (picks_hole v before h))
      (filter_among same_subtask subtask_exact (is_wanted x (later x td missed (suc v)) v) (x.table v) w row
      (and_from (is_among same_subtask (later x td missed (suc v)) (next_of w)) (nat_le (release x (next_of w)) v) (reason_later (next_of w) v before next (next_not_run x is w v (omega arith) row)) (le-leb (release x (next_of w)) v released)))

  -- ---- what each of them is

  pub reason_index : (z : Subtask) → In (reasons x td missed) z → 1 ≤ z.index
  reason_index z h = ⊎_elim
      (λ e. subst (λ (w : Subtask). 1 ≤ w.index) (sym e) m.miss.next.counted)
      (λ p. (is.rows_follow p.0 z (omega arith) (picks_rows p.0 z p.2)).counted)
      (reason_cases z h)

  pub reason_follows : (z : Subtask) → In (reasons x td missed) z → (z.index ≡ 1) ⊎ (has_run x (previous_of z) td ≡ true)
  reason_follows z h = ⊎_elim
      (λ e. subst (λ (w : Subtask). (w.index ≡ 1) ⊎ (has_run x (previous_of w) td ≡ true)) (sym e) m.miss.next.follows)
      (λ p. ⊎_elim (λ f. inl f) (λ r. inr (ran_more x (previous_of z) p.0 td (omega arith) r)) (is.rows_follow p.0 z (omega arith) (picks_rows p.0 z p.2)).follows)
      (reason_cases z h)

  -- what ran before t is a pick of a slot before t
  pub reason_ran : (z : Subtask) (t : ℕ) → t ≤ td → In (reasons x td missed) z → has_run x z t ≡ true → (v : ℕ) × (v < t) × In (picks x td missed v) z
  reason_ran z t le h ran = ⊎_elim
      (λ e. absurd (true≢false (sym (subst (λ w. has_run x w td ≡ true) e (ran_more x z t td le ran)) ∙ m.miss.not_run)))
      (λ (p : (v : ℕ) × (v < td) × In (picks x td missed v) z). elim (cases_lt p.0 t) [
        | inl before ↦ (p.0, before, p.2)
        | inr after ↦ absurd (true≢false (sym ran ∙ row_not_before x is z p.0 t (omega arith) (picks_rows p.0 z p.2) after))
      ])
      (reason_cases z h)

  -- a task with one of them that has not run by the end of v is active in v
  pub reason_active : (z : Subtask) (v : ℕ) → v < td → In (reasons x td missed) z → has_run x z (suc v) ≡ false → z.task.joined ≤ v → x.is_active z.task v ≡ true
  reason_active z v before h not_run joined = ⊎_elim
      (λ e. is.active_since z.task v (td - 1) joined (omega arith) (omega arith) (subst (λ (w : Subtask). x.is_active w.task (td - 1) ≡ true) (sym e) m.miss.active))
      (λ (p : (v : ℕ) × (v < td) × In (picks x td missed v) z). elim (cases_lt v p.0) [
        | inl after ↦ is.active_since z.task v p.0 joined (omega arith) (omega arith) (is.rows_active p.0 z (omega arith) (picks_rows p.0 z p.2))
        | inr earlier ↦ absurd (true≢false (sym (ran_by x z p.0 (suc v) (omega arith) (picks_rows p.0 z p.2)) ∙ not_run))
      ])
      (reason_cases z h)

  pub later_twice : (t : ℕ) → t ≤ td → NoneTwice same_subtask (later x td missed t)
  later_twice = downward (λ t. NoneTwice same_subtask (later x td missed t)) td
      (subst (NoneTwice same_subtask) (sym later_last) (refl, tt))
      (λ t less rest. subst (NoneTwice same_subtask) (sym (later_step t less))
      (twice_append same_subtask subtask_exact (picks x td missed t) (later x td missed (suc t)) (picks_twice t less) rest
      (λ z here after. true≢false (sym (ran_by x z t (suc t) (omega arith) (picks_rows t z here)) ∙ later_not_run z (suc t) less after))))
    where
      picks_twice : (t : ℕ) → t < td → NoneTwice same_subtask (picks x td missed t)
      picks_twice t less = grind (arith, twice_filter, subtask_exact)

  -- a full slot has a row on each processor, and each goes before each that waits
  pub full_rows : (z : Subtask) (v : ℕ) → v < td → In (reasons x td missed) z → Waits x z v → (length (x.table v) ≡ x.processors) × ((w : Subtask) → is_row x v w ≡ true → GoesFirst x w z)
  full_rows z v before h w =
      let first = reason_index z h in
      let joined = release_joined x is z first in
      is.chosen v z (omega arith) (record { counted = first; follows = w.follows }) (reason_active z v before h w.not_run (omega arith)) w.released w.not_run

  -- no deadline of them is after the miss
  pub due_by_miss : (t : ℕ) → t ≤ td → (z : Subtask) → In (later x td missed t) z → deadline x z ≤ td
  due_by_miss = downward (λ t. (z : Subtask) → In (later x td missed t) z → deadline x z ≤ td) td
      (λ z h. ⊎_elim (λ e. subst (λ w. deadline x w ≤ td) (sym e) m.miss.late) (λ none. absurd (false≢true none)) (among_cases same_subtask subtask_exact missed [] z (subst (λ q. In q z) later_last h)))
      (λ t less rest z h. ⊎_elim
      (λ here. by_slot t less rest z here (cases_Bool (is_full x td missed t)))
      (λ after. rest z after)
      (among_append same_subtask subtask_exact (picks x td missed t) (later x td missed (suc t)) z (subst (λ q. In q z) (later_step t less) h)))
    where
      by_slot : (t : ℕ) → t < td → ((z : Subtask) → In (later x td missed (suc t)) z → deadline x z ≤ td) → (z : Subtask) → In (picks x td missed t) z
          → (is_full x td missed t ≡ true) ⊎ (is_full x td missed t ≡ false) → deadline x z ≤ td
      by_slot t less rest z here (inl full) =
          let w = full_some t full in
          let first = (full_rows w.0 t less w.1 w.2).1 z (picks_rows t z here) in
          let due = rest w.0 (reason_later w.0 t less w.1 w.2.not_run) in
          omega arith
      by_slot t less rest z here (inr hole) =
          let row = picks_rows t z here in
          let p = hole_pick t z less hole here in
          let up = next_deadline x is z (is.rows_follow t z (omega arith) row).counted in
          let due = rest (next_of z) (reason_later (next_of z) t less p.0 (next_not_run x is z t (omega arith) row)) in
          omega arith

  -- the slot before the miss is full
  pub full_last : (last : ℕ) → suc last ≡ td → is_full x td missed last ≡ true
  full_last last e =
      let opens = release_before x is missed m.miss.next.counted in
      full_from last missed (later_missed 0 (omega arith)) (record {
        released = omega arith;
        not_run = ap (has_run x missed) e ∙ m.miss.not_run;
        follows = ⊎_map (λ one. one) before_last m.miss.next.follows;
      })
    where
      before_last : has_run x (previous_of missed) td ≡ true → has_run x (previous_of missed) last ≡ true
      before_last ran =
          let p = ran_at x (previous_of missed) td ran in
          let early = in_time (previous_of missed) p.0 p.1 p.2 in
          let up = next_deadline x is (previous_of missed) (is.rows_follow p.0 (previous_of missed) (omega arith) p.2).counted in
          let same : deadline x (next_of (previous_of missed)) ≡ deadline x missed = ap (deadline x) (next_previous missed m.miss.next.counted) in
          ran_by x (previous_of missed) p.0 last (omega arith) p.2
