-- The executive keeps the premises of a run, so no admitted task misses.
use Rattle.pfair_in_time.proofs.Common.{Contains, cases_lt, cases_eq, lt-ltb, le-ltb, slice_get_within, slice_get-get_or, Share, IsWeight, deadline_of, b_bit_of, group_deadline_of, deadline_rises_strictly, b_bit_at_most_one, Key, Member, theta, busy_until, theta_rises, sum_by-cons, units_of, announcements, room_boundary, Settings, machine, counted, counted_one, Story, history, world, world_counted, Among, true≢false, cases_order, and_parts, and_from, not-true, not_from_false, le-leb, length-map, release_of, among_contains, contains_among, filter_among, map_among, is_departing, eligible_from, next_key, eligible, is_eligible, IsSound, any_among, eligible_no_later, same_Some, cases_Bool, leb-true, starts_job_of, eligible_at_job, eligible_not_early, ◌≡◌, ℕ, suc, ◌+◌, ◌-◌, ◌*◌, ◌<◌, ◌≤◌, List, length, arith, ap, inl, inr, get_or, if◌then◌else◌, zero, [], ◌∷◌, refl, subst, sym, map, None, sum_by, ◌%◌, true, false, Option, Some, ◌∙◌, ◌⊎◌, not, filter, nat_le, cond, group_deadline_light, group_deadline_whole, group_deadline_heavy, group_deadline_not_before, group_deadline_rises, by_kind, keys_total, goes_before, place_of, at_place, less_by_rank, first_within, by_rank_first, once_from_names, busy_bound_of, Task, Subtask, Schedule, is_among, same_task, release, deadline, b_bit, group_deadline, busy_bound, is_row, has_run, IsNext, GoesFirst, IsRunBelow, task_exact, ran_by, ran_more, ran_at, false_from_ne_true}
use Rattle.pfair_order.specs.Order.{pd2_cmp, GoesBefore, rank, first_by_rank, EachOnce}
use Rattle.pfair_admission.specs.Laws.{HaveRoom}
use Rattle.pfair_in_time.proofs.Worlds.{any_from_among, runs, keys_at, keys_apart, runs_chosen, chosen_runs, here, HaveWeights, same_member, on_next, index_after}
use Rattle.pfair_in_time.proofs.AsRun.{line_of, back_to, on_to, IsGone, test_among, task_of, subtask_of, is_task, last_of, or_else, weight_in, offset_in, is_running, row_of, as_run, row_member, member_row, rows_apart, IsFinal, final, next_counted, all_before_ran, none_after_ran, find_task}
use Rattle.pfair_optimal.proofs.Counting.{beginnings}

-- How long a claim is held, and who goes before whom.

-- a later offset puts the group deadline of a heavy weight off
group_moves : (w : Share) (i from to : ℕ) → IsWeight w.cost w.period → from ≤ to → group_deadline_of w i from ≤ group_deadline_of w i to
group_moves w i from to h le = grind (arith, by_kind, group_deadline_light, group_deadline_heavy, group_deadline_whole)

-- the claim of a later subtask is held past the busy bound of an earlier one
pub bound_le_claim : (m : Member) (i j : ℕ) → IsWeight m.weight.cost m.weight.period → i ≤ j → busy_bound_of m.weight i (theta m i) ≤ busy_until m j
bound_le_claim m i j h le =
    let moved = theta_rises m i j le in
    let small = b_bit_at_most_one m.weight i in
    elim (cases_lt (2 * m.weight.cost) m.weight.period) [
      | inl light ↦
          let none = group_deadline_light m.weight i (theta m i) light in
          let is : busy_until m j ≡ deadline_of m.weight j (theta m j) + b_bit_of m.weight j = ap (λ b. if b then deadline_of m.weight j (theta m j) + b_bit_of m.weight j else group_deadline_of m.weight j (theta m j) + 1) (lt-ltb (2 * m.weight.cost) m.weight.period light) in
          elim (cases_eq i j) [
            | inl e ↦ (let same : deadline_of m.weight i (theta m i) + b_bit_of m.weight i ≡ deadline_of m.weight j (theta m j) + b_bit_of m.weight j = ap (λ (k : ℕ). deadline_of m.weight k (theta m k) + b_bit_of m.weight k) e in omega arith)
            | inr other ↦ (let up = deadline_rises_strictly m.weight i j 0 h (omega (arith, other)) in omega arith)
          ]
      | inr heavy ↦
          let is : busy_until m j ≡ group_deadline_of m.weight j (theta m j) + 1 = ap (λ b. if b then deadline_of m.weight j (theta m j) + b_bit_of m.weight j else group_deadline_of m.weight j (theta m j) + 1) (le-ltb (2 * m.weight.cost) m.weight.period heavy) in
          let up = group_deadline_rises m.weight i j (theta m i) h le in
          grind (arith, group_moves, group_deadline_not_before)
    ]

-- if a key isn't among the first, these are as many as there may be, and each goes before it
pub record IsPast (m : ℕ) (first : List Key) (k : Key) : Type 0 where
  pub full : length first ≡ m
  pub before : (g : Key) → Contains first g → GoesBefore g k

pub past_first : (m : ℕ) (keys : List Key) (k : Key) → EachOnce pd2_cmp keys → Contains keys k → (Contains (first_by_rank pd2_cmp m keys) k → ⊥) → IsPast m (first_by_rank pd2_cmp m keys) k
past_first m keys k once inside out =
    let first = by_rank_first keys_total m keys once in
    let past : m ≤ rank pd2_cmp keys k = elim (cases_lt (rank pd2_cmp keys k) m) [
      | inl below ↦ absurd (out (at_place (first_by_rank pd2_cmp m keys) (rank pd2_cmp keys k) k (first.complete k inside below)))
      | inr after ↦ after
    ] in
    record {
      full = (let most = first_within keys_total m keys (first_by_rank pd2_cmp m keys) first in elim (cases_eq m 0) [
        | inl none ↦ omega arith
        | inr some ↦ (let enough = reaches (m - 1) (omega (arith, some)) (omega (arith, some, past)) in omega arith)
      ]);
      before = λ g h. (let at = place_of (first_by_rank pd2_cmp m keys) g h in let own = first.at_rank at.0 g at.1 in let same = own.1 in let low = own.2 in goes_before g k (less_by_rank keys_total keys g k (omega arith)));
    }
  where
    -- there is a key of each lower rank
    reaches : (i : ℕ) → i < m → i ≤ rank pd2_cmp keys k → i < length (first_by_rank pd2_cmp m keys)
    reaches i low to =
        let all = first_by_rank pd2_cmp (suc (rank pd2_cmp keys k)) keys in
        let more = by_rank_first keys_total (suc (rank pd2_cmp keys k)) keys once in
        let long = slice_get_within (first_by_rank pd2_cmp (suc (rank pd2_cmp keys k)) keys) (rank pd2_cmp keys k) k (more.complete k inside (omega arith)) in
        let at = slice_get-get_or (first_by_rank pd2_cmp (suc (rank pd2_cmp keys k)) keys) i k (omega arith) in
        let own = more.at_rank i (get_or (first_by_rank pd2_cmp (suc (rank pd2_cmp keys k)) keys) i k) at in
        let first = by_rank_first keys_total m keys once in
        let there = first.complete (get_or (first_by_rank pd2_cmp (suc (rank pd2_cmp keys k)) keys) i k) own.0 (let r = own.1 in omega arith) in
        grind (arith, slice_get_within)

-- The weights of the members have room in every slot.

pub sum_same : {A : Type 0} (f : A → ℕ) (h : Member → A) (g : Member → ℕ) (ms : List Member)
    → ((m : Member) → Among ms m → f (h m) ≡ g m) → sum_by f (map h ms) ≡ sum_by g ms
sum_same f h g [] same = refl
sum_same f h g (m ∷ ms) same = grind (arith, sum_same f h g ms, sum_by-cons)

pub room_world : (s : Settings) (x : Story) (t : ℕ) → HaveRoom (machine s) (world None s x t)
room_world s x zero = room_boundary (machine s) 0 [] (announcements (x 0)) (omega arith)
room_world s x (suc t) =
    let tables = (history None s x (suc t)).tables in
    subst (HaveRoom (machine s)) (sym (world_counted s x t))
    (room_boundary (machine s) (suc t) (counted tables (world None s x t)) (announcements (x (suc t)))
    (let before = room_world s x t in let same = sum_same (λ (m : Member). units_of m.weight s.frame) (counted_one tables) (λ (m : Member). units_of m.weight s.frame) (world None s x t) (λ m h. refl) in omega arith))

-- The executive keeps the premises of a run.

-- ---- who goes before whom

-- the key of a subtask in a run
abbrev key_in : Schedule → Subtask → Key
key_in r z = record { d = deadline r z; b = b_bit r z; group = group_deadline r z; name = z.task.name }

goes_first : (r : Schedule) (w z : Subtask) → GoesBefore (key_in r w) (key_in r z) → GoesFirst r w z
goes_first r w z before = grind (arith, b_bit_at_most_one)

module _ (s : Settings) (x : Story) (frame : 0 < s.frame) (weights : HaveWeights x) (n : ℕ) where
  -- the task in the end is a member of some slot
  last_member : (k : ℕ) (a : Task) (m : Member) → last_of s x k a ≡ Some m → IsSound s.frame m × (task_of m ≡ a)
  last_member zero a m e = absurd (cc)
  last_member (suc k) a m e = elim (find_task a (world None s x k)) [
    | inl p ↦ (
        let same = same_Some p.0 m (sym (ap (λ o. or_else o (last_of s x k a)) p.1) ∙ e) in
        subst (λ (l : Member). IsSound s.frame l × (task_of l ≡ a)) same ((here s x weights k p.0 p.2).sound, p.3))
    | inr none ↦ last_member k a m (sym (ap (λ o. or_else o (last_of s x k a)) none.0) ∙ e)
  ]

  -- what is wanted of weights and offsets, by whether the task was ever a member
  record IsFit (a : Task) (o : Option Member) : Type 0 where
    weight : IsWeight (weight_in o).cost (weight_in o).period
    period : s.frame % (weight_in o).period ≡ 0
    starts : (i : ℕ) → a.joined ≤ offset_in a o i
    rises : (i : ℕ) → offset_in a o i ≤ offset_in a o (i + 1)

  fit : (a : Task) → IsFit a (last_of s x n a)
  fit a = by (last_of s x n a) refl
    where
      by : (o : Option Member) → last_of s x n a ≡ o → IsFit a o
      by None e = record { weight = record { some_cost = omega arith; at_most_one = omega arith; period_in_range = omega arith }; period = omega arith; starts = λ i. omega arith; rises = λ i. omega arith }
      by (Some m) e =
          let p = last_member n a m e in
          let joined : m.joined ≡ a.joined = ap (λ (b : Task). b.joined) p.1 in
          record { weight = p.0.weight; period = p.0.period; starts = λ i. omega arith; rises = λ i. theta_rises m i (i + 1) (omega arith) }

  -- a member's next subtask, if its offset doesn't change any more
  key_is : (t : ℕ) (m : Member) → IsFinal s x weights n t m
      → (as_run s x n).offset (task_of m) m.next ≡ theta m m.next → key_in (as_run s x n) (subtask_of m) ≡ next_key m
  key_is t m f offset = λ i.
      record { d = deadline_of (f.weight i) m.next (offset i); b = b_bit_of (f.weight i) m.next; group = group_deadline_of (f.weight i) m.next (offset i); name = m.name }

  -- who is active
  active_member : (a : Task) (t : ℕ) → (as_run s x n).is_active a t ≡ true → (m : Member) × Among (world None s x t) m × (task_of m ≡ a) × (is_departing m ≡ false)
  active_member a t h =
      let p = any_among (is_running a) (world None s x t) h in
      let q = and_parts (is_task a p.0) (not (is_departing p.0)) p.2 in
      (p.0, p.1, (task_exact (task_of p.0) a).0 q.0, not-true (is_departing p.0) q.1)

  pub member_active : (a : Task) (t : ℕ) (m : Member) → Among (world None s x t) m → task_of m ≡ a → is_departing m ≡ false → (as_run s x n).is_active a t ≡ true
  member_active a t m h e d = any_from_among (is_running a) (world None s x t) m h (and_from (is_task a m) (not (is_departing m)) ((task_exact (task_of m) a).1 e) (not_from_false (is_departing m) d))

  member_among : (a : Task) (t : ℕ) (m : Member) → Among (world None s x t) m → task_of m ≡ a → is_among same_task (map task_of (world None s x t)) a ≡ true
  member_among a t m h e = test_among same_task task_exact (map task_of (world None s x t)) a (subst (λ b. Among (map task_of (world None s x t)) b) e (map_among task_of (world None s x t) m h))

  task_is : (l m : Member) → l.name ≡ m.name → l.joined ≡ m.joined → task_of l ≡ task_of m
  task_is l m name joined = λ i. record { name = name i; joined = joined i }

  -- ---- rows

  not_later : (u t : ℕ) (z : Subtask) → u < t → is_row (as_run s x n) u z ≡ true → is_row (as_run s x n) t z ≡ true → ⊥
  not_later u t z less one other =
      let p = row_member s x n u z one in
      let q = row_member s x n t z other in
      let same : subtask_of q.0 ≡ subtask_of p.0 = sym q.3 ∙ p.3 in
      let line = line_of s x weights t u p.0 q.0 p.1 q.1 (omega arith) (ap (λ (y : Subtask). y.task.name) same) (ap (λ (y : Subtask). y.task.joined) same) in
      grind arith

  -- the subtask that a member is at is its next
  pub at_next : (t : ℕ) (m : Member) (i : ℕ) → Among (world None s x t) m → m.next ≡ i → IsNext (as_run s x n) (record { task = task_of m; index = i }) t
  at_next t m i h e = grind (arith, next_counted, cases_eq, all_before_ran)

  -- ---- members

  held : (z : Subtask) (u t : ℕ) → u < n → is_row (as_run s x n) u z ≡ true → z.task.joined ≤ t → t < busy_bound (as_run s x n) z → is_among same_task ((as_run s x n).members t) z.task ≡ true
  held z u t less row joined before =
      let p = row_member s x n u z row in
      by p.0 p.1 p.2 p.3 (cases_lt u t)
    where
      by : (m : Member) → Among (world None s x u) m → runs s x u m ≡ true → z ≡ subtask_of m → (u < t) ⊎ (t ≤ u) → is_among same_task ((as_run s x n).members t) z.task ≡ true
      by m h named e (inr earlier) =
          let since : z.task.joined ≡ m.joined = ap (λ (y : Subtask). y.task.joined) e in
          let q = back_to s x weights u t m h (omega arith) earlier in
          member_among z.task t q.0 q.1 (task_is q.0 m (sym q.2.name) (sym q.2.joined) ∙ ap (λ (y : Subtask). y.task) (sym e))
      by m h named e (inl later) =
          elim (on_to s x weights t u m h (omega arith)) [
            | inl q ↦ member_among z.task t q.0 q.1 (task_is q.0 m q.2.name q.2.joined ∙ ap (λ (y : Subtask). y.task) (sym e))
            | inr q ↦ absurd (gone q.0 q.1)
          ]
        where
          gone : (l : Member) → IsGone s x weights u t m l → ⊥
          gone l g =
              let f = final s x weights n u m h less in
              grind (arith, bound_le_claim, next_counted)

  -- ---- the order

  chosen_first : (t : ℕ) (z : Subtask) → t < n → IsNext (as_run s x n) z t → (as_run s x n).is_active z.task t ≡ true → release (as_run s x n) z ≤ t → has_run (as_run s x n) z (suc t) ≡ false
      → (length ((as_run s x n).table t) ≡ s.processors) × ((w : Subtask) → is_row (as_run s x n) t w ≡ true → GoesFirst (as_run s x n) w z)
  chosen_first t z less next active opened not_run =
      let p = active_member z.task t active in
      let m = p.0 in
      let z_at : (i : ℕ) → z.index ≡ i → z ≡ record { task = task_of m; index = i } = λ i same. (λ j. record { task = sym p.2 j; index = same j }) in
      let counted = next.counted in
      let some = next_counted s x weights t m p.1 in
      -- the member is at this very subtask
      let index : z.index ≡ m.next = elim (cases_order z.index m.next) [
        | inl same ↦ same
        | inr (inl lower) ↦ absurd (
            let ran = all_before_ran s x weights n t m z.index p.1 counted lower in
            let now = ran_more (as_run s x n) (record { task = task_of m; index = z.index }) t (suc t) (omega arith) ran in
            true≢false (sym (subst (λ y. has_run (as_run s x n) y (suc t) ≡ true) (sym (z_at z.index refl)) now) ∙ not_run))
        | inr (inr higher) ↦ grind (arith, none_after_ran)
      ] in
      let is_it = z_at m.next index in
      let f = final s x weights n t m p.1 less in
      let released : release_of m.weight m.next (theta m m.next) ≤ t =
      (let same : release (as_run s x n) z ≡ release_of m.weight m.next ((as_run s x n).offset (task_of m) m.next) = ap (release (as_run s x n)) is_it ∙ ap (λ (w : Share). release_of w m.next ((as_run s x n).offset (task_of m) m.next)) f.weight in
      let up = f.rises m.next in
      omega arith) in
      let by_then = eligible_no_later m m.next in
      let may_run : is_eligible t m ≡ true =
      and_from (not (is_departing m)) (nat_le (eligible_from m m.next) t) (not_from_false (is_departing m) p.3) (le-leb (eligible_from m m.next) t (omega (arith, by_then, released))) in
      let among = among_contains (eligible t (world None s x t)) (next_key m)
      (map_among next_key (filter (is_eligible t) (world None s x t)) m (filter_among (is_eligible t) (world None s x t) m p.1 may_run)) in
      let out : Contains (keys_at s x t) (next_key m) → ⊥ = λ c.
      (let row = member_row s x n t m p.1 (chosen_runs s x t m (contains_among (keys_at s x t) (next_key m) c)) in
      let ran = ran_by (as_run s x n) (subtask_of m) t (suc t) (omega arith) row in
      true≢false (sym (subst (λ y. has_run (as_run s x n) y (suc t) ≡ true) (sym is_it) ran) ∙ not_run)) in
      let past = past_first s.processors (eligible t (world None s x t)) (next_key m) (once_from_names (eligible t (world None s x t)) (keys_apart s x t)) among out in (
        length-map (keys_at s x t) (row_of (world None s x t)) ∙ past.full,
        λ w row.
            (let q = row_member s x n t w row in
            let l = q.0 in
            let g = final s x weights n t l q.1 less in
            let before = past.before (next_key l) (among_contains (keys_at s x t) (next_key l) (runs_chosen s x t l q.1 q.2).1) in
            let keys : GoesBefore (key_in (as_run s x n) (subtask_of l)) (key_in (as_run s x n) (subtask_of m)) =
            subst (λ (k : Key × Key). GoesBefore k.0 k.1)
            (λ i. (sym (key_is t l g (g.stays_run l.next q.2 (omega arith))) i, sym (key_is t m f (f.stays m.next (inr released))) i)) before in
            subst (λ (y : Subtask × Subtask). GoesFirst (as_run s x n) y.0 y.1) (λ i. (sym q.3 i, sym is_it i))
            (goes_first (as_run s x n) (subtask_of l) (subtask_of m) keys)),
      )

  pub is_run : IsRunBelow (as_run s x n) n
  is_run = record {
    frame = frame;
    weights = λ a. (fit a).weight;
    periods = λ a. (fit a).period;
    offsets_start = λ a i _. (fit a).starts i;
    offsets_rise = λ a i _. (fit a).rises i;
    rows_apart = λ t _. rows_apart s x n t;
    rows_once = grind (arith, cases_order, not_later);
    rows_follow = λ t z _ row. (let p = row_member s x n t z row in subst (λ y. IsNext (as_run s x n) y t) (sym p.3) (at_next t p.0 p.0.next p.1 refl));
    rows_active = λ t z _ row.
        (let p = row_member s x n t z row in
        let q = and_parts (not (is_departing p.0)) (nat_le (eligible_from p.0 p.0.next) t) (runs_chosen s x t p.0 p.1 p.2).0 in
        member_active z.task t p.0 p.1 (ap (λ (y : Subtask). y.task) (sym p.3)) (not-true (is_departing p.0) q.0));
    active_since = λ a u t joined le _ h.
        (let p = active_member a t h in
        let same : p.0.joined ≡ a.joined = ap (λ (b : Task). b.joined) p.2 in
        let q = back_to s x weights t u p.0 p.1 (omega arith) le in
        let stays = false_from_ne_true (is_departing q.0) (λ d. true≢false (sym (q.2.departing d) ∙ p.3)) in
        member_active a u q.0 q.1 (task_is q.0 p.0 (sym q.2.name) (sym q.2.joined) ∙ p.2) stays);
    active_members = λ a t _ h. (let p = active_member a t h in member_among a t p.0 p.1 p.2);
    held = λ z u t less _ row joined before. held z u t less row joined before;
    room = λ t less.
        (let same = sum_same (λ a. units_of ((as_run s x n).weight a) s.frame) task_of (λ (m : Member). units_of m.weight s.frame) (world None s x t) (λ m h. ap (λ (w : Share). units_of w s.frame) (final s x weights n t m h less).weight) in
        let all = room_world s x t in
        omega arith);
    chosen = chosen_first;
  }

-- No admitted task misses.

-- who may run in a slot, and isn't early or starts a job, is released by then
pub open_from : (t : ℕ) (m : Member) → is_eligible t m ≡ true
    → (m.early ≡ false) ⊎ (starts_job_of m.weight m.next ≡ true) → release_of m.weight m.next (theta m m.next) ≤ t
open_from t m able when = grind (arith, leb-true, and_parts, eligible_not_early, eligible_at_job)

-- up to the end of slot t a member is the last one of its task
last_now : (s : Settings) (x : Story) (t : ℕ) (m : Member) → Among (world None s x t) m → last_of s x (suc t) (task_of m) ≡ Some m
last_now s x t m h = grind (arith, find_task, same_member)

-- so its deadlines in the run are its own
own_deadline : (s : Settings) (x : Story) (t : ℕ) (m : Member) (i : ℕ) → Among (world None s x t) m → deadline (as_run s x (suc t)) (record { task = task_of m; index = i }) ≡ deadline_of m.weight i (theta m i)
own_deadline s x t m i h = ap (λ (o : Option Member). deadline_of (weight_in o) i (offset_in (task_of m) o i)) (last_now s x t m h)

module _ (s : Settings) (x : Story) (frame : 0 < s.frame) (weights : HaveWeights x) where
  -- the next subtask after a table comes after all that ran
  next_after : (t : ℕ) (m : Member) → Among (world None s x t) m → IsNext (as_run s x (suc t)) (record { task = task_of m; index = index_after s x t m }) (suc t)
  next_after t m h =
      let more = on_next s x t m (here s x weights t m h) in
      let counted = next_counted s x weights t m h in
      record {
        counted = omega arith;
        follows = elim (cases_Bool (runs s x t m)) [
          | inl named ↦
              let c : cond {A = ℕ} (runs s x t m) 1 0 ≡ 1 = ap (λ b. cond {A = ℕ} b 1 0) named in
              let index : m.next ≡ index_after s x t m - 1 = omega arith in
              inr (subst (λ i. has_run (as_run s x (suc t)) (record { task = task_of m; index = i }) (suc t) ≡ true) index (ran_by (as_run s x (suc t)) (subtask_of m) t (suc t) (omega arith) (member_row s x (suc t) t m h named)))
          | inr rests ↦ grind (arith, cases_eq, ran_more, all_before_ran)
        ];
      }

  -- and has not run itself
  not_yet : (t : ℕ) (m : Member) → Among (world None s x t) m → has_run (as_run s x (suc t)) (record { task = task_of m; index = index_after s x t m }) (suc t) ≡ false
  not_yet t m h = elim (cases_Bool (has_run (as_run s x (suc t)) (record { task = task_of m; index = index_after s x t m }) (suc t))) [
    | inr e ↦ e
    | inl ran ↦ absurd (
        let more = on_next s x t m (here s x weights t m h) in
        let p = ran_at (as_run s x (suc t)) (record { task = task_of m; index = index_after s x t m }) (suc t) ran in
        let within = p.1 in
        elim (cases_lt p.0 t) [
          | inl before ↦ none_after_ran s x weights (suc t) t m (index_after s x t m) h (omega arith) (ran_by (as_run s x (suc t)) (record { task = task_of m; index = index_after s x t m }) p.0 t before p.2)
          | inr now ↦
              let at : p.0 ≡ t = omega arith in
              let q = row_member s x (suc t) t (record { task = task_of m; index = index_after s x t m }) (subst (λ u. is_row (as_run s x (suc t)) u (record { task = task_of m; index = index_after s x t m }) ≡ true) at p.2) in
              grind (arith, same_member)
        ])
  ]

  pub none : (t : ℕ) (m : Member) → Among (world None s x t) m → is_departing m ≡ false → suc t < deadline_of m.weight (index_after s x t m) (theta m (index_after s x t m))
  none t m h d =
      let late = beginnings.none_misses (as_run s x (suc t)) (suc t) t (record { task = task_of m; index = index_after s x t m }) (is_run s x frame weights (suc t)) (omega arith)
      (member_active s x frame weights (suc t) (task_of m) t m h refl d) (next_after t m h) (not_yet t m h) in
      let own = own_deadline s x t m (index_after s x t m) h in
      omega arith

  pub in_time : (t : ℕ) (m : Member) → Among (world None s x t) m → runs s x t m ≡ true → t < deadline_of m.weight m.next (theta m m.next)
  in_time t m h named =
      let early = beginnings.each_in_time (as_run s x (suc t)) (suc t) t (subtask_of m) (is_run s x frame weights (suc t)) (omega arith) (member_row s x (suc t) t m h named) in
      grind (arith, own_deadline)
