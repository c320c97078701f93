-- The delays of a member that is carried.
use Rattle.std.proofs.Common.{nat_le, nat_lt, ◌==◌}
use Rattle.pfair_admission.proofs.Common.{common_steps, sum_by, filter, list_any, nat_tests, filter-append, sum_by-cons, sum_by-append, Delay, Member, last_offset, jobs_done, passed_delays, coming_delays, as_one, lowered, delays_from, carried, ◌≡◌, ℕ, ◌+◌, ◌*◌, ◌≤◌, Bool, true, false, cond, List, [], ◌∷◌, map, refl, arith, list_any-append, cases_lt, append-nil, LAST_INDEX, subtasks_done, CanBeCarried, ◌-◌, ◌<◌, div-eq_of_lt, LAST_SLOT, carried_delays, IsWeight, theta, busy_until, freeing_slot, is_delayed_at, eligible_from, next_key, sym, release_of, starts_job_repeats, ◌||◌, unwrap_or, is_some, sum_by_push, Position, MAX_INDEX, MAX_OFFSET, IsMember, with_delay, with_quantum, member_of, own_delay, StandsAtNext, IsIncarnation, zero, suc, ◌++◌, Option, Some, None, ap, nat_cmp, BTreeMap, or-true, Inside, div-mul-le_self, div-zero, deadline_of, b_bit_of, group_deadline_of, by_kind, group_deadline_light, group_deadline_whole, group_deadline_heavy, release_repeats, deadline_repeats, b_bit_repeats, group_deadline_repeats, starts_after_jobs}
use Rattle.std.proofs.lemmas.Nat.{div-add-mod'}
use Rattle.pfair_admission.proofs.Boundaries.{freed_never_ran, theta_later, theta_earlier, frame_boundary, frame_carried, frame_ran, one_each, order_boundary, refused_stays, room_boundary, room_carried, room_ran, apart_boundary, apart_ran}
use Rattle.std.specs.Global.{Vec}
use Rattle.pfair_admission.proofs.MemberLists.{sum_filter}
use Rattle.std.specs.BTreeMap as map

abbrev pub slots : List Delay → ℕ
slots ds = sum_by (λ (d : Delay). d.by) ds

abbrev pub up_to : ℕ → Delay → Bool
up_to i d = nat_le d.index i

abbrev pub at : ℕ → Delay → Bool
at i d = d.index == i

-- ---- a delay has passed, or is to come

pub comes : (next : ℕ) (d : Delay) → nat_lt d.index next ≡ false → nat_le next d.index ≡ true
comes next d e = grind (arith, nat_tests)

pub passes : (next : ℕ) (d : Delay) → nat_lt d.index next ≡ true → nat_le next d.index ≡ false
passes next d e = grind (arith, nat_tests)

pub slots_if : (c : Bool) (d : Delay) (ds : List Delay) → slots (cond c (d ∷ ds) ds) ≡ cond c d.by 0 + slots ds
slots_if c d ds = grind (arith, sum_by-cons, common_steps)

part_if : (p : Delay → Bool) (c : Bool) (d : Delay) (ds : List Delay) → slots (filter p (cond c (d ∷ ds) ds)) ≡ cond c (cond (p d) d.by 0) 0 + slots (filter p ds)
part_if p c d ds = grind (arith, slots_if)

-- ---- their sum stays

either : (next : ℕ) (d : Delay) → cond (nat_lt d.index next) d.by 0 + cond (nat_le next d.index) d.by 0 ≡ d.by
either next d = grind (arith, passes, comes)

slots_split : (next : ℕ) (ds : List Delay) → slots (passed_delays next ds) + slots (coming_delays next ds) ≡ slots ds
slots_split next [] = refl
slots_split next (d ∷ ds) =
    let passed = slots_if (nat_lt d.index next) d (passed_delays next ds) in
    let coming = slots_if (nat_le next d.index) d (coming_delays next ds) in
    let all = sum_by-cons (λ (x : Delay). x.by) d ds in
    grind (arith, slots_split next ds, either)

slots_as_one : (ds : List Delay) → slots (as_one ds) ≡ slots ds
slots_as_one ds = grind (arith, sum_by-cons)

slots_lowered : (k : ℕ) (ds : List Delay) → slots (map (lowered k) ds) ≡ slots ds
slots_lowered k ds = grind (arith, sum_by-cons, map, common_steps)

pub slots_from : (next k : ℕ) (ds : List Delay) → slots (delays_from next k ds) ≡ slots ds
slots_from next k ds = grind (arith, sum_by-append, map, slots_as_one, slots_lowered, slots_split)

-- and the last offset is as many periods later as jobs are done
pub last_offset_carried : (m : Member) → last_offset (carried m) ≡ last_offset m + jobs_done m * m.weight.period
last_offset_carried m = (let same = slots_from m.next (jobs_done m * m.weight.cost) m.delays in omega (arith, same))

-- ---- those up to a subtask

part_split : (next i : ℕ) (ds : List Delay) → next ≤ i + 1 → slots (filter (up_to i) ds) ≡ slots (passed_delays next ds) + slots (filter (up_to i) (coming_delays next ds))
part_split next i [] h = refl
part_split next i (d ∷ ds) h = grind (arith, slots_if, part_if, nat_tests, passes, comes, part_split next i ds h)

part_lowered : (j k : ℕ) (ds : List Delay) → slots (filter (up_to j) (map (lowered k) ds)) ≡ slots (filter (up_to (j + k)) ds)
part_lowered j k [] = refl
part_lowered j k (d ∷ ds) = grind (arith, slots_if, map, nat_tests, part_lowered j k ds)

pub part_from : (next k j : ℕ) (ds : List Delay) → next ≤ j + k + 1 → 1 ≤ j → slots (filter (up_to j) (delays_from next k ds)) ≡ slots (filter (up_to (j + k)) ds)
part_from next k j ds h first = grind (arith, filter-append, map, sum_by-append, part_lowered, part_split)

-- ---- the delays of one subtask

any_lowered : (j k : ℕ) (ds : List Delay) → 1 ≤ j → list_any (at j) (map (lowered k) ds) ≡ list_any (at (j + k)) ds
any_lowered j k [] h = refl
any_lowered j k (d ∷ ds) h = grind (arith, nat_tests, map, any_lowered j k ds h)

any_coming : (next i : ℕ) (ds : List Delay) → next ≤ i → list_any (at i) (coming_delays next ds) ≡ list_any (at i) ds
any_coming next i [] h = refl
any_coming next i (d ∷ ds) h = grind (arith, nat_tests, any_coming next i ds h)

pub any_from : (next k j : ℕ) (ds : List Delay) → next ≤ j + k → 2 ≤ j → list_any (at j) (delays_from next k ds) ≡ list_any (at (j + k)) ds
any_from next k j ds h later = grind (arith, list_any-append, map, any_lowered, any_coming)

-- A member that is carried twice.

-- ---- its next subtask

pub done_low : (m : Member) → subtasks_done m ≤ m.next - 2
done_low m = div-mul-le_self (m.next - 2) m.weight.cost

pub next_ran : (m : Member) → 2 ≤ m.next → 2 ≤ (carried m).next
next_ran m ran = (let low = done_low m in omega (arith, low))

-- less than a job's subtasks are left before it
rest_low : (m : Member) → 1 ≤ m.weight.cost → (carried m).next - 2 < m.weight.cost
rest_low m some = grind (arith, div-add-mod')

pub next_low : (m : Member) → 1 ≤ m.weight.cost → 1 ≤ m.next → (carried m).next ≤ m.weight.cost + 1
next_low m some first = (let rest = rest_low m some in omega (arith, rest))

-- so a run has an index for it
pub next_fits : (m : Member) → CanBeCarried m → (carried m).next ≤ LAST_INDEX + 1
next_fits m k = (let rest = rest_low m k.cost.0 in omega (arith, rest, k.cost.1))

pub none_done : (m : Member) → jobs_done (carried m) ≡ 0
none_done m = grind (arith, cases_lt, div-eq_of_lt, rest_low, div-zero)

-- ---- its delays

pub lowered_by_none : (ds : List Delay) → map (lowered 0) ds ≡ ds
lowered_by_none [] = refl
lowered_by_none (d ∷ ds) = grind (arith, lowered_by_none ds)

passed_one : (next : ℕ) (ds : List Delay) → passed_delays next (as_one ds) ≡ cond (nat_lt 1 next) (as_one ds) []
passed_one next ds = grind arith

coming_one : (next : ℕ) (ds : List Delay) → coming_delays next (as_one ds) ≡ cond (nat_lt 1 next) [] (as_one ds)
coming_one next ds = grind (arith, nat_tests)

passed_lowered : (next k : ℕ) (ds : List Delay) → passed_delays (next - k) (map (lowered k) (coming_delays next ds)) ≡ []
passed_lowered next k [] = refl
passed_lowered next k (d ∷ ds) = grind (arith, map, nat_tests, passed_lowered next k ds)

coming_lowered : (next k : ℕ) (ds : List Delay) → coming_delays (next - k) (map (lowered k) (coming_delays next ds)) ≡ map (lowered k) (coming_delays next ds)
coming_lowered next k [] = refl
coming_lowered next k (d ∷ ds) = grind (arith, map, nat_tests, coming_lowered next k ds)

delays_again : (next k : ℕ) (ds : List Delay) → delays_from (next - k) 0 (delays_from next k ds) ≡ delays_from next k ds
delays_again next k ds = grind (arith, map, filter-append, passed_one, passed_lowered, append-nil, lowered_by_none, coming_one, coming_lowered)

-- ---- and the member

pub carried_again : (m : Member) → carried (carried m) ≡ carried m
carried_again m = grind (arith, none_done, delays_again)

pub able_again : (m : Member) → CanBeCarried m → CanBeCarried (carried m)
able_again m k = grind (arith, carried_again)

-- The delays to come, and those that have passed, gathered one by one.

-- none has
pub none_passed : (next : ℕ) (ds : List Delay) → list_any (λ d. nat_lt d.index next) ds ≡ false → as_one (passed_delays next ds) ≡ []
none_passed next [] none = refl
none_passed next (d ∷ ds) none = grind (arith, none_passed next ds)

-- some have
pub some_passed : (next : ℕ) (ds : List Delay) → list_any (λ d. nat_lt d.index next) ds ≡ true → as_one (passed_delays next ds) ≡ record { index = 1; by = sum_by (λ d. d.by) (passed_delays next ds) } ∷ []
some_passed next [] some = absurd (cc)
some_passed next (d ∷ ds) some = grind (arith, some_passed next ds)

-- as those up to the subtask before
pub before_next : (next : ℕ) (ds : List Delay) → 1 ≤ next → sum_by (λ d. d.by) (filter (λ d. nat_le d.index (next - 1)) ds) ≡ sum_by (λ d. d.by) (passed_delays next ds)
before_next next [] some = refl
before_next next (d ∷ ds) some = grind (arith, nat_tests, sum_by-cons, before_next next ds some)

-- ---- the offset of a member that is carried

pub carried_offset : (m : Member) (jobs period joined : ℕ) (ds : List Delay) → CanBeCarried m → jobs ≡ jobs_done m → period ≡ m.weight.period → joined ≡ m.joined → ds ≡ carried_delays m → joined + jobs * period + sum_by (λ d. d.by) ds ≤ LAST_SLOT
carried_offset m jobs period joined ds k j p o d = grind arith

-- A member whose subtasks are counted from whole jobs later: what is not over of it stays where it is.

-- as if it had joined so many periods later, with these delays and that next subtask
abbrev pub counted_from : Member → ℕ → List Delay → ℕ → Member
counted_from m jobs delays next = record m { joined = m.joined + jobs * m.weight.period; delays = delays; next = next }

-- and so it is the same member, but that its subtasks are counted from so many jobs later
pub record IsLowered (m : Member) (jobs : ℕ) (delays : List Delay) (next : ℕ) : Type 0 where
  pub next_is : m.next ≡ next + jobs * m.weight.cost
  pub offsets : (j : ℕ) → 1 ≤ j → next ≤ j + 1 → theta (counted_from m jobs delays next) j ≡ theta m (j + jobs * m.weight.cost) + jobs * m.weight.period
  pub delayed : (j : ℕ) → 2 ≤ j → next ≤ j → is_delayed_at (counted_from m jobs delays next) j ≡ is_delayed_at m (j + jobs * m.weight.cost)

pub carried_lowered : (m : Member) → IsLowered m (jobs_done m) (carried_delays m) (m.next - subtasks_done m)
carried_lowered m =
    let low = done_low m in
    record {
      next_is = omega (arith, low);
      offsets = λ j first reaches. (let part = part_from m.next (subtasks_done m) j m.delays (omega (arith, reaches, low)) first in omega (arith, part));
      delayed = λ j later reaches. any_from m.next (subtasks_done m) j m.delays (omega (arith, reaches, low)) later;
    }

module _ (m : Member) (jobs : ℕ) (delays : List Delay) (next : ℕ) (is : IsLowered m jobs delays next) (h : IsWeight m.weight.cost m.weight.period) where
  abbrev pub n : Member
  n = counted_from m jobs delays next

  abbrev pub far : ℕ → ℕ
  far j = j + jobs * m.weight.cost

  -- ---- one subtask

  pub release_same : (j : ℕ) → 1 ≤ j → next ≤ j + 1 → release_of m.weight j (theta n j) ≡ release_of m.weight (far j) (theta m (far j))
  release_same j first reaches =
      let offset = is.offsets j first reaches in
      let later = release_repeats m.weight j jobs (theta m (far j)) h.some_cost first in
      omega (arith, offset, later)

  pub deadline_same : (j : ℕ) → 1 ≤ j → next ≤ j + 1 → deadline_of m.weight j (theta n j) ≡ deadline_of m.weight (far j) (theta m (far j))
  deadline_same j first reaches =
      let offset = is.offsets j first reaches in
      let later = deadline_repeats m.weight j jobs (theta m (far j)) h.some_cost in
      omega (arith, offset, later)

  pub b_bit_same : (j : ℕ) → b_bit_of m.weight j ≡ b_bit_of m.weight (far j)
  b_bit_same j = sym (b_bit_repeats m.weight j jobs h.some_cost)

  pub group_deadline_same : (j : ℕ) → 1 ≤ j → next ≤ j + 1 → group_deadline_of m.weight j (theta n j) ≡ group_deadline_of m.weight (far j) (theta m (far j))
  group_deadline_same j first reaches = grind (arith, by_kind, group_deadline_light, group_deadline_whole, deadline_same, group_deadline_repeats, group_deadline_heavy)

  -- ---- the next subtask, and the last one

  pub next_key_same : 1 ≤ next → next_key n ≡ next_key m
  next_key_same first = grind (arith, deadline_same, group_deadline_same, b_bit_same)

  pub busy_until_same : 2 ≤ next → busy_until n (next - 1) ≡ busy_until m (m.next - 1)
  busy_until_same ran = grind (arith, deadline_same, group_deadline_same, b_bit_same)

  pub freeing_slot_same : (t : ℕ) → 1 ≤ next → (2 ≤ m.next → 2 ≤ next) → freeing_slot n t ≡ freeing_slot m t
  freeing_slot_same t first still = grind (arith, cases_lt, nat_tests, busy_until_same, freed_never_ran)

  -- it may run from the same slot on, once that has come in which it is as if it had joined
  pub eligible_same : (t : ℕ) → 1 ≤ next → n.joined ≤ t → nat_le (eligible_from n next) t ≡ nat_le (eligible_from m m.next) t
  eligible_same t first begun = grind (arith, starts_job_repeats, cases_lt, starts_after_jobs, release_same, nat_tests)

-- The next subtask's offset, by the delays of its own index alone.

-- ---- the delays of one index

slots_none : (p : Delay → Bool) (ds : List Delay) → list_any p ds ≡ false → slots (filter p ds) ≡ 0
slots_none p [] none = refl
slots_none p (d ∷ ds) none = grind (arith, slots_none p ds)

pub own_slots : (ds : List Delay) (i : ℕ) → unwrap_or (own_delay ds i) 0 ≡ slots (filter (at i) ds)
own_slots ds i = grind (arith, slots_none)

-- one delay more
pub own_push : (ds : List Delay) (index by i : ℕ) → own_delay (ds ++ record { index = index; by = by } ∷ []) i ≡ cond (index == i) (Some (unwrap_or (own_delay ds i) 0 + by)) (own_delay ds i)
own_push ds index by i = grind (arith, list_any-append, filter-append, sum_by-append, or-true, own_slots, sum_by-cons)

-- ---- from one index to the next

slots_next : (ds : List Delay) (i : ℕ) → slots (filter (up_to (i + 1)) ds) ≡ slots (filter (up_to i) ds) + slots (filter (at (i + 1)) ds)
slots_next [] i = refl
slots_next (d ∷ ds) i = grind (arith, nat_tests, slots_if, slots_next ds i)

-- the next subtask's offset is that of the subtask, and the delays with exactly its own index
pub theta_next : (m : Member) (i : ℕ) → theta m (i + 1) ≡ theta m i + unwrap_or (own_delay m.delays (i + 1)) 0
theta_next m i = omega (arith, slots_next m.delays i, own_slots m.delays (i + 1))

slots_rise : (ds : List Delay) (i k : ℕ) → slots (filter (up_to i) ds) ≤ slots (filter (up_to (i + k)) ds)
slots_rise ds i zero = grind arith
slots_rise ds i (suc k) =
    let same : slots (filter (up_to (i + k + 1)) ds) ≡ slots (filter (up_to (i + suc k)) ds) = (let here : i + k + 1 ≡ i + suc k = omega arith in ap (λ j. slots (filter (up_to j) ds)) here) in
    omega (arith, same, slots_rise ds i k, slots_next ds (i + k))

-- no later subtask has a lesser offset
pub theta_rises : (m : Member) (i j : ℕ) → i ≤ j → theta m i ≤ theta m j
theta_rises m i j rise =
    let same : slots (filter (up_to (i + (j - i))) m.delays) ≡ slots (filter (up_to j) m.delays) = (let there : i + (j - i) ≡ j = omega (arith, rise) in ap (λ n. slots (filter (up_to n) m.delays)) there) in
    omega (arith, same, slots_rise m.delays i (j - i))

pub theta_fits : (m : Member) (i : ℕ) → theta m i ≤ last_offset m
theta_fits m i = let part = sum_filter (λ (d : Delay). d.by) (up_to i) m.delays in omega (arith, part)

-- a delay more, if there is room for it
pub member_put_off : (m : Member) (index by : ℕ) → IsMember m → last_offset m + by ≤ MAX_OFFSET → IsMember (with_delay index by m)
member_put_off m index by h room = grind (arith, sum_by_push)

pub own_fits : (m : Member) (i : ℕ) → unwrap_or (own_delay m.delays i) 0 ≤ last_offset m
own_fits m i = let part = sum_filter (λ (d : Delay). d.by) (at i) m.delays in omega (arith, part, own_slots m.delays i)

-- ---- what is kept beside the delays

pub at_key : (k q : ℕ) → map.is_at (nat_cmp k) q ≡ (k == q)
at_key k q = grind (arith, nat_tests)

delayed_push : (m : Member) (index by i : ℕ) → is_delayed_at (with_delay index by m) i ≡ (is_delayed_at m i || (index == i || false))
delayed_push m index by i = list_any-append (at i) m.delays (record { index = index; by = by } ∷ [])

-- a subtask that isn't after the next one is put off: the stepper is
pub now_put_off : (m : Member) (p q : Position) (b c : Bool) (coming : BTreeMap ℕ ℕ) (index by : ℕ) → index ≤ m.next → StandsAtNext m p b coming → q ≡ record p { theta = p.theta + by } → c ≡ (b || index == m.next)
    → StandsAtNext (with_delay index by m) q c coming
now_put_off m p q b c coming index by now h is put_off = grind (arith, nat_tests, theta_later, delayed_push, or-true, own_push)

-- a later subtask is put off: its delay is still to come
pub later_put_off : (m : Member) (p : Position) (b : Bool) (coming after : BTreeMap ℕ ℕ) (index by : ℕ) → m.next < index → StandsAtNext m p b coming
    → map.Updates nat_cmp coming after index (Some (unwrap_or (map.get nat_cmp coming index) 0 + by)) → StandsAtNext (with_delay index by m) p b after
later_put_off m p b coming after index by less h updates = grind (arith, nat_tests, theta_earlier, delayed_push, at_key, own_push)

-- the stepper goes to the subtask after, and is put off by the delays with exactly its index
stepped : (m : Member) (p q : Position) (b c : Bool) (coming after : BTreeMap ℕ ℕ) (delay : Option ℕ) → StandsAtNext m p b coming
    → q ≡ record p { index = p.index + 1; theta = p.theta + unwrap_or delay 0 } → delay ≡ map.get nat_cmp coming (m.next + 1) → c ≡ is_some delay
    → map.Updates nat_cmp coming after (m.next + 1) None → StandsAtNext (with_quantum m) q c after
stepped m p q b c coming after delay h is own some updates = grind (arith, theta_next, nat_tests, at_key)

-- the subtask after the next one has an offset that a stepper can have
pub stepped_fits : (m : Member) (p : Position) (b : Bool) (coming : BTreeMap ℕ ℕ) → StandsAtNext m p b coming → p.theta + unwrap_or (map.get nat_cmp coming (m.next + 1)) 0 ≤ last_offset m
stepped_fits m p b coming h =
    let at : p.theta ≡ theta m m.next = ap (λ (x : Position). x.theta) h.position in
    let own : unwrap_or (map.get nat_cmp coming (m.next + 1)) 0 ≡ unwrap_or (own_delay m.delays (m.next + 1)) 0 = ap (λ (o : Option ℕ). unwrap_or o 0) (h.coming (m.next + 1) (omega arith)) in
    omega (arith, at, own, theta_next m m.next, theta_fits m (m.next + 1))

-- ---- what an incarnation keeps

-- once a delay is noted
pub noted : (a : Inside) (before after : Vec Delay) (p : Position) (b : Bool) (coming : BTreeMap ℕ ℕ) (index by : ℕ) → IsIncarnation a → last_offset (member_of a) + by ≤ MAX_OFFSET
    → before.items ≡ a.delays.items → after.items ≡ before.items ++ record { index = index; by = by } ∷ [] → p.index ≡ a.stepper.index
    → StandsAtNext (with_delay index by (member_of a)) p b coming → IsIncarnation (record a { delays = after; stepper = p; is_put_off = b; coming = coming })
noted a before after p b coming index by h fits same pushed stays stands = grind (arith, member_put_off, common_steps)

-- once the next subtask has run
pub has_run : (a : Inside) (p : Position) (b : Bool) (coming : BTreeMap ℕ ℕ) (delay : Option ℕ) → IsIncarnation a → a.stepper.index < MAX_INDEX → delay ≡ map.get nat_cmp a.coming (a.stepper.index + 1)
    → p ≡ record a.stepper { index = a.stepper.index + 1; theta = a.stepper.theta + unwrap_or delay 0 } → b ≡ is_some delay → map.Updates nat_cmp a.coming coming (a.stepper.index + 1) None
    → IsIncarnation (record a { stepper = p; is_put_off = b; coming = coming })
has_run a p b coming delay h more own goes some updates =
    let index = ap (λ (x : Position). x.index) goes in
    let stands = stepped (member_of a) a.stepper p a.is_put_off b a.coming coming delay h.stands goes own some updates in
    grind arith

-- What the laws consist of.

pub ruleset kept = (apart_boundary, apart_ran, room_boundary, room_ran, room_carried, refused_stays, order_boundary, one_each, frame_boundary, frame_ran, frame_carried)

pub ruleset of_members = (theta_later, theta_earlier, next_ran, next_low, carried_again, able_again, nat_tests, or-true)
