-- The members from one slot to the next.
use Rattle.pfair_in_time.proofs.Common.{true≢false, false≢true, cases_lt, cases_Bool, or_parts, ltb-false, leb-true, not_from_false, same_Some, NamesApart, Share, IsWeight, release_of, name_exact, Among, among_left, among_append, among_filter, filter_among, among_map, map_among, Member, theta, is_departing, busy_until, freeing_slot, Machine, is_named, member_named, departure, late_release, decision, newcomer, with_freeing, with_delay, change, effect, is_freed, present, decided, all_decided, boundary, Descends, IsSound, IsNew, theta_earlier, cases_eq, theta_rises, le_refl, list_any, and_parts, not-true, drop_all, drop-append-le, sum_by_push, apart_nil, apart_map, name_eq, name_itself, Key, among_all, among_contains, contains_among, next_key, announcements, Settings, Table, machine, names_task, next_index, counted_one, counted, is_eligible, eligible, pick, chosen, Story, history, world, table, Pick, named_world, IsCounted, counted_world, long_history, world_counted, any_among, label, or_left, or_right, ◌≡◌, ◌≢◌, ◌-◌, ℕ, ◌%◌, ◌<◌, ◌≤◌, Bool, true, false, List, [], ◌∷◌, ◌++◌, Option, Some, None, arith, ap, refl, sym, ◌∙◌, subst, inl, inr, ⊎_elim, ◌⊎◌, not, is_some, if◌then◌else◌, zero, suc, ◌+◌, cond, filter, count_by, Announcement, IsWeighed, Departing, Delayed, by_effect, apart_effect, apart_present, admitted_in_frame, theta_later, found_own, AllSound, AllHaveWeights, IsFreed, BoundariesKeepMembers, of_released, released, mul-le, nat_tests, keys_total, by_rank_first, once_from_names, place_of, eligible_apart}

-- What boundaries make of members.

-- ---- one member

pub descends_itself : (t : ℕ) (m : Member) → Descends t m m
descends_itself t m = record { name = refl; weight = refl; early = refl; joined = refl; next = refl; rises = λ i. omega arith; stays = λ i _. refl; departing = λ _. refl }

pub descends_on : (t : ℕ) (l m n : Member) → Descends t l m → Descends t m n → Descends t l n
descends_on t l m n a b = grind arith

-- the departure of one that isn't departing
freeing_descends : (t : ℕ) (m : Member) → is_departing m ≡ false → (slot : ℕ) → Descends t m (with_freeing slot m)
freeing_descends t m active slot = record { name = refl; weight = refl; early = refl; joined = refl; next = refl; rises = λ i. omega arith; stays = λ i _. refl; departing = λ d. absurd (true≢false (sym d ∙ active)) }

-- a claim ends before its member is freed
freed_from_claim : (m : Member) (t : ℕ) → m.next ≢ 1 → busy_until m (m.next - 1) ≤ freeing_slot m t
freed_from_claim m t ran = grind (arith, nat_tests)

freeing_sound : (frame t : ℕ) (m : Member) (slot : ℕ) → slot ≡ freeing_slot m t → IsSound frame m → IsSound frame (with_freeing slot m)
freeing_sound frame t m slot is s = grind (arith, cases_eq, freed_from_claim, same_Some)

-- releases rise with the index
release_rises : (m : Member) (i j : ℕ) → 0 < m.weight.cost → i ≤ j → release_of m.weight i (theta m i) ≤ release_of m.weight j (theta m j)
release_rises m i j some le = grind (arith, theta_rises, mul-le, le_refl, of_released, released)

-- the late release of one that isn't departing, of a subtask that is to come
delay_descends : (t index by : ℕ) (m : Member) → 0 < m.weight.cost → is_departing m ≡ false → t ≤ release_of m.weight index (theta m index) → m.next ≤ index → Descends t m (with_delay index by m)
delay_descends t index by m some active released to_come = grind (arith, cases_lt, theta_earlier, theta_later, below)
  where
    below : (i : ℕ) → (i < m.next) ⊎ (release_of m.weight i (theta m i) < t) → i < index
    below i (inl ran) = omega arith
    below i (inr before) =
        elim (cases_lt i index) [
          | inl less ↦ less
          | inr after ↦ absurd (let rise = release_rises m index i some after in omega arith)
        ]

delay_sound : (frame index by : ℕ) (m : Member) → is_departing m ≡ false → IsSound frame m → IsSound frame (with_delay index by m)
delay_sound frame index by m active s = record { weight = s.weight; period = s.period; claim = λ f e. absurd (true≢false (sym (ap is_some e) ∙ active)) }

-- ---- the member of a name

pub named_is : (ms : List Member) (name : List ℕ) (m : Member) → NamesApart (λ (m : Member). m.name) ms → Among ms m → is_named name m ≡ true → member_named ms name ≡ Some m
named_is ms name m apart h e = subst (λ n. member_named ms n ≡ Some m) (sym (name_exact name m.name e)) (found_own ms apart m h)

-- ---- decisions that change a member

departs : (t : ℕ) (o : Option Member) (slot : ℕ) → departure t o ≡ Departing slot → (m : Member) × (o ≡ Some m) × (is_departing m ≡ false) × (slot ≡ freeing_slot m t)
departs t None slot e = absurd (cc)
departs t (Some m) slot e = grind arith

is_late : (t : ℕ) (o : Option Member) (index : ℕ) → late_release t o index ≡ Delayed → (m : Member) × (o ≡ Some m) × (is_departing m ≡ false) × (t ≤ release_of m.weight index (theta m index)) × (m.next ≤ index)
is_late t None index e = absurd (cc)
is_late t (Some m) index e = grind (arith, or_parts, ltb-false)

-- ---- one decision

-- what becomes of all members, of whom some may be freed
record Steps (machine : Machine) (t : ℕ) (old new : List Member) : Type 0 where
  sound : AllSound machine.frame new
  from : (n : Member) → Among new n → ((m : Member) × Among old m × Descends t m n) ⊎ IsNew t n
  to : (m : Member) → Among old m → ((n : Member) × Among new n × Descends t m n) ⊎ ((n : Member) × IsFreed t machine.frame m n)

nothing_changes : (machine : Machine) (t : ℕ) (ms : List Member) → AllSound machine.frame ms → Steps machine t ms ms
nothing_changes machine t ms sound = record { sound = sound; from = λ n h. inl (n, h, descends_itself t n); to = λ m h. inl (m, h, descends_itself t m) }

one_changes : (machine : Machine) (t : ℕ) (ms : List Member) (name : List ℕ) (f : Member → Member) → AllSound machine.frame ms
    → ((m : Member) → Among ms m → is_named name m ≡ true → Descends t m (f m) × IsSound machine.frame (f m)) → Steps machine t ms (change name f ms)
one_changes machine t ms name f sound changes = record {
  sound = λ n h. (let p = among_map (λ m. if is_named name m then f m else m) ms n h in subst (IsSound machine.frame) (sym p.2) (whole p.0 p.1).1);
  from = λ n h. (let p = among_map (λ m. if is_named name m then f m else m) ms n h in inl (p.0, p.1, subst (Descends t p.0) (sym p.2) (whole p.0 p.1).0));
  to = λ m h. inl ((if is_named name m then f m else m), map_among (λ m. if is_named name m then f m else m) ms m h, (whole m h).0);
}
  where
    whole : (m : Member) → Among ms m → Descends t m (if is_named name m then f m else m) × IsSound machine.frame (if is_named name m then f m else m)
    whole m h = by (is_named name m) refl
      where
        by : (b : Bool) → is_named name m ≡ b → Descends t m (if b then f m else m) × IsSound machine.frame (if b then f m else m)
        by true e = changes m h e
        by false e = (descends_itself t m, sound m h)

joins : (machine : Machine) (t : ℕ) (ms : List Member) (name : List ℕ) (w : Share) (early : Bool) → AllSound machine.frame ms → IsWeight w.cost w.period → machine.frame % w.period ≡ 0
    → Steps machine t ms (ms ++ newcomer t name w early ∷ [])
joins machine t ms name w early sound weight period = record {
  sound = λ n h. ⊎_elim (λ l. sound n l) (λ r. ⊎_elim (λ e. subst (IsSound machine.frame) (sym e) new) (λ none. absurd none) r) (among_append ms (newcomer t name w early ∷ []) n h);
  from = λ n h. ⊎_elim (λ l. inl (n, l, descends_itself t n)) (λ r. inr (⊎_elim (λ e. subst (IsNew t) (sym e) (record { joined = refl; next = refl })) (λ none. absurd none) r)) (among_append ms (newcomer t name w early ∷ []) n h);
  to = λ m h. inl (m, among_left ms (newcomer t name w early ∷ []) m h, descends_itself t m);
}
  where
    new : IsSound machine.frame (newcomer t name w early)
    new = record { weight = weight; period = period; claim = λ slot e. absurd (cc) }

effect_step : (machine : Machine) (t : ℕ) (ms : List Member) (a : Announcement) → NamesApart (λ (m : Member). m.name) ms → AllSound machine.frame ms → IsWeighed a → Steps machine t ms (effect t ms a (decision machine t ms a))
effect_step machine t ms a apart sound weight =
    by_effect (Steps machine t ms) t ms (nothing_changes machine t ms sound) a (decision machine t ms a)
    (λ name w early is admitted. joins machine t ms name w early sound (subst IsWeighed is weight) (admitted_in_frame machine ms name w (sym (ap (decision machine t ms) (sym is) ∙ admitted))))
    (λ name slot is leaves. one_changes machine t ms name (with_freeing slot) sound (λ m h e.
    (let p = departs t (member_named ms name) slot (ap (decision machine t ms) (sym is) ∙ leaves) in
    let same : p.0 ≡ m = same_Some p.0 m (sym p.1 ∙ named_is ms name m apart h e) in
    (freeing_descends t m (sym (ap is_departing same) ∙ p.2) slot, freeing_sound machine.frame t m slot (p.3 ∙ ap (λ (k : Member). freeing_slot k t) same) (sound m h)))))
    (λ name index by is late. one_changes machine t ms name (with_delay index by) sound (λ m h e.
    (let p = is_late t (member_named ms name) index (ap (decision machine t ms) (sym is) ∙ late) in
    let same : p.0 ≡ m = same_Some p.0 m (sym p.1 ∙ named_is ms name m apart h e) in
    grind (arith, delay_descends, sound, delay_sound))))

-- ---- all decisions

freed_slot : (t : ℕ) (o : Option ℕ) → is_freed t o ≡ true → (slot : ℕ) × (o ≡ Some slot) × (slot ≤ t)
freed_slot t None e = absurd (false≢true e)
freed_slot t (Some slot) e = (slot, refl, leb-true slot t e)

present_steps : (machine : Machine) (t : ℕ) (old new : List Member) → Steps machine t old new → Steps machine t old (present t new)
present_steps machine t old new s = record {
  sound = λ n h. s.sound n (among_filter (λ (m : Member). not (is_freed t m.freed_at)) new n h).0;
  from = λ n h. s.from n (among_filter (λ (m : Member). not (is_freed t m.freed_at)) new n h).0;
  to = λ m h. elim (s.to m h) [ inl p ↦ kept m p.0 p.1 p.2 (cases_Bool (is_freed t p.0.freed_at)) | inr gone ↦ inr gone ];
}
  where
    kept : (m n : Member) → Among new n → Descends t m n → (is_freed t n.freed_at ≡ true) ⊎ (is_freed t n.freed_at ≡ false)
        → ((n : Member) × Among (present t new) n × Descends t m n) ⊎ ((n : Member) × IsFreed t machine.frame m n)
    kept m n h d (inl e) = let p = freed_slot t n.freed_at e in inr (n, record { descends = d; sound = s.sound n h; slot = p.0; freed = p.1; by_now = p.2 })
    kept m n h d (inr e) = inl (n, filter_among (λ (m : Member). not (is_freed t m.freed_at)) new n h (not_from_false (is_freed t n.freed_at) e), d)

new_descends : (t : ℕ) (m n : Member) → IsNew t m → Descends t m n → IsNew t n
new_descends t m n new d = record { joined = d.joined ∙ new.joined; next = d.next ∙ new.next }

steps_on : (machine : Machine) (t : ℕ) (a b c : List Member) → Steps machine t a b → Steps machine t b c → Steps machine t a c
steps_on machine t a b c one other = record {
  sound = other.sound;
  from = λ n h. ⊎_elim
      (λ (p : (m : Member) × Among b m × Descends t m n). ⊎_elim
      (λ (q : (l : Member) × Among a l × Descends t l p.0). inl (q.0, q.1, descends_on t q.0 p.0 n q.2 p.2))
      (λ new. inr (new_descends t p.0 n new p.2))
      (one.from p.0 p.1))
      (λ new. inr new)
      (other.from n h);
  to = λ m h. ⊎_elim
      (λ (p : (n : Member) × Among b n × Descends t m n). ⊎_elim
      (λ (q : (l : Member) × Among c l × Descends t p.0 l). inl (q.0, q.1, descends_on t m p.0 q.0 p.2 q.2))
      (λ (q : (l : Member) × IsFreed t machine.frame p.0 l). inr (q.0, record { descends = descends_on t m p.0 q.0 p.2 q.1.descends; sound = q.1.sound; slot = q.1.slot; freed = q.1.freed; by_now = q.1.by_now }))
      (other.to p.0 p.1))
      (λ gone. inr gone)
      (one.to m h);
}

all_steps : (machine : Machine) (t : ℕ) (ms : List Member) (announced : List Announcement) → NamesApart (λ (m : Member). m.name) ms → AllSound machine.frame ms → AllHaveWeights announced → Steps machine t ms (all_decided machine t ms announced)
all_steps machine t ms [] apart sound weights = nothing_changes machine t ms sound
all_steps machine t ms (a ∷ more) apart sound weights =
    let one = present_steps machine t ms (effect t ms a (decision machine t ms a)) (effect_step machine t ms a apart sound (weights a (inl refl))) in
    let still = apart_present t (effect t ms a (decision machine t ms a)) (apart_effect machine t ms a apart) in
    steps_on machine t ms (decided machine t ms a) (all_decided machine t (decided machine t ms a) more) one (all_steps machine t (decided machine t ms a) more still one.sound (λ b h. weights b (inr h)))

boundary_steps : (machine : Machine) (t : ℕ) (ms : List Member) (announced : List Announcement) → NamesApart (λ (m : Member). m.name) ms → AllSound machine.frame ms → AllHaveWeights announced → Steps machine t ms (boundary machine t ms announced)
boundary_steps machine t ms announced apart sound weights =
    let one = present_steps machine t ms ms (nothing_changes machine t ms sound) in
    steps_on machine t ms (present t ms) (boundary machine t ms announced) one (all_steps machine t (present t ms) announced (apart_present t ms apart) one.sound weights)

pub boundaries_keep_members : BoundariesKeepMembers
boundaries_keep_members = record {
  sound = λ machine t ms announced apart sound weights. (boundary_steps machine t ms announced apart sound weights).sound;
  from = λ machine t ms announced apart sound weights. (boundary_steps machine t ms announced apart sound weights).from;
  to = λ machine t ms announced apart sound weights. (boundary_steps machine t ms announced apart sound weights).to;
}

-- each arrival that is said has a weight
abbrev pub HaveWeights : Story → Type 0
HaveWeights x = (t : ℕ) → AllHaveWeights (announcements (x t))

-- the tables of the slots before t
abbrev pub tables_before : Settings → Story → ℕ → List Table
tables_before s x t = (history None s x t).tables

-- the index of a member's next subtask after the table of slot t
abbrev pub index_after : Settings → Story → ℕ → Member → ℕ
index_after s x t m = next_index (tables_before s x (suc t)) m

-- ---- names

pub same_member : (s : Settings) (x : Story) (t : ℕ) (m n : Member) → Among (world None s x t) m → Among (world None s x t) n → m.name ≡ n.name → m ≡ n
same_member s x t m n here there e =
    let one = named_is (world None s x t) m.name m (named_world s x t) here (name_itself m.name) in
    grind (arith, named_is, named_world, name_itself, same_Some)

-- ---- who runs

abbrev pub keys_at : Settings → Story → ℕ → List Key
keys_at s x t = chosen s t (world None s x t)

pub keys_apart : (s : Settings) (x : Story) (t : ℕ) → NamesApart (λ (k : Key). k.name) (eligible t (world None s x t))
keys_apart s x t = eligible_apart t (world None s x t) (named_world s x t)

-- a key that is chosen is that of an eligible member
pub chosen_member : (s : Settings) (t : ℕ) (ms : List Member) → NamesApart label ms → (k : Key) → Among (chosen s t ms) k
    → (m : Member) × Among ms m × (is_eligible t m ≡ true) × (k ≡ next_key m)
chosen_member s t ms apart k h =
    let first = by_rank_first keys_total s.processors (eligible t ms) (once_from_names (eligible t ms) (eligible_apart t ms apart)) in
    let at = place_of (chosen s t ms) k (among_contains (chosen s t ms) k h) in
    let p = among_map next_key (filter (is_eligible t) ms) k (contains_among (eligible t ms) k (first.at_rank at.0 k at.1).0) in
    grind (arith, among_filter)

abbrev pub runs : Settings → Story → ℕ → Member → Bool
runs s x t m = names_task m.name (table None s x t)

-- who is named in a table is eligible, and its key is chosen
pub runs_chosen : (s : Settings) (x : Story) (t : ℕ) (m : Member) → Among (world None s x t) m → runs s x t m ≡ true → (is_eligible t m ≡ true) × Among (keys_at s x t) (next_key m)
runs_chosen s x t m here named =
    let p = any_among (λ (r : Pick). name_eq m.name r.name) (table None s x t) named in
    let q = among_map (pick (world None s x t)) (keys_at s x t) p.0 p.1 in
    let n = chosen_member s t (world None s x t) (named_world s x t) q.0 q.1 in
    let name : m.name ≡ n.0.name = name_exact m.name p.0.name p.2 ∙ ap (λ (r : Pick). r.name) q.2 ∙ ap (λ (k : Key). k.name) n.3 in
    grind (arith, same_member, here)

pub any_from_among : {A : Type 0} (p : A → Bool) (xs : List A) (x : A) → Among xs x → p x ≡ true → list_any p xs ≡ true
any_from_among p [] x h e = absurd h
any_from_among p (y ∷ ys) x (inl i) e = or_left (p y) (list_any p ys) (sym (ap p i) ∙ e)
any_from_among p (y ∷ ys) x (inr h) e = or_right (p y) (list_any p ys) (any_from_among p ys x h e)

pub chosen_runs : (s : Settings) (x : Story) (t : ℕ) (m : Member) → Among (keys_at s x t) (next_key m) → runs s x t m ≡ true
chosen_runs s x t m h = any_from_among (λ (r : Pick). name_eq m.name r.name) (table None s x t) (pick (world None s x t) (next_key m)) (map_among (pick (world None s x t)) (keys_at s x t) (next_key m) h) (name_itself m.name)

-- ---- how far members have come

-- one table more
pub next_more : (s : Settings) (x : Story) (t : ℕ) (m : Member) → m.joined ≤ t → next_index (tables_before s x (suc t)) m ≡ next_index (tables_before s x t) m + cond (runs s x t m) 1 0
next_more s x t m joined = grind (arith, long_history, drop-append-le, sum_by_push)

-- who joins has had no quantum
pub next_new : (s : Settings) (x : Story) (t : ℕ) (m : Member) → m.joined ≡ t → next_index (tables_before s x t) m ≡ 1
next_new s x t m e = let long = long_history None s x t in ap (λ ts. 1 + count_by (names_task m.name) ts) (drop_all m.joined (tables_before s x t) (omega arith))

-- what holds of each member of slot t
pub record IsHere (s : Settings) (x : Story) (t : ℕ) (m : Member) : Type 0 where
  pub sound : IsSound s.frame m
  pub by_now : m.joined ≤ t
  pub next : m.next ≡ next_index (tables_before s x t) m

-- a member after the table of slot t
abbrev pub on : Settings → Story → ℕ → Member → Member
on s x t m = counted_one (tables_before s x (suc t)) m

pub on_next : (s : Settings) (x : Story) (t : ℕ) (m : Member) → IsHere s x t m → (on s x t m).next ≡ m.next + cond (runs s x t m) 1 0
on_next s x t m here = let more = next_more s x t m here.by_now in let was = here.next in omega arith

-- who is departing doesn't run
pub departing_rests : (s : Settings) (x : Story) (t : ℕ) (m : Member) → Among (world None s x t) m → is_departing m ≡ true → runs s x t m ≡ false
departing_rests s x t m h d = grind (arith, and_parts, runs_chosen, not-true, cases_Bool)

module _ (s : Settings) (x : Story) (weights : HaveWeights x) where
  on_sound : (t : ℕ) (m : Member) → Among (world None s x t) m → IsHere s x t m → IsSound s.frame (on s x t m)
  on_sound t m h here = grind (arith, departing_rests, on_next)

  all_on_sound : (t : ℕ) → ((m : Member) → Among (world None s x t) m → IsHere s x t m) → AllSound s.frame (counted (tables_before s x (suc t)) (world None s x t))
  all_on_sound t here n h = grind (arith, among_map, on_sound, here)

  apart_on : (t : ℕ) → NamesApart (λ (m : Member). m.name) (counted (tables_before s x (suc t)) (world None s x t))
  apart_on t = apart_map (λ (m : Member). m.name) (λ (m : Member). m.name) (counted_one (tables_before s x (suc t))) (λ m. refl) (world None s x t) (named_world s x t)

  here_if : (t : ℕ) (m : Member) → Among (world None s x t) m → IsSound s.frame m → IsHere s x t m
  here_if t m h sound =
      let c = among_all (IsCounted t (tables_before s x t)) (world None s x t) (counted_world s x t) m h in
      record { sound = sound; by_now = c.by_now; next = c.next_is }

  sound_world : (t : ℕ) (m : Member) → Among (world None s x t) m → IsSound s.frame m
  sound_world zero = boundaries_keep_members.sound (machine s) 0 [] (announcements (x 0)) (apart_nil (λ (m : Member). m.name)) (λ l none. absurd none) (weights 0)
  sound_world (suc t) = subst (AllSound s.frame) (sym (world_counted s x t))
      (boundaries_keep_members.sound (machine s) (suc t) (counted (tables_before s x (suc t)) (world None s x t)) (announcements (x (suc t))) (apart_on t) (all_on_sound t (λ m h. here_if t m h (sound_world t m h))) (weights (suc t)))

  pub here : (t : ℕ) (m : Member) → Among (world None s x t) m → IsHere s x t m
  here t m h = here_if t m h (sound_world t m h)

  -- ---- from one slot to the next

  pub came_from : (t : ℕ) (n : Member) → Among (world None s x (suc t)) n → ((m : Member) × Among (world None s x t) m × Descends (suc t) (on s x t m) n) ⊎ IsNew (suc t) n
  came_from t n h = ⊎_elim
      (λ (p : (l : Member) × Among (counted (tables_before s x (suc t)) (world None s x t)) l × Descends (suc t) l n).
      (let q = among_map (counted_one (tables_before s x (suc t))) (world None s x t) p.0 p.1 in inl (q.0, q.1, subst (λ l. Descends (suc t) l n) q.2 p.2)))
      (λ new. inr new)
      (boundaries_keep_members.from (machine s) (suc t) (counted (tables_before s x (suc t)) (world None s x t)) (announcements (x (suc t))) (apart_on t) (all_on_sound t (here t)) (weights (suc t)) n
      (subst (λ ms. Among ms n) (world_counted s x t) h))

  pub goes_to : (t : ℕ) (m : Member) → Among (world None s x t) m → ((n : Member) × Among (world None s x (suc t)) n × Descends (suc t) (on s x t m) n) ⊎ ((n : Member) × IsFreed (suc t) s.frame (on s x t m) n)
  goes_to t m h = subst (λ ms. ((n : Member) × Among ms n × Descends (suc t) (on s x t m) n) ⊎ ((n : Member) × IsFreed (suc t) s.frame (on s x t m) n)) (sym (world_counted s x t))
      (boundaries_keep_members.to (machine s) (suc t) (counted (tables_before s x (suc t)) (world None s x t)) (announcements (x (suc t))) (apart_on t) (all_on_sound t (here t)) (weights (suc t)) (on s x t m)
      (map_among (counted_one (tables_before s x (suc t))) (world None s x t) m h))
