-- A static schedule repeats after a common multiple of the periods.
use Rattle.pfair_in_time.proofs.Common.{AllByRecursion, find, list_any, cases_lt, mod-eq-sub-div-mul, div-mul-le_self, mul-mod_left, mul_comm, Share, IsWeight, units_of, release_of, group_deadline_of, window_not_empty, name_eq, Key, Among, among_filter, map_same, Replica, said, Member, is_departing, next_key, member_named, newcomer, Pick, Settings, names_task, next_index, counted_one, is_eligible, eligible, index_of, pick, chosen, table_of, world, table, ◌≡◌, ℕ, zero, suc, ◌+◌, ◌*◌, ◌/◌, ◌%◌, ◌<◌, ◌≤◌, Bool, true, false, cond, List, [], ◌∷◌, map, Option, Some, None, arith, ap, refl, sym, ◌∙◌, inl, inr, ◌||◌, nat_le, filter, option_map, if◌then◌else◌, nat_tests, div-add-mod', map-map, group_deadline_light, group_deadline_not_before, release_repeats, deadline_repeats, b_bit_repeats, group_deadline_repeats, starts_job_repeats, group_later, key_later, filter_mapped, first_later, first_by_rank, Arrival, SaysOnly, IsCommonMultiple, quanta_in, later_row, TablesRepeat, RepeatsByPeriods}
use Rattle.pfair_in_time.proofs.Executive.{none}
use Rattle.pfair_in_time.proofs.Served.{says_weights, is_first, world_is, member_at}
use Rattle.pfair_in_time.proofs.Windows.{quanta_passing, no_offset_all}
use Rattle.pfair_in_time.proofs.Worlds.{tables_before, runs, next_more, next_new, here, HaveWeights}
use Rattle.pfair_in_time.proofs.ThroughRuns.{exactly}

-- ---- lists

filter_same : {A : Type 0} (p q : A → Bool) (xs : List A) → ((x : A) → Among xs x → p x ≡ q x) → filter p xs ≡ filter q xs
filter_same p q [] same = refl
filter_same p q (x ∷ xs) same = grind (arith, filter_same p q xs)

find_mapped : {A : Type 0} (p : A → Bool) (f : A → A) → ((x : A) → p (f x) ≡ p x) → (xs : List A) → find p (map f xs) ≡ option_map f (find p xs)
find_mapped p f same [] = refl
find_mapped p f same (x ∷ xs) = grind (arith, find_mapped p f same xs)

any_mapped : {A : Type 0} (p : A → Bool) (f : A → A) → ((x : A) → p (f x) ≡ p x) → (xs : List A) → list_any p (map f xs) ≡ list_any p xs
any_mapped p f same [] = refl
any_mapped p f same (x ∷ xs) = λ i. same x i || any_mapped p f same xs i

le_later : (n t by : ℕ) → nat_le (n + by) (t + by) ≡ nat_le n t
le_later n t by = grind (arith, nat_tests)

none_le : (t : ℕ) → nat_le 0 t ≡ true
none_le t = grind (arith, nat_tests)

-- ---- a member that joined at slot 0

-- without delays, at the subtask of that index
abbrev stands : List ℕ → Share → Bool → ℕ → Member
stands name w early i = record (newcomer 0 name w early) { next = i }

module _ (name : List ℕ) (w : Share) (early : Bool) (i k : ℕ) (h : IsWeight w.cost w.period) (first : 1 ≤ i) where
  -- k jobs later it is eligible k periods later
  eligible_repeats : (t : ℕ) → is_eligible (t + k * w.period) (stands name w early (i + k * w.cost)) ≡ is_eligible t (stands name w early i)
  eligible_repeats t = grind (arith, starts_job_repeats, choose)
    where
      choose : (b : Bool) → nat_le (if b then release_of w (i + k * w.cost) 0 else 0) (t + k * w.period) ≡ nat_le (if b then release_of w i 0 else 0) t
      choose true = ap (λ r. nat_le r (t + k * w.period)) (release_repeats w i k 0 h.some_cost first) ∙ le_later (release_of w i 0) t (k * w.period)
      choose false = none_le (t + k * w.period) ∙ sym (none_le t)

  group_is : group_deadline_of w (i + k * w.cost) 0 ≡ group_later (k * w.period) (group_deadline_of w i 0)
  group_is = elim (cases_lt (2 * w.cost) w.period) [
    | inl light ↦ group_deadline_light w (i + k * w.cost) 0 light ∙ sym (ap (group_later (k * w.period)) (group_deadline_light w i 0 light))
    | inr heavy ↦
        let due = group_deadline_not_before w i 0 h heavy in
        let open_first = window_not_empty w i 0 h first in
        group_deadline_repeats w i k 0 h heavy ∙ some (group_deadline_of w i 0) (omega arith)
  ]
    where
      some : (group : ℕ) → 0 < group → group + k * w.period ≡ group_later (k * w.period) group
      some zero none = absurd (omega arith)
      some (suc group) is = refl

  -- and its key is later by that
  key_repeats : next_key (stands name w early (i + k * w.cost)) ≡ key_later (k * w.period) (next_key (stands name w early i))
  key_repeats = λ j. record { d = deadline_repeats w i k 0 h.some_cost j; b = b_bit_repeats w i k h.some_cost j; group = group_is j; name = name }

module _ (s : Settings) (x : Replica) (arrivals : List Arrival) (frame : 0 < s.frame) (says : SaysOnly x arrivals) (are : AllByRecursion (λ (a : Arrival). IsWeight a.weight.cost a.weight.period) arrivals) where
  weights : HaveWeights (said x)
  weights = says_weights x arrivals says are

  weight_of : (m : Member) → Among (world None s (said x) 0) m → IsWeight m.weight.cost m.weight.period
  weight_of m among = (here s (said x) weights 0 m among).sound.weight

  joined_first : (m : Member) → Among (world None s (said x) 0) m → m.joined ≡ 0
  joined_first m among = ap (λ (l : Member). l.joined) (is_first s x arrivals says m among)

  -- ---- after a common multiple of the periods

  module _ (h : ℕ) (common : IsCommonMultiple h (world None s (said x) 0)) where
    module _ (m : Member) (among : Among (world None s (said x) 0) m) where
      abbrev jobs : ℕ
      jobs = h / m.weight.period

      all_jobs : jobs * m.weight.period ≡ h
      all_jobs = grind (arith, mod-eq-sub-div-mul, div-mul-le_self)

      units_are : units_of m.weight h ≡ jobs * m.weight.cost
      units_are = mul_comm m.weight.cost jobs

      -- when it ends the task has had exactly the quanta that it wants
      quanta_are : next_index (tables_before s (said x) h) m ≡ 1 + units_of m.weight h
      quanta_are =
          let l = counted_one (tables_before s (said x) h) m in
          let whole = all_jobs in
          let units = units_are in
          let joined = joined_first m among in
          let exact = exactly s (said x) frame weights h jobs l (member_at s x arrivals says h m among)
          (ap is_departing (is_first s x arrivals says m among)) (no_offset_all l (ap (λ (n : Member). n.delays) (is_first s x arrivals says m among))) 1 (omega arith) in
          let ran = quanta_passing s (said x) l (jobs * m.weight.period) in
          grind arith

    -- the index of the next subtask is by so much greater
    abbrev IsAhead : ℕ → Type 0
    IsAhead t = (m : Member) → Among (world None s (said x) 0) m → next_index (tables_before s (said x) (t + h)) m ≡ next_index (tables_before s (said x) t) m + units_of m.weight h

    -- ---- then the table of the slot repeats

    module _ (t : ℕ) (ahead : IsAhead t) where
      -- a member in slot t, and h slots later
      abbrev now : Member → Member
      now = counted_one (tables_before s (said x) t)

      abbrev then_ : Member → Member
      then_ m = record m { next = next_index (tables_before s (said x) t) m + units_of m.weight h }

      world_later : world None s (said x) (t + h) ≡ map then_ (world None s (said x) 0)
      world_later = world_is s x arrivals says (t + h) ∙ map_same (counted_one (tables_before s (said x) (t + h))) then_ (world None s (said x) 0) (λ m among. (λ i. record m { next = ahead m among i }))

      eligible_one : (m : Member) → Among (world None s (said x) 0) m → is_eligible (t + h) (then_ m) ≡ is_eligible t (now m)
      eligible_one m among =
          ap (λ (l : Member). is_eligible (t + h) (record l { next = next_index (tables_before s (said x) t) m + units_of m.weight h })) (is_first s x arrivals says m among)
          ∙ (λ i. is_eligible (t + sym (all_jobs m among) i) (stands m.name m.weight m.early (next_index (tables_before s (said x) t) m + units_are m among i)))
          ∙ eligible_repeats m.name m.weight m.early (next_index (tables_before s (said x) t) m) (jobs m among) (weight_of m among) (omega arith) t
          ∙ sym (ap (λ (l : Member). is_eligible t (record l { next = next_index (tables_before s (said x) t) m })) (is_first s x arrivals says m among))

      key_one : (m : Member) → Among (world None s (said x) 0) m → next_key (then_ m) ≡ key_later h (next_key (now m))
      key_one m among =
          ap (λ (l : Member). next_key (record l { next = next_index (tables_before s (said x) t) m + units_of m.weight h })) (is_first s x arrivals says m among)
          ∙ (λ i. next_key (stands m.name m.weight m.early (next_index (tables_before s (said x) t) m + units_are m among i)))
          ∙ key_repeats m.name m.weight m.early (next_index (tables_before s (said x) t) m) (jobs m among) (weight_of m among) (omega arith)
          ∙ (λ i. key_later (all_jobs m among i) (next_key (stands m.name m.weight m.early (next_index (tables_before s (said x) t) m))))
          ∙ sym (ap (λ (l : Member). key_later h (next_key (record l { next = next_index (tables_before s (said x) t) m }))) (is_first s x arrivals says m among))

      eligible_later : eligible (t + h) (map then_ (world None s (said x) 0)) ≡ map (key_later h) (eligible t (map now (world None s (said x) 0)))
      eligible_later =
          ap (map next_key) (filter_mapped (is_eligible (t + h)) then_ (world None s (said x) 0))
          ∙ map-map next_key then_ (filter (λ m. is_eligible (t + h) (then_ m)) (world None s (said x) 0))
          ∙ ap (map (λ m. next_key (then_ m))) (filter_same (λ m. is_eligible (t + h) (then_ m)) (λ m. is_eligible t (now m)) (world None s (said x) 0) eligible_one)
          ∙ map_same (λ m. next_key (then_ m)) (λ m. key_later h (next_key (now m))) (filter (λ m. is_eligible t (now m)) (world None s (said x) 0))
          (λ m among. key_one m (among_filter (λ m. is_eligible t (now m)) (world None s (said x) 0) m among).0)
          ∙ sym (map-map (key_later h) (λ m. next_key (now m)) (filter (λ m. is_eligible t (now m)) (world None s (said x) 0)))
          ∙ ap (map (key_later h)) (sym (map-map next_key now (filter (λ m. is_eligible t (now m)) (world None s (said x) 0))))
          ∙ ap (λ l. map (key_later h) (map next_key l)) (sym (filter_mapped (is_eligible t) now (world None s (said x) 0)))

      chosen_later : chosen s (t + h) (map then_ (world None s (said x) 0)) ≡ map (key_later h) (chosen s t (map now (world None s (said x) 0)))
      chosen_later = ap (first_by_rank s.processors) eligible_later ∙ first_later h s.processors (eligible t (map now (world None s (said x) 0)))

      pick_one : (k : Key) → pick (map then_ (world None s (said x) 0)) (key_later h k) ≡ later_row h (world None s (said x) 0) (pick (map now (world None s (said x) 0)) k)
      pick_one k = λ i. record { name = k.name; index = index i }
        where
          each : (o : Option Member) → index_of (option_map then_ o) ≡ index_of (option_map now o) + quanta_in h o
          each None = refl
          each (Some m) = refl

          index : index_of (member_named (map then_ (world None s (said x) 0)) k.name) ≡ index_of (member_named (map now (world None s (said x) 0)) k.name) + quanta_in h (member_named (world None s (said x) 0) k.name)
          index = grind (arith, find_mapped)

      repeats_if : table None s (said x) (t + h) ≡ map (later_row h (world None s (said x) 0)) (table None s (said x) t)
      repeats_if =
          ap (table_of s (t + h)) world_later
          ∙ ap (map (pick (map then_ (world None s (said x) 0)))) chosen_later
          ∙ map-map (pick (map then_ (world None s (said x) 0))) (key_later h) (chosen s t (map now (world None s (said x) 0)))
          ∙ map_same (λ k. pick (map then_ (world None s (said x) 0)) (key_later h k)) (λ k. later_row h (world None s (said x) 0) (pick (map now (world None s (said x) 0)) k)) (chosen s t (map now (world None s (said x) 0))) (λ k among. pick_one k)
          ∙ sym (map-map (later_row h (world None s (said x) 0)) (pick (map now (world None s (said x) 0))) (chosen s t (map now (world None s (said x) 0))))
          ∙ ap (λ ms. map (later_row h (world None s (said x) 0)) (table_of s t ms)) (sym (world_is s x arrivals says t))

    -- ---- and so on

    ahead_at : (t : ℕ) → IsAhead t
    ahead_at zero m among =
        let new = next_new s (said x) 0 m (joined_first m among) in
        let had = quanta_are m among in
        grind arith
    ahead_at (suc t) m among =
        let before = ahead_at t m among in
        let joined = joined_first m among in
        let one = next_more s (said x) (t + h) m (omega arith) in
        let other = next_more s (said x) t m (omega arith) in
        let named : runs s (said x) (t + h) m ≡ runs s (said x) t m =
        ap (names_task m.name) (repeats_if t (ahead_at t)) ∙ any_mapped (λ (r : Pick). name_eq m.name r.name) (later_row h (world None s (said x) 0)) (λ r. refl) (table None s (said x) t) in
        let c = ap (λ b. cond {A = ℕ} b 1 0) named in
        let at : suc t + h ≡ suc (t + h) = omega arith in
        let same = ap (λ n. next_index (tables_before s (said x) n) m) at in
        omega arith

    repeats : (t : ℕ) → table None s (said x) (t + h) ≡ map (later_row h (world None s (said x) 0)) (table None s (said x) t)
    repeats t = repeats_if t (ahead_at t)

pub tables_repeat : TablesRepeat
tables_repeat s x arrivals h frame says are common t = repeats s x arrivals frame says are h common t

-- each multiple of h is one too
pub repeats_by_periods : RepeatsByPeriods
repeats_by_periods s x arrivals h frame says are common t =
    ap (table None s (said x)) (let split = div-add-mod' t h in omega arith)
    ∙ tables_repeat s x arrivals (t / h * h) frame says are multiple (t % h)
  where
    times : (q p k : ℕ) → k * p ≡ h → (q * h) % p ≡ 0
    times q p k whole = (let spread : q * h ≡ q * (k * p) = ap (λ n. q * n) (sym whole) in ap (λ n. n % p) (spread ∙ (omega arith)) ∙ mul-mod_left (q * k) p)

    multiple : IsCommonMultiple (t / h * h) (world None s (said x) 0)
    multiple m among = grind (arith, times, mod-eq-sub-div-mul, div-mul-le_self)
