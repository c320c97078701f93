-- The dispatcher's invariant through plans.
use Rattle.pfair_table.proofs.Common.{length-append, map-append, Logged, Said, Announcement, said_by, said_in, sound_beginning, Replica, Below, Untorn, said, frontier, numbers_below, same_said, below_agree, frontier_le, read_by_number, first_by_rank, Queue, boundary, announcements, Roster, Decided, Settings, Origin, Table, eligible, pick, slot_of, all_ran, history, world, table, decisions, IsOf, IsSteady, IsPlanOf, IsInStep, IsKept, heard_before, map_same, among_below, ℕ, zero, suc, ◌+◌, ◌*◌, ◌≤◌, ◌<◌, ◌≡◌, refl, sym, ◌∙◌, subst, arith, cond, Bool, false, List, ◌∷◌, ◌++◌, length, map, Option, Some, None, flat_map, nat_lt, Result, IfOk, OnOk, [], SlotPlan, le-ltb, none-some, ReplicaRows, replica_of, IsReplica, has_torn, empty_replica, IsQueue, IsOrigin, Course, is_plannable, with_next_slot, PlannedSlots, with_next, members_before, plan, Dispatch, IsNextStep, IsWholePlan, course_of, untorn_by_test, min, ap, ◌≢◌, IsTrue, if◌then◌else◌, Step, Done, option_map, length-map, length-drop, drop-append-le, drop-map, slice_get_past, slice_get-map, drop-nil, places_from, places_in, places_after, table_before, places_before, AreKept, IsNext, tables_to, decided_to, last_or, ◌-◌, drop, slice_get, PlannedSlot, Planned, Waiting}
use Rattle.std.specs.declared.alloc.AllocError.{AllocError}
use Rattle.pfair_table.proofs.TableLaws.{same_history, one_table, named_before}
use Rattle.pfair_table.proofs.Runs.{below_all, length_numbers}
use Rattle.pfair_table.specs.declared.settings.TheConstants.Settings.{MAX_SLOTS}

-- A dispatcher's parts from one slot to the next, and from one replica to one that is above it.

-- ---- the members that the boundary leaves are the definition's

world_is : {o : Origin} {s : Settings} {x : Replica} {n : ℕ} {before : Roster} {now : ℕ} {waiting : Queue} → IsInStep o s x n before now waiting → {at : ℕ} → at ≡ slot_of o n
    → boundary before.machine at before.members (announcements (said x n)) ≡ world o s (said x) n
world_is {x} {n} step at_is = let m = step.machine_is in let ms = step.members_are in λ i. boundary (m i) (at_is i) (ms i) (announcements (said x n))

rows_are : {o : Origin} {s : Settings} {x : Replica} {n : ℕ} {before : Roster} {now : ℕ} {waiting : Queue} → IsInStep o s x n before now waiting → {at processors : ℕ} → at ≡ slot_of o n → processors ≡ s.processors → {rows : Table}
    → (let w = boundary before.machine at before.members (announcements (said x n)) in rows ≡ map (pick w) (first_by_rank processors (eligible at w))) → rows ≡ table o s (said x) n
rows_are step at_is many is = grind (arith, world_is, map)

-- so what a slot's plan leaves is in step
pub step_after : {o : Origin} {s : Settings} {x : Replica} {n : ℕ} {before : Roster} {now : ℕ} {waiting : Queue} {announced : List Said} {processors : ℕ} (after : Roster) (now2 : ℕ) (waiting2 : Queue) (r : Result SlotPlan AllocError)
    → IsInStep o s x n before now waiting → {at : ℕ} → at ≡ slot_of o n → announced ≡ said x n → processors ≡ s.processors
    → IfOk r (λ p. let w = boundary before.machine at before.members (announcements announced) in p.table.items ≡ map (pick w) (first_by_rank processors (eligible at w)))
    → IfOk r (λ p. after.members ≡ all_ran p.table.items (boundary before.machine at before.members (announcements announced)))
    → OnOk r (after.machine ≡ before.machine) → OnOk r (after.heard ≡ before.heard + length announced) → OnOk r (IsSteady (at + 1) after now2 waiting2) → OnOk r (IsInStep o s x (n + 1) after now2 waiting2)
step_after after now2 waiting2 r step at_is is many rows ran machine count steady = grind (arith, rows_are)

-- ---- the growth law, for members and ready structure

same_heard : (x y : Replica) (n : ℕ) → ((u : ℕ) → u < n → said x u ≡ said y u) → heard_before x n ≡ heard_before y n
same_heard x y zero same = refl
same_heard x y (suc n) same = grind (arith, same_heard x y n)

module _ {o : Origin} {s : Settings} {replica of : Replica} {tables : List Table} {decided : List (List Decided)} (plan : IsPlanOf o s replica of tables decided) (is_of : IsOf s replica) (whole : Untorn replica) where
  same_processors : of.processors ≡ replica.processors
  same_processors = plan.is_of.processors ∙ sym is_of.processors

  alike : (u : ℕ) → u < length tables → said of u ≡ said replica u
  alike u l = grind (arith, same_said, same_processors, below_agree, frontier_le)

  past : history o s (said of) (length tables) ≡ history o s (said replica) (length tables)
  past = same_history o s (said of) (said replica) (length tables) alike

  -- What was planned of a replica below is planned of this one,
  pub plan_of_held : IsPlanOf o s replica replica tables decided
  plan_of_held = grind (arith, past, map_same, among_below, one_table, below_agree, frontier_le, same_processors, same_history, alike)

  -- and members and ready structure are in step with it too.
  pub step_of_held : {roster : Roster} {now : ℕ} {waiting : Queue} → IsInStep o s of (length tables) roster now waiting → IsInStep o s replica (length tables) roster now waiting
  step_of_held step = grind (arith, past, same_heard, alike)

-- With the next slot planned.
pub plan_next_slot : {o : Origin} {s : Settings} {x : Replica} {tables : List Table} {decided : List (List Decided)} → IsPlanOf o s x x tables decided → length tables < frontier x → length tables < s.slots
    → IsPlanOf o s x x (tables ++ table o s (said x) (length tables) ∷ []) (decided ++ decisions o s (said x) (length tables) ∷ [])
plan_next_slot {o} {s} {x} {tables} {decided} plan early wanted =
    let n = length tables in
    let long : length (tables ++ table o s (said x) n ∷ []) ≡ suc n = length-append tables (table o s (said x) n ∷ []) ∙ (let e : n + 1 ≡ suc n = omega arith in e) in
    grind (arith, map-append, map)

-- ---- the contents grow

pub kept_above : {o : Origin} {s : Settings} {replica more : Replica} {tables : List Table} {decided : List (List Decided)} {spent : Bool} {roster : Roster} {now : ℕ} {waiting : Queue}
    → IsKept o s replica tables decided spent roster now waiting → Below replica more → more.processors ≡ replica.processors → more.capacity ≡ replica.capacity → IsKept o s more tables decided spent roster now waiting
kept_above {replica} {more} kept above same_p same_c = grind (arith, below_all)

-- ---- how many announcements there are

-- an entry says something at a slot below n
abbrev is_past : ℕ → Option (ℕ × Announcement) → Bool
is_past n None = false
is_past n (Some s) = nat_lt s.0 n

-- how many entries of a list do, and of the rows of some processors
abbrev past_in : ℕ → List Logged → ℕ
past_in n [] = 0
past_in n (e ∷ es) = cond (is_past n e.said) 1 0 + past_in n es

abbrev past_of : Replica → ℕ → List ℕ → ℕ
past_of x n [] = 0
past_of x n (k ∷ ks) = past_in n (sound_beginning x k) + past_of x n ks

entry_slot : (t k n : ℕ) (o : Option (ℕ × Announcement)) → cond (is_past t o) 1 0 + length (said_by t k n o) ≡ cond (is_past (suc t) o) 1 0
entry_slot t k n o = grind arith

run_slot : (t k n : ℕ) (es : List Logged) → past_in t es + length (said_in t k n es) ≡ past_in (suc t) es
run_slot t k n [] = refl
run_slot t k n (e ∷ es) = omega (arith, entry_slot t k n e.said, run_slot t k (suc n) es, length-append (said_by t k n e.said) (said_in t k (suc n) es))

rows_slot : (x : Replica) (t : ℕ) (ks : List ℕ) → past_of x t ks + length (flat_map (λ k. said_in t k 1 (sound_beginning x k)) ks) ≡ past_of x (suc t) ks
rows_slot x t [] = refl
rows_slot x t (k ∷ ks) = grind (arith, run_slot, length-append, rows_slot x t ks)

heard_past : (x : Replica) (n : ℕ) → heard_before x n ≤ past_of x n (numbers_below x.processors)
heard_past x zero = omega arith
heard_past x (suc n) = omega (arith, heard_past x n, rows_slot x n (numbers_below x.processors))

few_in : (n : ℕ) (es : List Logged) → past_in n es ≤ length es
few_in n [] = omega arith
few_in n (e ∷ es) = grind (arith, few_in n es)

few_past : (x : Replica) (n : ℕ) (ks : List ℕ) → past_of x n ks ≤ length ks * x.capacity
few_past x n [] = omega arith
few_past x n (k ∷ ks) = grind (arith, few_in n (sound_beginning x k), read_by_number.within x k, few_past x n ks)

few_heard : (x : Replica) (n : ℕ) → heard_before x n ≤ x.processors * x.capacity
few_heard x n = subst (λ k. heard_before x n ≤ k * x.capacity) (length_numbers x.processors) (omega (arith, heard_past x n, few_past x n (numbers_below x.processors)))

pub heard_fits : (x : Replica) (n : ℕ) → x.processors ≤ 64 → x.capacity ≤ 4096 → heard_before x n ≤ 262144
heard_fits x n p c = (let few = few_heard x n in grind (arith, few))

-- ---- whether the next slot can be planned

pub next_planned : (s : Settings) (x : Replica) {k n : ℕ} → k ≡ n → (slot : ℕ) (step : Step) → IsNextStep s x k step → step ≡ Planned slot → (n < frontier x) × (n < s.slots) × (slot ≡ n) × IsTrue (is_plannable s x n)
next_planned s x long slot step is same = grind (arith, long, same, is)

pub next_none : (s : Settings) (x : Replica) {k n : ℕ} → k ≡ n → (step : Step) → IsNextStep s x k step → ((slot : ℕ) → step ≢ Planned slot) → (is_plannable s x n ≡ false) × (min (frontier x) s.slots ≤ n)
next_none s x long (Planned slot) is other = absurd (other slot refl)
next_none s x {n = n} long (Waiting from) is other = (let far : frontier x ≤ n = omega (arith, is.1, is.2, long) in (grind (arith, le-ltb n (frontier x) far), omega (arith, far)))
next_none s x {n = n} long Done is other = (let far : s.slots ≤ n = omega (arith, is, long) in (grind (arith, le-ltb n s.slots far), omega (arith, far)))

-- the tables of the slots so far, one for each
pub tables_listed : (o : Origin) (s : Settings) (x : Replica) (n : ℕ) → (history o s (said x) n).tables ≡ map (table o s (said x)) (numbers_below n)
tables_listed o s x zero = refl
tables_listed o s x (suc n) = ap (λ (ts : List Table). ts ++ table o s (said x) n ∷ []) (tables_listed o s x n) ∙ sym (map-append (table o s (said x)) (numbers_below n) (n ∷ []))

module _ {o : Origin} {s : Settings} {replica : Replica} {tables : List Table} {decided : List (List Decided)} {spent : Bool} {roster : Roster} {now : ℕ} {waiting : Queue} (kept : IsKept o s replica tables decided spent roster now waiting) (sound : IsReplica replica) where
  pub is_of_held : IsOf s replica
  is_of_held = record { replica = sound; processors = kept.processors }

  module _ (test : has_torn replica ≡ false) where
    pub plan_now : IsPlanOf o s replica replica tables decided
    plan_now = plan_of_held kept.plan is_of_held (untorn_by_test replica sound test)

    -- nothing is spent: members and ready structure are in step with the present contents
    pub step_now : spent ≡ false → IsInStep o s replica (length tables) roster now waiting
    step_now e = step_of_held kept.plan is_of_held (untorn_by_test replica sound test) (kept.step e)

    -- members and ready structure made anew
    pub kept_anew : {spent2 : Bool} {roster2 : Roster} {now2 : ℕ} {waiting2 : Queue} → IsInStep o s replica (length tables) roster2 now2 waiting2 → IsKept o s replica tables decided spent2 roster2 now2 waiting2
    kept_anew step = record { began = kept.began; processors = kept.processors; capacity = kept.capacity; of = replica; room = kept.capacity; plan = plan_now; step = λ _. step }

    -- one more slot
    pub kept_next : {more : List Table} {more_decided : List (List Decided)} {spent2 : Bool} {roster2 : Roster} {now2 : ℕ} {waiting2 : Queue} → length tables < frontier replica → length tables < s.slots
        → more ≡ tables ++ table o s (said replica) (length tables) ∷ [] → more_decided ≡ decided ++ decisions o s (said replica) (length tables) ∷ []
        → IsInStep o s replica (length more) roster2 now2 waiting2 → IsKept o s replica more more_decided spent2 roster2 now2 waiting2
    kept_next {more_decided} early wanted tables_are decided_are step = grind (arith, plan_next_slot, plan_now)

-- if as many slots are planned as can be, the tables and decisions are the whole plan
pub whole_plan : {o : Origin} {s : Settings} {x : ReplicaRows} {tables : List Table} {decided : List (List Decided)} {spent : Bool} {roster : Roster} {now forgotten : ℕ} {waiting : Queue} → IsKept o s (replica_of x) tables decided spent roster now waiting
    → IsReplica (replica_of x) → has_torn (replica_of x) ≡ false → min (frontier (replica_of x)) s.slots ≤ length tables
    → IsWholePlan (record { settings = s; origin = o; replica = x; tables = tables; decided = decided; forgotten = forgotten; spent = spent })
whole_plan {o} {s} {x} {tables} kept sound test enough =
    let now = plan_now kept sound test in
    let many : length tables ≡ min (frontier (replica_of x)) s.slots = omega (arith, enough, now.early, now.wanted) in
    record {
      tables_are = now.tables_are ∙ tables_listed o s (replica_of x) (length tables) ∙ ap (λ n. map (table o s (said (replica_of x))) (numbers_below n)) many;
      decided_are = now.decided_are ∙ ap (λ n. map (decisions o s (said (replica_of x))) (numbers_below n)) many;
    }

-- a new dispatcher's members and ready structure are in step
pub start_step : {o : Origin} {s : Settings} {x : Replica} {roster : Roster} {now : ℕ} {waiting : Queue} → IsOrigin o s → roster ≡ record { machine = record { processors = s.processors; frame = s.frame }; members = members_before o; heard = 0; last_slot = None } → now ≡ 0
    → IsQueue roster.members waiting → IsInStep o s x 0 roster now waiting
start_step {o} {s} began e now_is queue = grind (arith, named_before, none-some)

-- nothing planned of a replica that holds nothing
pub start_kept : {o : Origin} {s : Settings} {x : Replica} {roster : Roster} {now : ℕ} {waiting : Queue} → IsOrigin o s → x ≡ empty_replica s.processors x.capacity → x.capacity ≤ 4096 → IsInStep o s x 0 roster now waiting → IsKept o s x [] [] false roster now waiting
start_kept {s} {x} began e few step =
    let none : (k n : ℕ) → x.at k n ≡ None = λ k n. ap (λ (r : Replica). r.at k n) e in
    let many : x.processors ≡ s.processors = ap (λ (r : Replica). r.processors) e in
    grind (arith, none-some)

-- with the next slot planned, as it happens
pub course_next : (s : Settings) (p : PlannedSlots) (x : ReplicaRows) → p.settings ≡ s → IsTrue (is_plannable s (replica_of x) (length p.tables))
    → record { origin = p.origin; replica = replica_of x; tables = (with_next p x).tables; decided = (with_next p x).decided }
    ≡ (let c : Course = record { origin = p.origin; replica = replica_of x; tables = p.tables; decided = p.decided } in
    if is_plannable s (replica_of x) (length p.tables) then with_next_slot s c else c)
course_next s p x same can = grind arith

-- and with none planned
pub course_same : (d : Dispatch) → is_plannable d.settings (replica_of d.replica) (length d.tables) ≡ false
    → course_of d ≡ (if is_plannable d.settings (replica_of d.replica) (length d.tables) then with_next_slot d.settings (course_of d) else course_of d)
course_same d none = ap (λ b. if b then with_next_slot d.settings (course_of d) else course_of d) (sym none)

-- What is kept of planned slots: the list of all of them from one on.

-- ---- how many there are

pub tables_long : (o : Origin) (s : Settings) (x : ReplicaRows) (n : ℕ) → length (tables_to o s x n) ≡ n
tables_long o s x n = ap length (tables_listed o s (replica_of x) n) ∙ (length-map (numbers_below n) (table o s (said (replica_of x))) ∙ length_numbers n)

pub decided_long : (o : Origin) (s : Settings) (x : ReplicaRows) (n : ℕ) → length (decided_to o s x n) ≡ n
decided_long o s x n = length-map (numbers_below n) (decisions o s (said (replica_of x))) ∙ length_numbers n

places_long : (before : Table) (old : List ℕ) (tables : List Table) → length (places_from before old tables) ≡ length tables
places_long before old [] = refl
places_long before old (now ∷ tables) = omega (arith, places_long now (places_after before old now) tables)

-- ---- the rest of a list

get_rest : {A : Type 0} (n : ℕ) (xs : List A) (i : ℕ) → n ≤ i → slice_get (drop n xs) (i - n) ≡ slice_get xs i
get_rest zero xs i le = ap (slice_get xs) (let same : i - 0 ≡ i = omega arith in same)
get_rest (suc n) [] i le = slice_get_past [] (i - suc n) (omega arith) ∙ sym (slice_get_past [] i (omega arith))
get_rest (suc n) (x ∷ xs) zero le = absurd (omega (arith, le))
get_rest (suc n) (x ∷ xs) (suc i) le = ap (slice_get (drop n xs)) (let same : suc i - suc n ≡ i - n = omega arith in same) ∙ get_rest n xs i (omega (arith, le))

last_rest : {A : Type 0} (d : A) (n : ℕ) (xs : List A) → n < length xs → last_or d (drop n xs) ≡ last_or d xs
last_rest d zero xs l = refl
last_rest d (suc n) [] l = absurd (omega (arith, l))
last_rest d (suc n) (x ∷ []) l = absurd (omega (arith, l))
last_rest d (suc n) (x ∷ y ∷ xs) l = last_rest d n (y ∷ xs) (omega (arith, l))

drop_twice : {A : Type 0} (k n : ℕ) (xs : List A) → drop k (drop n xs) ≡ drop (n + k) xs
drop_twice k zero xs = ap (λ m. drop m xs) (let same : k ≡ 0 + k = omega arith in same)
drop_twice k (suc n) [] = drop-nil k ∙ sym (drop-nil (suc n + k))
drop_twice k (suc n) (x ∷ xs) = drop_twice k n xs ∙ ap (λ m. drop m (x ∷ xs)) (let same : suc (n + k) ≡ suc n + k = omega arith in same)

-- ---- what is kept

module _ {o : Origin} {s : Settings} {of : ReplicaRows} {first forgotten : ℕ} {slots : List PlannedSlot} (kept : AreKept o s of first forgotten slots) where
  abbrev all : List Table
  all = tables_to o s of (first + length slots)

  abbrev decided : List (List Decided)
  decided = decided_to o s of (first + length slots)

  -- each by its number
  pub get_kept : {A : Type 0} (f : PlannedSlot → A) (xs : List A) → map f slots ≡ drop first xs → (i : ℕ) → first ≤ i → option_map f (slice_get slots (i - first)) ≡ slice_get xs i
  get_kept f xs is i le = sym (slice_get-map f slots (i - first)) ∙ ap (λ ys. slice_get ys (i - first)) is ∙ get_rest first xs i le

  -- the last
  last_all : {A : Type 0} (f : PlannedSlot → A) (d : A) (xs : List A) → map f slots ≡ drop first xs → length xs ≡ first + length slots → last_or d (map f slots) ≡ last_or d xs
  last_all f d xs is long = by (length slots) refl
    where
      by : (k : ℕ) → k ≡ length slots → last_or d (map f slots) ≡ last_or d xs
      by zero none = ap (last_or d) (is ∙ ap (λ n. drop n xs) (let none_first : first ≡ 0 = grind (arith, kept.last) in none_first))
      by (suc k) some = ap (last_or d) is ∙ last_rest d first xs (omega (arith, long, some))

  pub last_table_is : last_or (table_before o) (map (λ p. p.plan.table.items) slots) ≡ last_or (table_before o) all
  last_table_is = last_all (λ p. p.plan.table.items) (table_before o) all kept.tables_are (tables_long o s of (first + length slots))

  pub last_places_are : last_or (places_before o) (map (λ p. p.places.items) slots) ≡ last_or (places_before o) (places_in o all)
  last_places_are = grind (arith, last_all, places_long, tables_long)

  -- without some of the first ones
  rest_of : {A : Type 0} (count : ℕ) (f : PlannedSlot → A) (xs : List A) → map f slots ≡ drop first xs → map f (drop count slots) ≡ drop (first + count) xs
  rest_of count f xs is = sym (drop-map f count slots) ∙ ap (drop count) is ∙ drop_twice count first xs

  pub kept_without : (count later : ℕ) → count ≤ length slots - 1 → first + count ≤ later → later ≤ first + length slots → AreKept o s of (first + count) later (drop count slots)
  kept_without count later few past within = grind (arith, length-drop, rest_of)

  -- with the next one behind them
  abbrev seen : PlannedSlots
  seen = record { settings = s; origin = o; tables = all; decided = decided; forgotten = forgotten }

  long : length all ≡ first + length slots
  long = tables_long o s of (first + length slots)

  module _ {x : ReplicaRows} {next : PlannedSlot} (is : IsNext seen x next) where
    one_more : first + length (slots ++ next ∷ []) ≡ suc (first + length slots)
    one_more = omega (arith, length-append slots (next ∷ []))

    tables_more : tables_to o s x (first + length (slots ++ next ∷ [])) ≡ all ++ table o s (said (replica_of x)) (length all) ∷ []
    tables_more =
        ap (tables_to o s x) one_more
        ∙ ap (λ n. tables_to o s x n ++ table o s (said (replica_of x)) n ∷ []) (sym long)
        ∙ ap (λ ts. ts ++ table o s (said (replica_of x)) (length all) ∷ []) (sym is.tables_are)

    decided_more : decided_to o s x (first + length (slots ++ next ∷ [])) ≡ decided ++ decisions o s (said (replica_of x)) (length all) ∷ []
    decided_more =
        ap (decided_to o s x) one_more
        ∙ map-append (decisions o s (said (replica_of x))) (numbers_below (first + length slots)) ((first + length slots) ∷ [])
        ∙ ap (λ n. decided_to o s x n ++ decisions o s (said (replica_of x)) n ∷ []) (sym long)
        ∙ ap (λ ds. ds ++ decisions o s (said (replica_of x)) (length all) ∷ []) (sym is.decided_are)

    pub seen_more : record { settings = s; origin = o; tables = tables_to o s x (first + length (slots ++ next ∷ [])); decided = decided_to o s x (first + length (slots ++ next ∷ [])); forgotten = forgotten } ≡ with_next seen x
    seen_more = λ i. record { settings = s; origin = o; tables = tables_more i; decided = decided_more i; forgotten = forgotten }

    one_behind : {A : Type 0} (f : PlannedSlot → A) (xs : List A) → map f slots ≡ drop first xs → length xs ≡ first + length slots → map f (slots ++ next ∷ []) ≡ drop first (xs ++ f next ∷ [])
    one_behind f xs so_far count = map-append f slots (next ∷ []) ∙ ap (λ ys. ys ++ f next ∷ []) so_far ∙ sym (drop-append-le first xs (f next ∷ []) (omega (arith, count)))

    pub kept_more : first + length slots < MAX_SLOTS → AreKept o s x first forgotten (slots ++ next ∷ [])
    kept_more few =
        let tables_now : all ++ next.plan.table.items ∷ [] ≡ tables_to o s x (first + length (slots ++ next ∷ [])) = ap (λ rows. all ++ rows ∷ []) is.table_is ∙ sym tables_more in
        record {
          tables_are = one_behind (λ p. p.plan.table.items) all kept.tables_are long ∙ ap (drop first) tables_now;
          places_are = one_behind (λ p. p.places.items) (places_in o all) kept.places_are (places_long (table_before o) (places_before o) all ∙ long)
              ∙ ap (drop first) (sym is.places_are ∙ ap (places_in o) tables_now);
          decided_are = one_behind (λ p. p.plan.decided.items) decided kept.decided_are (decided_long o s of (first + length slots))
              ∙ ap (drop first) (ap (λ ds. decided ++ ds ∷ []) is.decision_is ∙ sym decided_more);
          forgets = (kept.forgets.0, omega (arith, one_more, kept.forgets));
          last = λ some. omega (arith, length-append slots (next ∷ []));
          few = omega (arith, one_more, few);
        }
