-- A next run goes on as the long run does.
use Rattle.pfair_table.proofs.Common.{AllByRecursion, filter, list_any, and_parts, cases_Bool, false≢true, or_cases, length-map, NamesApart, apart_map, Key, name_exact, name_eq, Said, Announcement, IsWeighed, Among, all_among, among_all, among_map, among_filter, map_same, Member, theta, is_departing, eligible_from, next_key, Machine, announcements, all_decided, boundary_decisions, member_named, newcomer, present, ran, with_quantum, all_raised, carried, carried_delays, jobs_done, subtasks_done, subtasks_of, taken_off, each, each_filter, each_map, by_effect, each_change, apart_present, Pick, all_kept, filled, place_of, places_after, places_before, places_in, table_before, last_or, first_by_rank, Settings, Origin, Story, Table, machine, names_task, is_eligible, eligible, pick, all_ran, chosen, index_of, slot_of, with_decisions, history, world, table, decisions, ◌≡◌, ℕ, zero, suc, ◌+◌, ◌-◌, ◌*◌, ◌%◌, ◌<◌, ◌≤◌, Bool, true, false, List, [], ◌∷◌, ◌++◌, map, length, Option, Some, None, refl, sym, ap, subst, ◌∙◌, arith, inl, inr, ⊎_elim, nat_tests, map-map, all_by_recursion_push, Share, Name, Decision, IsWeighedStory, HasBegun, IsBegun, last_places, last_table, ◌/◌, div-add-mod', IsWeight, release_of, starts_job_of, done_low, next_ran, none_done, carried_lowered, eligible_at_job, one_each, IsSlotOf, RunsGoOn, both_stories, left_over, raised_rows}
use Rattle.std.specs.Prelude.{⊤, nat_lt, nat_le, not, if◌then◌else◌}
use Rattle.std.proofs.Math.Nat.{add-mul-div_right, div-eq_of_lt, mul-div_cancel}
use Rattle.pfair_weight.specs.WindowFacts.{job_released, starts_job_only}
use Rattle.pfair_admission.proofs.Beside.{AreDecided, ArePaired, Pair, all_paired, eligible_paired, index_paired, lags_paired, keys_paired, later_paired, present_paired, ran_paired}
use Rattle.pfair_table.proofs.TableLaws.{among_first, label, named_from, named_history, after_table, all_ran_is, eligible_apart, rows_apart, same_history}
use Rattle.pfair_table.proofs.QueueKept.{found_own}
use Rattle.pfair_table.proofs.Alike.{next_are}

-- ---- slots

pub slot_more : (o : Origin) (t : ℕ) → slot_of o (suc t) ≡ suc (slot_of o t)
slot_more o t = grind arith

pub slot_on : (o : Origin) (n t : ℕ) → slot_of o (n + t) ≡ slot_of o n + t
slot_on o n t = grind arith

-- ---- who runs may run

-- some one passes a test
pub any_among : {A : Type 0} (p : A → Bool) (xs : List A) → list_any p xs ≡ true → (x : A) × Among xs x × (p x ≡ true)
any_among p [] h = absurd (false≢true h)
any_among p (y ∷ ys) h = ⊎_elim (λ e. (y, inl refl, e)) (λ r. (let t = any_among p ys r in (t.0, inr t.1, t.2))) (or_cases (p y) (list_any p ys) h)

pub ran_eligible : (processors t : ℕ) (members : List Member) → NamesApart label members → (m : Member) → Among members m → names_task m.name (map (pick members) (first_by_rank processors (eligible t members))) ≡ true → is_eligible t m ≡ true
ran_eligible processors t members apart m here named =
    let keys = first_by_rank processors (eligible t members) in
    let row = any_among (λ (r : Pick). name_eq m.name r.name) (map (pick members) keys) named in
    let key = among_map (pick members) keys row.0 row.1 in
    let among = among_first (eligible t members) (eligible_apart t members apart) processors key.0 key.1 in
    let chosen = among_map next_key (filter (is_eligible t) members) key.0 among in
    let able = among_filter (is_eligible t) members chosen.0 chosen.1 in
    let name : m.name ≡ chosen.0.name = name_exact m.name row.0.name row.2 ∙ ap (λ (r : Pick). r.name) key.2 ∙ ap (λ (k : Key). k.name) chosen.2 in
    let same : Some m ≡ Some chosen.0 = sym (found_own members apart m here) ∙ ap (member_named members) name ∙ found_own members apart chosen.0 able.0 in
    subst (λ (o : Option Member). holds o) (sym same) able.1
  where
    holds : Option Member → Type 0
    holds None = ⊤
    holds (Some x) = is_eligible t x ≡ true

-- ---- the jobs of members have begun

module _ (slot : ℕ) where
  begun_joins : (name : List ℕ) (w : Share) (early : Bool) → IsWeight w.cost w.period → HasBegun (suc slot) (newcomer slot name w early)
  begun_joins name w early h = grind (arith, div-eq_of_lt)

  begun_decided : (machine : Machine) (announced : List Announcement) → AllByRecursion IsWeighed announced → (members : List Member) → AllByRecursion (HasBegun (suc slot)) members → AllByRecursion (HasBegun (suc slot)) (all_decided machine slot members announced)
  begun_decided machine [] h members all = all
  begun_decided machine (a ∷ announced) h members all = grind (arith, each_filter, by_effect, all_by_recursion_push, begun_joins, each_change, begun_decided machine announced h.1)

  -- the quantum of a subtask that starts a job comes after the job's release
  begun_runs : (m : Member) → HasBegun (suc slot) m → is_eligible slot m ≡ true → HasBegun (suc slot) (with_quantum m)
  begun_runs m b able = record { weighed = b.weighed; first = omega arith; joined = joined }
    where
      here : eligible_from m m.next ≤ slot
      here = (let may = (and_parts (not (is_departing m)) (nat_le (eligible_from m m.next) slot) able).1 in grind (arith, nat_tests))

      back : m.next + 1 - 2 ≡ m.next - 1
      back = omega arith

      joined : m.joined + (m.next + 1 - 2) / m.weight.cost * m.weight.period < suc slot
      joined = elim (cases_Bool (starts_job_of m.weight m.next)) [
        | inl starts ↦
            let some = b.weighed.some_cost in
            let job = starts_job_only m.weight m.next b.first starts in
            let at : m.next + 1 - 2 ≡ job.0 * m.weight.cost = omega (arith, job.1) in
            let jobs : (m.next + 1 - 2) / m.weight.cost ≡ job.0 = ap (λ k. k / m.weight.cost) at ∙ mul-div_cancel job.0 some in
            let released : release_of m.weight m.next (theta m m.next) ≡ theta m m.next + job.0 * m.weight.period = ap (λ i. release_of m.weight i (theta m m.next)) job.1 ∙ job_released m.weight job.0 (theta m m.next) some in
            omega (arith, here, eligible_at_job m m.next starts, released, ap (λ k. k * m.weight.period) jobs)
        | inr on ↦
            let q : ℕ = (m.next - 1) / m.weight.cost in
            let r : ℕ = (m.next - 1) % m.weight.cost in
            let some = b.weighed.some_cost in
            let split : q * m.weight.cost + r ≡ m.next - 1 = div-add-mod' (m.next - 1) m.weight.cost in
            let low : r < m.weight.cost = omega (arith, some) in
            let left : 1 ≤ r = grind (arith, nat_tests) in
            let same : (r - 1 + q * m.weight.cost) / m.weight.cost ≡ (r - 1) / m.weight.cost + q = add-mul-div_right (r - 1) q some in
            let none : (r - 1) / m.weight.cost ≡ 0 = div-eq_of_lt (omega (arith, low, left)) in
            let was : (m.next - 2) / m.weight.cost ≡ q = (let at : m.next - 2 ≡ r - 1 + q * m.weight.cost = omega (arith, split, left) in ap (λ n. n / m.weight.cost) at ∙ omega (arith, same, none)) in
            let jobs : (m.next + 1 - 2) / m.weight.cost ≡ (m.next - 2) / m.weight.cost = ap (λ n. n / m.weight.cost) back ∙ sym was in
            omega (arith, b.joined, ap (λ k. k * m.weight.period) jobs)
      ]

  pub begun_ran : (processors : ℕ) (members : List Member) → NamesApart label members → AllByRecursion (HasBegun (suc slot)) members
      → AllByRecursion (HasBegun (suc slot)) (all_ran (map (pick members) (first_by_rank processors (eligible slot members))) members)
  begun_ran processors members apart all =
      let rows = map (pick members) (first_by_rank processors (eligible slot members)) in
      subst (AllByRecursion (HasBegun (suc slot))) (sym (all_ran_is rows (rows_apart processors slot members apart) members))
      (each_map (λ m. HasBegun (suc slot) (after_table rows m)) (HasBegun (suc slot)) (after_table rows) (λ m b. b) members
      (all_among (λ m. HasBegun (suc slot) (after_table rows m)) members (λ m h. by m h (names_task m.name rows) refl (among_all (HasBegun (suc slot)) members all m h))))
    where
      by : (m : Member) → Among members m → (b : Bool) → names_task m.name (map (pick members) (first_by_rank processors (eligible slot members))) ≡ b → HasBegun (suc slot) m → HasBegun (suc slot) (if b then with_quantum m else m)
      by m h true runs begun = begun_runs m begun (ran_eligible processors slot members apart m h runs)
      by m h false rests begun = begun

-- ---- a run from where it began

module _ (o : Origin) (s : Settings) (began : IsBegun o) where
  pub begun_over : (story : Story) → IsWeighedStory story → (t : ℕ) → AllByRecursion (HasBegun (slot_of o t)) (history o s story t).members
  begun_over story weights zero = began.begun
  begun_over story weights (suc t) = grind (arith, each, begun_decided, each_filter, slot_more, begun_ran, named_from, begun_over story weights t)

  -- so a next run can begin with what is left
  pub left_begun : (story : Story) → IsWeighedStory story → (n : ℕ) → IsBegun (Some (left_over o s story n))
  left_begun story weights n =
      let members = (history o s story n).members in
      record {
        named = apart_map label label carried (λ m. refl) members (named_history o s began.named story n);
        begun = each_map (HasBegun (slot_of o n)) (HasBegun (slot_of o n + 0)) carried carried_begun members (begun_over story weights n);
      }
    where
      carried_begun : (m : Member) → HasBegun (slot_of o n) m → HasBegun (slot_of o n + 0) (carried m)
      carried_begun m b = record { weighed = b.weighed; first = omega (arith, done_low m, b.first); joined = omega (arith, b.joined, ap (λ k. k * m.weight.period) (none_done m)) }

-- ---- places follow from names

abbrev pub names_of : Table → List Name
names_of rows = map (λ p. p.name) rows

abbrev place_named : List Name → List ℕ → Name → Option ℕ
place_named (n ∷ names) (k ∷ places) name = if name_eq name n then Some k else place_named names places name
place_named _ _ name = None

place_is : (rows : Table) (places : List ℕ) (name : Name) → place_of rows places name ≡ place_named (names_of rows) places name
place_is [] places name = refl
place_is (p ∷ rows) [] name = refl
place_is (p ∷ rows) (k ∷ places) name = ap (λ o. if name_eq name p.name then Some k else o) (place_is rows places name)

abbrev after_named : List Name → List ℕ → List Name → List ℕ
after_named before places now = let kept = map (place_named before places) now in filled (all_kept kept) kept

after_is : (before : Table) (places : List ℕ) (now : Table) → places_after before places now ≡ after_named (names_of before) places (names_of now)
after_is before places now = grind (arith, map, map_same, place_is, map-map)

places_same : (before before' now now' : Table) (places places' : List ℕ) → names_of before ≡ names_of before' → places ≡ places' → names_of now ≡ names_of now' → places_after before places now ≡ places_after before' places' now'
places_same before before' now now' places places' was at is = after_is before places now ∙ (λ i. after_named (was i) (at i) (is i)) ∙ sym (after_is before' places' now')

last_more : {A : Type 0} (d : A) (xs : List A) (x : A) → last_or d (xs ++ x ∷ []) ≡ x
last_more d [] x = refl
last_more d (y ∷ xs) x = last_more y xs x

-- ---- decisions

decisions_are : (announced : List Said) (ds : List Decision) → length ds ≡ length announced → map (λ d. d.decision) (with_decisions announced ds) ≡ ds
decisions_are [] [] e = refl
decisions_are [] (d ∷ ds) e = absurd (cc)
decisions_are (a ∷ announced) [] e = absurd (cc)
decisions_are (a ∷ announced) (d ∷ ds) e = ap (λ l. d ∷ l) (decisions_are announced ds (omega (arith, e)))

-- ---- one slot

module _ (o : Origin) (s : Settings) (first : Story) (n : ℕ) (began : IsBegun o) (weights : IsWeighedStory first) (second : Story) (more : IsWeighedStory second) where
  abbrev pub left : List Member
  left = (history o s first n).members

  abbrev pub begin : ℕ
  begin = slot_of o n

  abbrev pub next : Origin
  next = Some (left_over o s first n)

  abbrev pub long : Story
  long = both_stories o s first n second

  begins : IsBegun next
  begins = left_begun o s began first weights n

  -- what is said in the long run
  abbrev pub raised_at : ℕ → List Said
  raised_at t = all_raised left begin (machine s) (begin + t) (present (begin + t) (history next s second t).members) (second t)

  pub long_early : (u : ℕ) → u < n → long u ≡ first u
  long_early u h = (let early : nat_lt u n ≡ true = grind (arith, nat_tests) in ap (λ b. if b then first u else raised_at (u - n)) early)

  long_late : (t k : ℕ) → k ≡ n + t → long k ≡ raised_at t
  long_late t k e = grind (arith, nat_tests)

  slot_at : (t k : ℕ) → k ≡ n + t → slot_of o k ≡ begin + t
  slot_at t k e = ap (slot_of o) e ∙ slot_on o n t

  -- the members that are carried
  carried_pair : (m : Member) → Among left m → Pair left begin begin
  carried_pair m h =
      let b = among_all (HasBegun begin) left (begun_over o s began first weights n) m h in
      let before : nat_lt (m.joined + jobs_done m * m.weight.period) begin ≡ true = grind (arith, nat_tests, b.joined) in
      record {
        long = m;
        jobs = jobs_done m;
        delays = carried_delays m;
        next = m.next - subtasks_done m;
        is = carried_lowered m;
        weighed = b.weighed;
        first = omega (arith, done_low m, b.first);
        ran = next_ran m;
        by_now = omega (arith, b.joined);
        taken = ap (λ c. if c then subtasks_of (member_named left m.name) else 0) before ∙ ap subtasks_of (found_own left (named_history o s began.named first n) m h);
      }

  carried_paired : (members : List Member) → ((m : Member) → Among members m → Among left m) → ArePaired left begin begin members (map carried members)
  unfolding carried_pair
  carried_paired [] h = record { pairs = []; longs_are = refl; shorts_are = refl }
  carried_paired (m ∷ members) h =
      let rest = carried_paired members (λ x i. h x (inr i)) in
      record { pairs = carried_pair m (h m (inl refl)) ∷ rest.pairs; longs_are = ap (λ (l : List Member). m ∷ l) rest.longs_are; shorts_are = ap (λ (l : List Member). carried m ∷ l) rest.shorts_are }

  -- a boundary
  decided_in : (t k : ℕ) → k ≡ n + t → (L : List Member) → ArePaired left begin (begin + t) L (history next s second t).members
      → AreDecided left begin (machine s) (begin + t) (present (begin + t) L) (present (begin + t) (history next s second t).members) (second t)
  decided_in t k e L a =
      let S = (history next s second t).members in
      all_paired left begin (omega arith) (machine s) (second t) (more t) (present (begin + t) L) (present (begin + t) S) (present_paired left begin (begin + t) L S a) (apart_present (begin + t) S (named_history next s begins.named second t))

  world_paired : (t k : ℕ) → k ≡ n + t → ArePaired left begin (begin + t) (history o s long k).members (history next s second t).members → ArePaired left begin (begin + t) (world o s long k) (world next s second t)
  world_paired t k e a = grind (arith, slot_at, long_late, decided_in)

  -- the quanta
  chosen_same : (t k : ℕ) → k ≡ n + t → ArePaired left begin (begin + t) (world o s long k) (world next s second t) → chosen s (begin + t) (world next s second t) ≡ chosen s (slot_of o k) (world o s long k)
  chosen_same t k e a =
      let L = world o s long k in
      let S = world next s second t in
      ap (first_by_rank s.processors) (keys_paired left begin (λ key freed. key) (filter (is_eligible (begin + t)) L) (filter (is_eligible (begin + t)) S) (eligible_paired left begin (begin + t) L S a))
      ∙ ap (λ slot. chosen s slot L) (sym (slot_at t k e))

  rows_paired : {t : ℕ} (ks : List Key) (M N L S : List Member) → ArePaired left begin t L S → ArePaired left begin t (all_ran (map (pick M) ks) L) (all_ran (map (pick N) ks) S)
  rows_paired [] M N L S a = a
  rows_paired (k ∷ ks) M N L S a = rows_paired ks M N (ran k.name L) (ran k.name S) (ran_paired left begin k.name L S a)

  past : history o s long n ≡ history o s first n
  past = same_history o s long first n long_early

  pub members_paired : (t k : ℕ) → k ≡ n + t → ArePaired left begin (begin + t) (history o s long k).members (history next s second t).members
  members_paired zero k e =
      let now : k ≡ n = omega (arith, e) in
      let none : begin + 0 ≡ begin = omega arith in
      subst (λ h. ArePaired left begin (begin + 0) h.members (map carried left)) (sym (ap (history o s long) now ∙ past))
      (subst (λ u. ArePaired left begin u left (map carried left)) (sym none) (carried_paired left (λ m h. h)))
  members_paired (suc t) zero e = absurd (omega (arith, e))
  members_paired (suc t) (suc k) e =
      let before : k ≡ n + t = omega (arith, e) in
      let L = world o s long k in
      let S = world next s second t in
      let world = world_paired t k before (members_paired t k before) in
      let later : begin + t + 1 ≡ begin + suc t = omega arith in
      let ran = rows_paired (chosen s (begin + t) S) L S L S world in
      subst (λ u. ArePaired left begin u (history o s long (suc k)).members (history next s second (suc t)).members) later
      (grind (arith, later_paired, map, chosen_same))

  pub world_at : (t k : ℕ) → k ≡ n + t → ArePaired left begin (begin + t) (world o s long k) (world next s second t)
  world_at t k e = world_paired t k e (members_paired t k e)

  pub names_same : (t k : ℕ) → k ≡ n + t → names_of (table next s second t) ≡ names_of (table o s long k)
  names_same t k e =
      let L = world o s long k in
      let S = world next s second t in
      map-map (λ (p : Pick). p.name) (pick S) (chosen s (begin + t) S) ∙ ap (map (λ (q : Key). q.name)) (chosen_same t k e (world_at t k e))
      ∙ sym (map-map (λ (p : Pick). p.name) (pick L) (chosen s (slot_of o k) L))

  pub record AreLast (t k : ℕ) : Type 0 where
    pub names : names_of (last_table next (history next s second t)) ≡ names_of (last_table o (history o s long k))
    pub places : last_places next (history next s second t) ≡ last_places o (history o s long k)

  last_same : (t k : ℕ) → k ≡ n + t → AreLast t k
  last_same zero k e = grind (arith, past)
  last_same (suc t) zero e = absurd (omega (arith, e))
  last_same (suc t) (suc k) e =
      let before : k ≡ n + t = omega (arith, e) in
      let was = last_same t k before in
      let near = history next s second t in
      let there = history o s long k in
      let rows = table next s second t in
      let far = table o s long k in
      let same = names_same t k before in
      record {
        names = ap names_of (last_more (table_before next) near.tables rows) ∙ same ∙ sym (ap names_of (last_more (table_before o) there.tables far));
        places =
            ap (last_or (places_before next)) (next_are next near.tables rows) ∙ last_more (places_before next) (places_in next near.tables) (places_after (last_table next near) (last_places next near) rows)
            ∙ places_same (last_table next near) (last_table o there) rows far (last_places next near) (last_places o there) was.names was.places same
            ∙ sym (ap (last_or (places_before o)) (next_are o there.tables far) ∙ last_more (places_before o) (places_in o there.tables) (places_after (last_table o there) (last_places o there) far));
      }

  rows_same : (t k : ℕ) → k ≡ n + t → raised_rows left begin (world next s second t) (table next s second t) ≡ table o s long k
  rows_same t k e =
      let L = world o s long k in
      let S = world next s second t in
      let a = world_at t k e in
      map-map (raise S) (pick S) (chosen s (begin + t) S)
      ∙ map_same (λ (q : Key). raise S (pick S q)) (pick L) (chosen s (begin + t) S) (λ q h. ap (λ i. record { name = q.name; index = i }) (sym (index_paired left begin index_of refl (λ m. refl) q.name L S a)))
      ∙ ap (map (pick L)) (chosen_same t k e a)
    where
      raise : List Member → Pick → Pick
      raise members p = record p { index = p.index + taken_off left begin (member_named members p.name) }

  decided_same : (t k : ℕ) → k ≡ n + t → map (λ d. d.decision) (decisions next s second t) ≡ map (λ d. d.decision) (decisions o s long k)
  decided_same t k e =
      let L = (history o s long k).members in
      let S = (history next s second t).members in
      let near = one_each (machine s) (begin + t) S (announcements (second t)) ∙ length-map (second t) (λ (a : Said). a.announcement) in
      let there = one_each (machine s) (slot_of o k) L (announcements (long k)) ∙ length-map (long k) (λ (a : Said). a.announcement) in
      decisions_are (second t) (boundary_decisions (machine s) (begin + t) S (announcements (second t))) near
      ∙ sym (decided_in t k e L (members_paired t k e)).decisions
      ∙ (λ i. boundary_decisions (machine s) (sym (slot_at t k e) i) L (announcements (sym (long_late t k e) i)))
      ∙ sym (decisions_are (long k) (boundary_decisions (machine s) (slot_of o k) L (announcements (long k))) there)

  pub slot_same : (t : ℕ) → IsSlotOf o s first n second t
  slot_same t = record {
    members = keys_paired left begin (λ key freed. (key, freed)) (world o s long (n + t)) (world next s second t) (world_at t (n + t) refl);
    left = keys_paired left begin (λ key freed. (key, freed)) (history o s long (suc (n + t))).members (history next s second (suc t)).members (members_paired (suc t) (suc (n + t)) (omega arith));
    lags = (let paired = members_paired (suc t) (suc (n + t)) (omega arith) in
        lags_paired left begin (slot_of o (suc (n + t))) (let at = slot_at (suc t) (suc (n + t)) (omega arith) in omega (arith, at)) (history o s long (suc (n + t))).members (history next s second (suc t)).members paired);
    rows = rows_same t (n + t) refl;
    decided = decided_same t (n + t) refl;
    places = (last_same (suc t) (suc (n + t)) (omega arith)).places;
  }

pub runs_go_on : RunsGoOn
runs_go_on = record {
  slots = λ o s first second n t began weights more. slot_same o s first n began weights second more t;
  again = λ o s first n began weights. left_begun o s began first weights n;
}
