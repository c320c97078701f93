-- Runs that follow one another, beside the one long run.
use Rattle.pfair_in_time.proofs.Common.{list_any, Past, origin_after, table_through, said, cases_lt, lt-ltb, le-ltb, Share, name_eq, Among, among_all, among_map, map_among, Member, next_key, theta, lag_at, HasBegun, IsWeighedStory, both_stories, Settings, Origin, Story, Table, names_task, slot_of, history, world, table, begun_over, long_early, members_paired, names_of, names_same, slot_on, world_at, AllByRecursion, IsReplica, announcements, decided, Machine, machine, apart_nil, label, left_begun, IsBegun, sum_by-cons, sum_by_push, mod-eq-sub-div-mul, div-mul-le_self, mul-suc, mul_comm, NamesApart, IsWeight, units_of, deadline_of, name_exact, numbers_below, apart_filter, length-map, any_among, among_filter, ◌≡◌, ℕ, ◌+◌, ◌-◌, ◌*◌, ◌<◌, ◌≤◌, List, [], ◌∷◌, None, arith, refl, ap, sym, ◌∙◌, subst, inl, inr, ◌||◌, if◌then◌else◌, zero, suc, ◌/◌, ◌%◌, true, cond, length, sum_by, filter, map, next_key_same, same_history, said_weighed, Said, Announcement, IsWeighed, all_raised, raised, job_due, Arrival, quanta_before, NoneServesMore, length-filter, sum_by-le}
use Rattle.pfair_ready.specs.Queue.{NameValue as Name}
use Rattle.pfair_admission.proofs.Beside.{ArePaired, Pair, lag_same, long_of, short_of}
use Rattle.pfair_in_time.proofs.Worlds.{here, HaveWeights}
use Rattle.pfair_entry.specs.declared.entry.Announcement.TheVariants.{Arrive, Depart, Late}
use Rattle.std.proofs.lemmas.Map.Made.{length-le_from_is_member}
use Rattle.std.proofs.lemmas.Cmp.{nat_list_eq_equiv}

-- ---- what is said in the runs

pub each_weight : (story : Story) → IsWeighedStory story → HaveWeights story
each_weight story weights t = among_all IsWeighed (announcements (story t)) (weights t)

raised_weight : (left : List Member) (begin : ℕ) (members : List Member) (a : Announcement) → IsWeighed a → IsWeighed (raised left begin members a)
raised_weight left begin members (Arrive name w early) h = h
raised_weight left begin members (Depart name) h = h
raised_weight left begin members (Late name index by) h = h

raised_weights : (left : List Member) (begin : ℕ) (machine : Machine) (t : ℕ) (members : List Member) (announced : List Said) → AllByRecursion IsWeighed (announcements announced) → AllByRecursion IsWeighed (announcements (all_raised left begin machine t members announced))
raised_weights left begin machine t members [] h = tt
raised_weights left begin machine t members (a ∷ announced) h = (raised_weight left begin members a.announcement h.0, raised_weights left begin machine t (decided machine t members a.announcement) announced h.1)

pub both_weights : (o : Origin) (s : Settings) (first : Story) (n : ℕ) (second : Story) → IsWeighedStory first → IsWeighedStory second → IsWeighedStory (both_stories o s first n second)
both_weights o s first n second before after t = grind (arith, raised_weights)

abbrev pub AreReplicas : List Past → Type 0
AreReplicas earlier = AllByRecursion (λ r. IsReplica r.contents) earlier

pub begun_after : (s : Settings) (earlier : List Past) → AreReplicas earlier → IsBegun (origin_after s earlier)
begun_after s [] h = record { named = apart_nil label; begun = tt }
begun_after s (r ∷ earlier) h = left_begun (origin_after s earlier) s (begun_after s earlier h.1) (said r.contents) (said_weighed r.contents h.0) r.slots

-- ---- a member of a run, and the same one in a run before which some jobs of it were not taken off

pub record IsLater (slot jobs : ℕ) (l m : Member) : Type 0 where
  pub name : m.name ≡ l.name
  pub weight : m.weight ≡ l.weight
  pub early : m.early ≡ l.early
  pub freed : m.freed_at ≡ l.freed_at
  pub joined : m.joined ≡ l.joined + jobs * l.weight.period
  pub by_now : m.joined ≤ slot
  pub next : l.next ≡ m.next + jobs * l.weight.cost
  pub offsets : (j : ℕ) → 1 ≤ j → m.next ≤ j + 1 → theta m j ≡ theta l (j + jobs * l.weight.cost) + jobs * l.weight.period
  pub lag : (time : ℕ) → slot ≤ time → lag_at time m ≡ lag_at time l
  pub key : next_key m ≡ next_key l

pub itself : (slot : ℕ) (m : Member) → m.joined ≤ slot → IsLater slot 0 m m
itself slot m joined = record {
  name = refl;
  weight = refl;
  early = refl;
  freed = refl;
  joined = omega arith;
  by_now = joined;
  next = omega arith;
  offsets = λ j first reaches. (let none : j + 0 * m.weight.cost ≡ j = omega arith in let same = ap (theta m) none in omega (arith, same));
  lag = λ time now. refl;
  key = refl;
}

-- a pair's members are so
paired_later : (left : List Member) (begin slot : ℕ) (p : Pair left begin slot) → IsLater slot p.jobs p.long (short_of left begin p)
paired_later left begin slot p = record {
  name = refl;
  weight = refl;
  early = refl;
  freed = refl;
  joined = refl;
  by_now = p.by_now;
  next = p.is.next_is;
  offsets = p.is.offsets;
  lag = λ time now. lag_same left begin time p (let by = p.by_now in omega (arith, by, now));
  key = next_key_same p.long p.jobs p.delays p.next p.is p.weighed p.first;
}

-- and once more
later_on : (slot j k : ℕ) (l m n : Member) → IsLater slot j l m → IsLater slot k m n → IsLater slot (j + k) l n
later_on slot j k l m n a b = record {
  name = b.name ∙ a.name;
  weight = b.weight ∙ a.weight;
  early = b.early ∙ a.early;
  freed = b.freed ∙ a.freed;
  joined = (let was = a.joined in let is = b.joined in let more = ap (λ (w : Share). k * w.period) a.weight in omega (arith, was, is, more));
  by_now = b.by_now;
  next = (let was = a.next in let is = b.next in let more = ap (λ (w : Share). k * w.cost) a.weight in omega (arith, was, is, more));
  offsets = grind arith;
  lag = λ time now. b.lag time now ∙ a.lag time now;
  key = b.key ∙ a.key;
}

-- a member of the shorter list, with the one that it is of the longer
pub record HasLater (slot : ℕ) (longs : List Member) (m : Member) : Type 0 where
  pub jobs : ℕ
  pub long : Member
  pub among : Among longs long
  pub later : IsLater slot jobs long m

paired : (left : List Member) (begin slot : ℕ) (L S : List Member) → ArePaired left begin slot L S → (m : Member) → Among S m → HasLater slot L m
paired left begin slot L S a m h =
    let p = among_map (short_of left begin) a.pairs m (subst (λ ms. Among ms m) (sym a.shorts_are) h) in
    record {
      jobs = p.0.jobs;
      long = p.0.long;
      among = subst (λ ms. Among ms p.0.long) a.longs_are (map_among (long_of left begin) a.pairs p.0 p.1);
      later = subst (IsLater slot p.0.jobs p.0.long) (sym p.2) (paired_later left begin slot p.0);
    }

further : (slot : ℕ) (L : List Member) (l m : Member) (jobs : ℕ) → IsLater slot jobs l m → HasLater slot L l → HasLater slot L m
further slot L l m jobs later h = record { jobs = h.jobs + jobs; long = h.long; among = h.among; later = later_on slot h.jobs jobs h.long l m h.later later }

-- ---- the long run

-- what is said in it
abbrev pub long_story : Settings → List Past → Story → Story
long_story s [] story = story
long_story s (r ∷ earlier) story = long_story s earlier (both_stories (origin_after s earlier) s (said r.contents) r.slots story)

pub long_weights : (s : Settings) (earlier : List Past) (story : Story) → AreReplicas earlier → IsWeighedStory story → IsWeighedStory (long_story s earlier story)
long_weights s [] story h weights = weights
long_weights s (r ∷ earlier) story h weights =
    long_weights s earlier (both_stories (origin_after s earlier) s (said r.contents) r.slots story) h.1
    (both_weights (origin_after s earlier) s (said r.contents) r.slots story (said_weighed r.contents h.0) weights)

-- each member of a slot's world is one of the long run's
pub world_long : (s : Settings) (earlier : List Past) (story : Story) → AreReplicas earlier → IsWeighedStory story → (t : ℕ) (m : Member) → Among (world (origin_after s earlier) s story t) m
    → HasLater (slot_of (origin_after s earlier) t) (world None s (long_story s earlier story) (slot_of (origin_after s earlier) t)) m
world_long s [] story h weights t m among = record { jobs = 0; long = m; among = among; later = itself t m (here s story (each_weight story weights) t m among).by_now }
world_long s (r ∷ earlier) story h weights t m among =
    let o = origin_after s earlier in
    let both = both_stories o s (said r.contents) r.slots story in
    let left = (history o s (said r.contents) r.slots).members in
    let p = paired left (slot_of o r.slots) (slot_of o r.slots + t) (world o s both (r.slots + t)) (world (origin_after s (r ∷ earlier)) s story t)
    (world_at o s (said r.contents) r.slots (begun_after s earlier h.1) (said_weighed r.contents h.0) story weights t (r.slots + t) refl) m among in
    let before = world_long s earlier both h.1 (both_weights o s (said r.contents) r.slots story (said_weighed r.contents h.0) weights) (r.slots + t) p.long p.among in
    let at : slot_of o (r.slots + t) ≡ slot_of o r.slots + t = slot_on o r.slots t in
    further (slot_of o r.slots + t) (world None s (long_story s earlier both) (slot_of o r.slots + t)) p.long m p.jobs p.later
    (subst (λ u. HasLater u (world None s (long_story s earlier both) u) p.long) at before)

-- and so after its quanta
pub history_long : (s : Settings) (earlier : List Past) (story : Story) → AreReplicas earlier → IsWeighedStory story → (t : ℕ) (m : Member) → Among (history (origin_after s earlier) s story t).members m
    → HasLater (slot_of (origin_after s earlier) t) (history None s (long_story s earlier story) (slot_of (origin_after s earlier) t)).members m
history_long s [] story h weights t m among =
    let b = among_all (HasBegun t) (history None s story t).members (begun_over None s (begun_after s [] tt) story weights t) m among in
    let joined = b.joined in
    record { jobs = 0; long = m; among = among; later = itself t m (omega (arith, joined)) }
history_long s (r ∷ earlier) story h weights t m among =
    let o = origin_after s earlier in
    let both = both_stories o s (said r.contents) r.slots story in
    let left = (history o s (said r.contents) r.slots).members in
    let p = paired left (slot_of o r.slots) (slot_of o r.slots + t) (history o s both (r.slots + t)).members (history (origin_after s (r ∷ earlier)) s story t).members
    (members_paired o s (said r.contents) r.slots (begun_after s earlier h.1) (said_weighed r.contents h.0) story weights t (r.slots + t) refl) m among in
    let before = history_long s earlier both h.1 (both_weights o s (said r.contents) r.slots story (said_weighed r.contents h.0) weights) (r.slots + t) p.long p.among in
    let at : slot_of o (r.slots + t) ≡ slot_of o r.slots + t = slot_on o r.slots t in
    further (slot_of o r.slots + t) (history None s (long_story s earlier both) (slot_of o r.slots + t)).members p.long m p.jobs p.later
    (subst (λ u. HasLater u (history None s (long_story s earlier both) u).members p.long) at before)

-- ---- who runs

-- in the last of them
through_late : (s : Settings) (earlier : List Past) (story : Story) (u : ℕ) → slot_of (origin_after s earlier) 0 ≤ u → table_through s earlier story u ≡ table (origin_after s earlier) s story (u - slot_of (origin_after s earlier) 0)
through_late s [] story u le = ap (table None s story) (let e : u ≡ u - 0 = omega arith in e)
through_late s (r ∷ earlier) story u le = grind (arith, le-ltb)

-- stories that begin alike have the same tables there
table_alike : (o : Origin) (s : Settings) (one other : Story) (n t : ℕ) → ((u : ℕ) → u < n → one u ≡ other u) → t < n → table o s one t ≡ table o s other t
table_alike o s one other n t same less = grind (arith, same_history)

through_alike : (s : Settings) (earlier : List Past) (one other : Story) (n u : ℕ) → ((k : ℕ) → k < n → one k ≡ other k) → u < slot_of (origin_after s earlier) n → table_through s earlier one u ≡ table_through s earlier other u
through_alike s [] one other n u same less = table_alike None s one other n u same less
through_alike s (r ∷ earlier) one other n u same less =
    let o = origin_after s (r ∷ earlier) in
    elim (cases_lt u (slot_of o 0)) [
      | inl before ↦ grind (arith, lt-ltb)
      | inr late ↦
          through_late s (r ∷ earlier) one u late ∙ table_alike o s one other n (u - slot_of o 0) same (omega (arith, less, late)) ∙ sym (through_late s (r ∷ earlier) other u late)
    ]

names_long : (s : Settings) (earlier : List Past) (story : Story) → AreReplicas earlier → IsWeighedStory story → (u : ℕ) → names_of (table_through s earlier story u) ≡ names_of (table None s (long_story s earlier story) u)
names_long s [] story h weights u = refl
names_long s (r ∷ earlier) story h weights u =
    let o = origin_after s earlier in
    let next = origin_after s (r ∷ earlier) in
    let both = both_stories o s (said r.contents) r.slots story in
    let rest = names_long s earlier both h.1 (both_weights o s (said r.contents) r.slots story (said_weighed r.contents h.0) weights) u in
    elim (cases_lt u (slot_of next 0)) [
      | inl before ↦
          let test = lt-ltb u (slot_of next 0) before in
          ap (λ b. names_of (if b then table_through s earlier (said r.contents) u else table next s story (u - slot_of next 0))) test
          ∙ ap names_of (through_alike s earlier (said r.contents) both r.slots u (λ k l. sym (long_early o s (said r.contents) r.slots (begun_after s earlier h.1) (said_weighed r.contents h.0) story weights k l)) (let base : slot_of next 0 ≡ slot_of o r.slots + 0 = refl in omega (arith, before, base))) ∙ rest
      | inr late ↦
          let from : slot_of o 0 ≤ slot_of o r.slots = grind arith in
          let on : slot_of o r.slots ≡ slot_of o 0 + r.slots = ap (slot_of o) (let e : r.slots ≡ 0 + r.slots = omega arith in e) ∙ slot_on o 0 r.slots in
          let base : slot_of next 0 ≡ slot_of o r.slots + 0 = refl in
          let at : u - slot_of o 0 ≡ r.slots + (u - slot_of next 0) = omega (arith, late, on, base) in
          ap names_of (through_late s (r ∷ earlier) story u late)
          ∙ names_same o s (said r.contents) r.slots (begun_after s earlier h.1) (said_weighed r.contents h.0) story weights (u - slot_of next 0) (u - slot_of o 0) at
          ∙ sym (ap names_of (through_late s earlier both u (omega (arith, late, from, base)))) ∙ rest
    ]

pub by_names : (name : Name) (rows : Table) → names_task name rows ≡ list_any (λ n. name_eq name n) (names_of rows)
by_names name [] = refl
by_names name (p ∷ rows) = ap (λ b. name_eq name p.name || b) (by_names name rows)

-- a task runs in a slot of all runs if it does so in the long run
pub runs_long : (s : Settings) (earlier : List Past) (story : Story) → AreReplicas earlier → IsWeighedStory story → (name : Name) (u : ℕ) → names_task name (table_through s earlier story u) ≡ names_task name (table None s (long_story s earlier story) u)
runs_long s earlier story h weights name u = grind (arith, by_names, name, names_long)

pub runs_in_long : (s : Settings) (earlier : List Past) (story : Story) → AreReplicas earlier → IsWeighedStory story → (name : Name) (t : ℕ)
    → names_task name (table (origin_after s earlier) s story t) ≡ names_task name (table None s (long_story s earlier story) (slot_of (origin_after s earlier) t))
runs_in_long s earlier story h weights name t =
    let o = origin_after s earlier in
    let at : t ≡ slot_of o t - slot_of o 0 = grind arith in
    ap (λ u. names_task name (table o s story u)) at
    ∙ ap (names_task name) (sym (through_late s earlier story (slot_of o t) (grind arith))) ∙ runs_long s earlier story h weights name (slot_of o t)

-- More than there is can't be served: by the end of a frame as many quanta are due as the tasks want.

-- ---- sums

-- if one sum is below another, so is one of its parts
lesser_part : {A : Type 0} (f g : A → ℕ) (xs : List A) → sum_by f xs < sum_by g xs → (x : A) × Among xs x × (f x < g x)
lesser_part f g [] less = absurd (omega arith)
lesser_part f g (x ∷ xs) less =
    let one = sum_by-cons f x xs in
    let other = sum_by-cons g x xs in
    elim (cases_lt (f x) (g x)) [
      | inl here ↦ (x, inl refl, here)
      | inr after ↦ (let p = lesser_part f g xs (omega arith) in (p.0, inr p.1, p.2))
    ]

-- parts that are no more than those of two other sums
parts_within : {A : Type 0} (f g h : A → ℕ) → ((x : A) → f x ≤ g x + h x) → (xs : List A) → sum_by f xs ≤ sum_by g xs + sum_by h xs
parts_within f g h each [] = omega arith
parts_within f g h each (x ∷ xs) = grind (arith, parts_within f g h each xs, sum_by-cons)

-- ---- the rows of one slot

abbrev is_named_in : Table → Arrival → ℕ
is_named_in rows a = cond (names_task a.name rows) 1 0

-- no more arrivals are named in a slot than it has rows
named_within : (arrivals : List Arrival) → NamesApart (λ (a : Arrival). a.name) arrivals → (rows : Table) → sum_by (is_named_in rows) arrivals ≤ length rows
named_within arrivals apart rows =
    let named = filter (λ (a : Arrival). names_task a.name rows) arrivals in
    let most = length-le_from_is_member nat_list_eq_equiv (map (λ (a : Arrival). a.name) named) (names_of rows)
    (apart_filter (λ (a : Arrival). a.name) (λ a. names_task a.name rows) arrivals apart) has in
    grind (arith, length-filter, length-map)
  where
    has : (q : List ℕ) → list_any (name_eq q) (map (λ (a : Arrival). a.name) (filter (λ (a : Arrival). names_task a.name rows) arrivals)) ≡ true
        → list_any (name_eq q) (names_of rows) ≡ true
    has q h =
        let n = any_among (name_eq q) (map (λ (a : Arrival). a.name) (filter (λ (a : Arrival). names_task a.name rows) arrivals)) h in
        let a = among_map (λ (a : Arrival). a.name) (filter (λ (a : Arrival). names_task a.name rows) arrivals) n.0 n.1 in
        let row = (among_filter (λ (a : Arrival). names_task a.name rows) arrivals a.0 a.1).1 in
        sym (by_names q rows) ∙ subst (λ k. names_task k rows ≡ true) (sym (name_exact q n.0 n.2 ∙ a.2)) row

-- ---- all slots

pub quanta_more : (tables : ℕ → Table) (name : List ℕ) (n : ℕ) → quanta_before tables name (suc n) ≡ quanta_before tables name n + cond (names_task name (tables n)) 1 0
quanta_more tables name n = sum_by_push (λ slot. cond (names_task name (tables slot)) 1 0) (numbers_below n) n

all_within : (processors : ℕ) (tables : ℕ → Table) (arrivals : List Arrival) → NamesApart (λ (a : Arrival). a.name) arrivals
    → (n : ℕ) → ((t : ℕ) → t < n → length (tables t) ≤ processors) → sum_by (λ a. quanta_before tables a.name n) arrivals ≤ processors * n
all_within processors tables arrivals apart zero few = (let none = sum_by-le (λ (a : Arrival). quanta_before tables a.name 0) 0 arrivals (λ k d inside. omega arith) in omega arith)
all_within processors tables arrivals apart (suc n) few =
    let before = all_within processors tables arrivals apart n (λ t less. few t (omega arith)) in
    let split = parts_within (λ (a : Arrival). quanta_before tables a.name (suc n)) (λ (a : Arrival). quanta_before tables a.name n) (is_named_in (tables n))
    (λ a. (let more = quanta_more tables a.name n in omega arith)) arrivals in
    let slot = named_within arrivals apart (tables n) in
    grind (arith, mul-suc)

-- ---- what is due by the end of the frame

-- the deadline of the last subtask that a task wants of a frame is the frame's end
last_due : (w : Share) (frame : ℕ) → 0 < w.cost → frame % w.period ≡ 0 → deadline_of w (units_of w frame) 0 ≡ frame
last_due w frame some divides =
    let rest = mod-eq-sub-div-mul frame w.period in
    let low = div-mul-le_self frame w.period in
    ap (λ i. deadline_of w i 0) (mul_comm w.cost (frame / w.period)) ∙ job_due w (frame / w.period) 0 some ∙ omega arith

pub none_serves_more : NoneServesMore
none_serves_more processors frame tables arrivals are few more =
    let had = all_within processors tables arrivals are.names frame few in
    let p = lesser_part (λ (a : Arrival). quanta_before tables a.name frame) (λ (a : Arrival). units_of a.weight frame) arrivals (omega arith) in
    let a = p.0 in
    let weight = among_all (λ (b : Arrival). IsWeight b.weight.cost b.weight.period) arrivals are.weights a p.1 in
    let due = last_due a.weight frame weight.some_cost (among_all (λ (b : Arrival). frame % b.weight.period ≡ 0) arrivals are.periods a p.1) in
    (a, p.1, (units_of a.weight frame, omega arith, subst (λ t. quanta_before tables a.name t < units_of a.weight frame) (sym due) p.2))
