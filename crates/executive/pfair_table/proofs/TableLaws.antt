-- The proofs of the laws of tables and plans.
use Rattle.pfair_table.proofs.Common.{NamesApart, apart_nil, Said, Member, announcements, ran, apart_boundary, apart_ran, IsOrigin, Settings, Origin, Table, History, machine, members_at, members_before, slot_of, all_ran, Story, history, world, ℕ, zero, suc, List, [], ◌∷◌, Some, None, arith, Key, first_by_rank, Among, among_contains, contains_among, ◌≤◌, ◌≡◌, length, AllPairs, GoesBefore, cases_lt, length-map, map-append, append_assoc, append-nil, among_below, map_same, apart_filter, apart_map, said, frontier, numbers_below, same_said, mark_le, frontier_le, below_agree, next_key, eligible, is_eligible, chosen, pick, table, Pick, IsFit, IsPrefixOf, OneTable, PlansGoOn, OnePlan, TablesAreOrdered, ◌<◌, refl, sym, ap, ◌∙◌, inl, inr, ◌++◌, min, map, first_names, AllByRecursion, length-append, drop_all, drop-append-le, map-id, nat_list_eq_equiv, among_all, name_eq, Announcement, name_exact, Machine, is_named, newcomer, is_freed, boundary, with_freeing, with_delay, with_quantum, names_task, next_index, counted, counted_one, apart_head, apart_tail, each_filter, each_map, by_boundary, by_effect, each_change, RunsAreCounted, subst, Bool, false, ◌||◌, not, if◌then◌else◌, all_by_recursion_push, sum_by_push, map-map, Share, Name, Queue, Roster, IsQueue, IsSteady, MAX_INDEX, each, Replica, ◌+◌, LAST_SLOT, IsLeftAt, pd2_cmp, AreFirst, by_rank_first, by_rank_of_same, once_from_names, next_fits}
use Rattle.pfair_order.proofs.KeyLaws.{keys_total, goes_before}
use Rattle.pfair_order.proofs.RankLemmas.{place_of, first_pairs, first_within}
use Rattle.std.proofs.Common.{filter}

-- No two members have one name, at any slot, and how far their indexes rise.

abbrev pub label : Member → List ℕ
label m = m.name

pub named_ran : (picks : Table) (members : List Member) → NamesApart label members → NamesApart label (all_ran picks members)
named_ran [] members a = a
named_ran (p ∷ picks) members a = named_ran picks (ran p.name members) (apart_ran p.name members a)

named_at : (s : Settings) (t : ℕ) (announced : List Said) (h : History) → NamesApart label h.members → NamesApart label (members_at s t announced h)
named_at s t announced h a = apart_boundary (machine s) t h.members (announcements announced) a

module _ (o : Origin) (s : Settings) (before : NamesApart label (members_before o)) (x : Story) where
  pub named_history : (t : ℕ) → NamesApart label (history o s x t).members
  named_history zero = before
  named_history (suc t) = grind (arith, named_at, named_ran, named_history t)

  pub named_from : (t : ℕ) → NamesApart label (world o s x t)
  named_from t = named_at s (slot_of o t) (x t) (history o s x t) (named_history t)

pub named_before : (o : Origin) (s : Settings) → IsOrigin o s → NamesApart label (members_before o)
named_before None s began = apart_nil label
named_before (Some c) s began = began.members.named

pub named_world : (s : Settings) (x : Story) (t : ℕ) → NamesApart label (world None s x t)
named_world s x t = named_from None s (apart_nil label) x t

-- The first by rank, of keys whose names differ: what the laws of the PD2 order say of them.

module _ (keys : List Key) (apart : NamesApart (λ (k : Key). k.name) keys) (m : ℕ) where
  are_first : AreFirst pd2_cmp m keys (first_by_rank m keys)
  are_first = by_rank_first keys_total m keys (once_from_names keys apart)

  pub length_first : length (first_by_rank m keys) ≤ m
  length_first = first_within keys_total m keys (first_by_rank m keys) are_first

  pub rising_first : AllPairs GoesBefore (first_by_rank m keys)
  rising_first i j d earlier within = goes_before _ _ (first_pairs keys_total m keys (first_by_rank m keys) are_first i j d earlier within)

  -- each of them is one of the keys
  pub among_first : (k : Key) → Among (first_by_rank m keys) k → Among keys k
  among_first k h =
      let at = place_of (first_by_rank m keys) k (among_contains (first_by_rank m keys) k h) in
      contains_among keys k (are_first.at_rank at.0 k at.1).0

-- two lists of the same keys have the same first
pub first_same : (m : ℕ) (xs ys : List Key) → NamesApart (λ (k : Key). k.name) xs → NamesApart (λ (k : Key). k.name) ys → ((k : Key) → Among xs k → Among ys k) → ((k : Key) → Among ys k → Among xs k) → first_by_rank m xs ≡ first_by_rank m ys
first_same m xs ys a b f g =
    by_rank_of_same keys_total m xs ys (once_from_names xs a) (once_from_names ys b)
    (λ k c. among_contains ys k (f k (contains_among xs k c)))
    (λ k c. among_contains xs k (g k (contains_among ys k c)))

-- ---- one table

-- the past is made of what was said
pub same_history : (o : Origin) (s : Settings) (x y : Story) (t : ℕ) → ((u : ℕ) → u < t → x u ≡ y u) → history o s x t ≡ history o s y t
same_history o s x y zero same = refl
same_history o s x y (suc t) same = grind (arith, same_history o s x y t)

pub one_table : OneTable
one_table o s x y ox oy agree t h g = grind (arith, same_said, same_history)

-- ---- plans go on

numbers_more : (m n : ℕ) → m ≤ n → (rest : List ℕ) × (numbers_below m ++ rest ≡ numbers_below n)
numbers_more m zero h = ([], append-nil (numbers_below m) ∙ ap numbers_below (let e : m ≡ 0 = omega (arith, h) in e))
numbers_more m (suc n) h =
    elim (cases_lt m (suc n)) [
      | inl l ↦ (let t = numbers_more m n (omega (arith, l)) in (t.0 ++ n ∷ [], sym (append_assoc (numbers_below m) t.0 (n ∷ [])) ∙ ap (λ xs. xs ++ n ∷ []) t.1))
      | inr g ↦ ([], append-nil (numbers_below m) ∙ ap numbers_below (let e : m ≡ suc n = omega (arith, h, g) in e))
    ]

pub prefix_map : {B : Type 0} (f g : ℕ → B) (m n : ℕ) → m ≤ n → ((k : ℕ) → k < m → f k ≡ g k) → IsPrefixOf (map f (numbers_below m)) (map g (numbers_below n))
prefix_map f g m n le same =
    let t = numbers_more m n le in
    (map g t.0, ap (λ xs. xs ++ map g t.0) (map_same f g (numbers_below m) (λ k i. same k (among_below m k i))) ∙ sym (map-append g (numbers_below m) t.0) ∙ ap (map g) t.1)

pub plans_go_on : PlansGoOn
plans_go_on o s x y ox oy below untorn =
    let same = ox.processors ∙ sym oy.processors in
    let le = frontier_le x y oy.replica same below untorn in
    let agree = below_agree x y below untorn in (
      mark_le x y oy.replica below untorn,
      prefix_map (table o s (said x)) (table o s (said y)) (min (frontier x) s.slots) (min (frontier y) s.slots) (omega (arith, le))
          (λ t l. (one_table o s x y ox oy agree t (omega (arith, l)) (omega (arith, l, le))).0),
    )

pub one_plan : OnePlan
one_plan o s x y ox oy agree =
    let m = min (frontier x) s.slots in
    let n = min (frontier y) s.slots in
    let X = table o s (said x) in
    let Y = table o s (said y) in
    elim (cases_lt m n) [
      | inl less ↦ inl (prefix_map X Y m n (omega (arith, less)) (λ t l. (one_table o s x y ox oy agree t (omega (arith, l)) (omega (arith, l, less))).0))
      | inr more ↦ inr (prefix_map Y X n m (omega (arith, more)) (λ t l. sym (one_table o s x y ox oy agree t (omega (arith, l, more)) (omega (arith, l))).0))
    ]

-- ---- tables are ordered

pub eligible_apart : (t : ℕ) (members : List Member) → NamesApart label members → NamesApart (λ (k : Key). k.name) (eligible t members)
eligible_apart t members named = apart_map label (λ (k : Key). k.name) next_key (λ m. refl) (filter (is_eligible t) members) (apart_filter label (is_eligible t) members named)

pub rows_apart : (m t : ℕ) (members : List Member) → NamesApart label members → NamesApart (λ (p : Pick). p.name) (map (pick members) (first_by_rank m (eligible t members)))
rows_apart m t members named =
    apart_map (λ (k : Key). k.name) (λ (p : Pick). p.name) (pick members) (λ k. refl) (first_by_rank m (eligible t members)) (first_names m (eligible t members) (eligible_apart t members named))

pub ordered_from : (o : Origin) (s : Settings) → NamesApart label (members_before o) → (x : Story) (t : ℕ)
    → IsFit s.processors (table o s x t) × AllPairs GoesBefore (chosen s (slot_of o t) (world o s x t))
ordered_from o s before x t = grind (arith, named_from, eligible_apart, length_first, length-map, rising_first, rows_apart)

pub tables_are_ordered : TablesAreOrdered
tables_are_ordered o s x t before = ordered_from o s before (said x) t

-- The next index of a member is one more than its quanta in the tables; and adding one for each row keeps it so.

-- ---- what holds of each member

-- what holds of each newcomer, and still holds if a member is to be freed or is delayed, holds of each after a boundary
module _ (t : ℕ) (P : Member → Type 0) (joins : (name : Name) (w : Share) (early : Bool) → P (newcomer t name w early)) (freed : (slot : ℕ) (m : Member) → P m → P (with_freeing slot m)) (delayed : (index by : ℕ) (m : Member) → P m → P (with_delay index by m)) where
  pub each_boundary : (mc : Machine) (announced : List Announcement) (members : List Member) → AllByRecursion P members → AllByRecursion P (boundary mc t members announced)
  each_boundary mc announced members all =
      by_boundary (AllByRecursion P) mc t (each_filter P (λ m. not (is_freed t m.freed_at)))
      (grind (arith, by_effect, all_by_recursion_push, each_change)) members announced all

-- ---- a table's rows

-- a member after a table in which each name stands once
abbrev pub after_table : Table → Member → Member
after_table table m = if names_task m.name table then with_quantum m else m

not_named : (name : Name) (picks : Table) → AllByRecursion (λ r. name_eq name r.name ≡ false) picks → names_task name picks ≡ false
not_named name [] all = refl
not_named name (p ∷ picks) all = ap (λ b. b || names_task name picks) all.0 ∙ not_named name picks all.1

-- one row and the others
one_row : (p : Pick) (picks : Table) → AllByRecursion (λ r. name_eq p.name r.name ≡ false) picks → (m : Member) → after_table picks (if is_named p.name m then with_quantum m else m) ≡ after_table (p ∷ picks) m
one_row p picks apart m = grind (arith, name_exact, nat_list_eq_equiv.symm m.name p.name, not_named p.name picks apart)

pub all_ran_is : (picks : Table) → NamesApart (λ (p : Pick). p.name) picks → (members : List Member) → all_ran picks members ≡ map (after_table picks) members
all_ran_is [] apart members = sym (map-id members)
all_ran_is (p ∷ picks) apart members =
    all_ran_is picks (apart_tail (λ (p : Pick). p.name) p picks apart) (ran p.name members)
    ∙ map-map (after_table picks) (λ m. if is_named p.name m then with_quantum m else m) members
    ∙ map_same (λ m. after_table picks (if is_named p.name m then with_quantum m else m)) (after_table (p ∷ picks)) members (λ m h. one_row p picks (apart_head (λ (p : Pick). p.name) p picks apart) m)

-- ---- counted by the tables of a first run

-- it joined by slot t, and its next index is that of the tables
pub record IsCounted (t : ℕ) (tables : List Table) (m : Member) : Type 0 where
  pub by_now : m.joined ≤ t
  pub next_is : m.next ≡ next_index tables m

-- who joins at t has had no quantum
counted_at : (s : Settings) (t : ℕ) (announced : List Said) (h : History) → length h.tables ≡ t → AllByRecursion (IsCounted t h.tables) h.members → AllByRecursion (IsCounted t h.tables) (members_at s t announced h)
counted_at s t announced h e = grind (arith, each_boundary, drop_all)

pub long_history : (o : Origin) (s : Settings) (x : Story) (t : ℕ) → length (history o s x t).tables ≡ t
long_history o s x zero = refl
long_history o s x (suc t) = grind (arith, length-append, long_history o s x t)

-- a member, counted by one more table
one_more : (t : ℕ) (tables : List Table) (table : Table) → length tables ≡ t → (m : Member) → IsCounted t tables m → after_table table m ≡ counted_one (tables ++ table ∷ []) m
one_more t tables table e m h = grind (arith, drop-append-le, sum_by_push)

-- who is counted before a slot's table is counted after it
still_counted : (t : ℕ) (tables : List Table) (table : Table) → length tables ≡ t → (m : Member) → IsCounted t tables m → IsCounted (suc t) (tables ++ table ∷ []) (counted_one (tables ++ table ∷ []) m)
still_counted t tables table e m h = record { by_now = omega (arith, h); next_is = refl }

-- adding one for each row is counting by the tables so far
one_on : (s : Settings) (x : Story) (t : ℕ) → AllByRecursion (IsCounted t (history None s x t).tables) (world None s x t) → all_ran (table None s x t) (world None s x t) ≡ counted (history None s x (suc t)).tables (world None s x t)
one_on s x t count =
    let tables = (history None s x t).tables in
    all_ran_is (table None s x t) (ordered_from None s (apart_nil (λ (m : Member). m.name)) x t).0.1 (world None s x t)
    ∙ map_same (after_table (table None s x t)) (counted_one (tables ++ table None s x t ∷ [])) (world None s x t)
    (λ m h. one_more t tables (table None s x t) (long_history None s x t) m (among_all (IsCounted t tables) (world None s x t) count m h))

counted_history : (s : Settings) (x : Story) (t : ℕ) → AllByRecursion (IsCounted t (history None s x t).tables) (history None s x t).members
counted_history s x zero = tt
counted_history s x (suc t) =
    let tables = (history None s x t).tables in
    let count = counted_at s t (x t) (history None s x t) (long_history None s x t) (counted_history s x t) in
    subst (AllByRecursion (IsCounted (suc t) (tables ++ table None s x t ∷ []))) (sym (one_on s x t count))
    (each_map (IsCounted t tables) (IsCounted (suc t) (tables ++ table None s x t ∷ [])) (counted_one (tables ++ table None s x t ∷ []))
    (still_counted t tables (table None s x t) (long_history None s x t)) (world None s x t) count)

pub counted_world : (s : Settings) (x : Story) (t : ℕ) → AllByRecursion (IsCounted t (history None s x t).tables) (world None s x t)
counted_world s x t = counted_at s t (x t) (history None s x t) (long_history None s x t) (counted_history s x t)

pub counted_on : (s : Settings) (x : Story) (t : ℕ) → all_ran (table None s x t) (world None s x t) ≡ counted (history None s x (suc t)).tables (world None s x t)
counted_on s x t = one_on s x t (counted_world s x t)

pub runs_are_counted : RunsAreCounted
runs_are_counted s x t = counted_on s (said x) t

-- so the members of the next slot follow from those of this one, counted by the tables so far
pub world_counted : (s : Settings) (x : Story) (t : ℕ) → world None s x (suc t) ≡ boundary (machine s) (suc t) (counted (history None s x (suc t)).tables (world None s x t)) (announcements (x (suc t)))
world_counted s x t = ap (λ ms. boundary (machine s) (suc t) ms (announcements (x (suc t)))) (counted_on s x t)

-- What holds before a slot holds before the next.

-- ---- next indexes

pub few_boundary : (n : ℕ) (mc : Machine) (t : ℕ) → 1 ≤ n → (announced : List Announcement) (members : List Member) → AllByRecursion (λ m. m.next ≤ n) members → AllByRecursion (λ m. m.next ≤ n) (boundary mc t members announced)
few_boundary n mc t le = each_boundary t (λ m. m.next ≤ n) (λ name w early. le) (λ slot m h. h) (λ index by m h. h) mc

few_ran : (n : ℕ) (picks : Table) → NamesApart (λ (p : Pick). p.name) picks → (members : List Member) → AllByRecursion (λ m. m.next ≤ n) members → AllByRecursion (λ m. m.next ≤ n + 1) (all_ran picks members)
few_ran n picks differ members all =
    subst (AllByRecursion (λ m. m.next ≤ n + 1)) (sym (all_ran_is picks differ members))
    (each_map (λ m. m.next ≤ n) (λ m. m.next ≤ n + 1) (after_table picks) (λ m h. grind arith) members all)

-- in each slot of a run an index rises by one at most
pub few_history : (o : Origin) (s : Settings) (most : ℕ) → 1 ≤ most → NamesApart label (members_before o) → AllByRecursion (λ m. m.next ≤ most) (members_before o) → (x : Replica) (t : ℕ)
    → AllByRecursion (λ m. m.next ≤ most + t) (history o s (said x) t).members
few_history o s most some named few x zero = each (λ m. m.next ≤ most) (λ m. m.next ≤ most + 0) (λ m h. omega (arith, h)) (members_before o) few
few_history o s most some named few x (suc t) =
    let world = world o s (said x) t in
    let before = few_history o s most some named few x t in
    each (λ m. m.next ≤ most + t + 1) (λ m. m.next ≤ most + suc t) (λ m h. omega (arith, h)) (all_ran (table o s (said x) t) world)
    (few_ran (most + t) (table o s (said x) t) (ordered_from o s named (said x) t).0.1 world
    (few_boundary (most + t) (machine s) (slot_of o t) (omega (arith, some)) (announcements (said x t)) (history o s (said x) t).members before))

-- so in each slot that a run can have, a member can run
pub few_before : (o : Origin) (s : Settings) → IsOrigin o s → (x : Replica) (t : ℕ) → t < 1000000 → AllByRecursion (λ m. m.next < MAX_INDEX) (history o s (said x) t).members
few_before o s began x t early =
    each (λ m. m.next ≤ 1000001 + t) (λ m. m.next < MAX_INDEX) (λ m h. omega (arith, h, early)) (history o s (said x) t).members
    (few_history o s 1000001 (omega arith) (named_before o s began) (few o began) x t)
  where
    few : (o : Origin) → IsOrigin o s → AllByRecursion (λ m. m.next ≤ 1000001) (members_before o)
    few None began = tt
    few (Some c) began = each (IsLeftAt c.slot) (λ m. m.next ≤ 1000001) (λ m left. subst (λ (x : Member). x.next ≤ 1000001) left.again (next_fits m left.able)) c.members began.members.left

-- and its time is within that of members
pub in_time : (o : Origin) (s : Settings) → IsOrigin o s → s.slots ≤ 1000000 → (t : ℕ) → t < s.slots → slot_of o t ≤ LAST_SLOT
in_time o s began few t early = grind arith

-- after the quanta of a slot all is steady for the next
pub steady_next : {slot now now2 : ℕ} {before after : Roster} {waiting waiting2 : Queue} (rows : Table) (announced : List Said)
    → IsSteady slot before now waiting
    → let world = boundary before.machine slot before.members (announcements announced) in
    after.members ≡ all_ran rows world → after.last_slot ≡ Some slot → now2 ≡ slot → IsQueue after.members waiting2
    → IsSteady (slot + 1) after now2 waiting2
steady_next {slot} {before} rows announced steady ran_are last_is now_is queue = grind (arith, apart_boundary, named_ran)
