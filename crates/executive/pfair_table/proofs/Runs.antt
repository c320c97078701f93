-- Whatever events come, a slot that was planned has the table of a replica that is still held, and every other dispatcher
-- that agrees has it too.
use Rattle.pfair_table.proofs.Common.{replica_of, AllByRecursion, length-map, map-append, length-append, ltb-true, and_parts, not-true, cases_lt, none-some, same_Some, Torn, Logged, IsEntry, entry_eq, entry_exact, Replica, IsReplica, Below, Untorn, Agree, frontier, numbers_below, has_torn, said, below_agree, frontier_le, untorn_by_test, Settings, Origin, Table, table, decisions, plan, Decided, taken, absorbed, IsEvent, Course, begin_at, is_plannable, with_next_slot, happens, run, IsOf, IsPrefixOf, OneSchedule, PlanSoFar, ℕ, zero, suc, ◌<◌, ◌≤◌, ◌≡◌, refl, sym, ◌∙◌, subst, arith, inl, inr, Bool, true, false, List, [], ◌∷◌, ◌++◌, length, min, Some, ◌&&◌, not, nat_lt, map, slice_get, if◌then◌else◌, join_least, join_second, below_itself, below_trans, offered_stays, Event, Take, Absorb, Plan, eqb-true, eq-eqb, leb-true, lt-ltb, le-leb, and_from, One, has_key, has_shape, join, only, with_entry, cond, ◌==◌, nat_le, join_first, HeldBelow, none_below, only_here, IsBroughtBelow, EventsLeaveTheLeast}
use Rattle.pfair_table.proofs.TableLaws.{one_table, prefix_map}

-- ---- lists

pub get_left : {A : Type 0} (xs ys : List A) (t : ℕ) → t < length xs → slice_get (xs ++ ys) t ≡ slice_get xs t
get_left [] ys t h = absurd (omega (arith, h))
get_left (x ∷ xs) ys zero h = refl
get_left (x ∷ xs) ys (suc t) h = get_left xs ys t (omega (arith, h))

pub get_last : {A : Type 0} (xs : List A) (y : A) → slice_get (xs ++ y ∷ []) (length xs) ≡ Some y
get_last [] y = refl
get_last (x ∷ xs) y = get_last xs y

pub same_list : {A : Type 0} (xs ys : List A) → length xs ≡ length ys → ((t : ℕ) → t < length xs → slice_get xs t ≡ slice_get ys t) → xs ≡ ys
same_list [] [] e h = refl
same_list [] (y ∷ ys) e h = absurd (omega (arith, e))
same_list (x ∷ xs) [] e h = absurd (omega (arith, e))
same_list (x ∷ xs) (y ∷ ys) e h = λ i. same_Some x y (h zero (omega arith)) i ∷ same_list xs ys (omega (arith, e)) (λ t l. h (suc t) (omega (arith, l))) i

pub length_numbers : (n : ℕ) → length (numbers_below n) ≡ n
length_numbers zero = refl
length_numbers (suc n) = omega (arith, length_numbers n, length-append (numbers_below n) (n ∷ []))

pub get_numbers : {B : Type 0} (f : ℕ → B) (n t : ℕ) → t < n → slice_get (map f (numbers_below n)) t ≡ Some (f t)
get_numbers f zero t h = absurd (omega (arith, h))
get_numbers f (suc n) t h = grind (arith, length-map, length_numbers, map-append, cases_lt, get_left, get_last, get_numbers f n t)

-- ---- entries that are held stay held

pub taken_of : (s : Settings) (x : Replica) (k n : ℕ) (e : Logged) → IsOf s x → IsEntry e → IsOf s (taken x k n e)
taken_of s x k n e o stamped = grind (arith, offered_stays)

pub absorbed_of : (s : Settings) (x y : Replica) → IsOf s x → IsReplica y → IsOf s (absorbed x y)
absorbed_of s x y o r = grind (arith, offered_stays)

pub below_all : (x y z : Replica) → Below x y → Below y z → Below x z
below_all x y z f g k n = below_trans (x.at k n) (y.at k n) (z.at k n) (f k n) (g k n)

-- ---- what was planned

-- slot t was planned of this replica
pub record WasPlanned (o : Origin) (s : Settings) (of : Replica) (tables : List Table) (decided : List (List Decided)) (t : ℕ) : Type 0 where
  pub is_of : IsOf s of
  pub whole : Untorn of
  pub early : t < frontier of
  pub wanted : t < s.slots
  pub table_is : slice_get tables t ≡ Some (table o s (said of) t)
  pub decided_is : slice_get decided t ≡ Some (decisions o s (said of) t)

-- each slot was planned of a replica that is still held
pub record IsSound (s : Settings) (c : Course) : Type 0 where
  pub is_of : IsOf s c.replica
  pub as_many : length c.decided ≡ length c.tables
  pub planned : (t : ℕ) → t < length c.tables → (of : Replica) × Below of c.replica × WasPlanned c.origin s of c.tables c.decided t

-- with more held
sound_more : (s : Settings) (c : Course) (x : Replica) → IsSound s c → IsOf s x → Below c.replica x → IsSound s (record c { replica = x })
sound_more s c x sound o above = record {
  is_of = o;
  as_many = sound.as_many;
  planned = λ t l. (let w = sound.planned t l in (w.0, below_all w.0 c.replica x w.1 above, w.2));
}

-- with the next slot planned
sound_next : (s : Settings) (c : Course) → IsSound s c → is_plannable s c.replica (length c.tables) ≡ true → IsSound s (with_next_slot s c)
sound_next s c sound ok =
    let p = and_parts (not (has_torn c.replica)) (nat_lt (length c.tables) (frontier c.replica) && nat_lt (length c.tables) s.slots) ok in
    let q = and_parts (nat_lt (length c.tables) (frontier c.replica)) (nat_lt (length c.tables) s.slots) p.1 in
    let u = length c.tables in
    let lt = length-append c.tables (table c.origin s (said c.replica) u ∷ []) in
    let same = sound.as_many in
    record {
      is_of = sound.is_of;
      as_many = omega (arith, lt, length-append c.decided (decisions c.origin s (said c.replica) u ∷ []), same);
      planned = λ t l. elim (cases_lt t u) [
        | inl old ↦ (let w = sound.planned t old in (w.0, w.1, grind (arith, get_left, w.2)))
        | inr new ↦ (
          c.replica,
          (λ k n. below_itself (c.replica.at k n)),
          (grind (arith, untorn_by_test, not-true, ltb-true, get_last)),
        )
      ];
    }

sound_happens : (s : Settings) (c : Course) (e : Event) → IsEvent e → IsSound s c → IsSound s (happens s c e)
sound_happens s c (Take k n e) ok sound = sound_more s c (taken c.replica k n e) sound (taken_of s c.replica k n e sound.is_of ok) (offered_stays.taken_above c.replica k n e)
sound_happens s c (Absorb y) ok sound = sound_more s c (absorbed c.replica (replica_of y)) sound (absorbed_of s c.replica (replica_of y) sound.is_of ok) (offered_stays.absorbed_above c.replica (replica_of y))
sound_happens s c Plan ok sound = by (is_plannable s c.replica (length c.tables)) refl
  where
    by : (b : Bool) → is_plannable s c.replica (length c.tables) ≡ b → IsSound s (if b then with_next_slot s c else c)
    by true p = sound_next s c sound p
    by false p = sound

pub sound_run : (s : Settings) (events : List Event) (c : Course) → AllByRecursion IsEvent events → IsSound s c → IsSound s (run s c events)
sound_run s [] c all sound = sound
sound_run s (e ∷ events) c all sound = sound_run s events (happens s c e) all.1 (sound_happens s c e all.0 sound)

pub sound_start : (o : Origin) (s : Settings) (capacity : ℕ) → IsSound s (begin_at o s capacity)
sound_start o s capacity = grind (arith, none-some)

-- what is below two that agree agrees
agree_down : (x a y b : Replica) → Below x a → Below y b → Agree a b → Agree x y
agree_down x a y b f g agree k n torn = grind (arith, join_least, entry_exact, below_trans, join_first, join_second)

pub untorn_left : (x y : Replica) → Agree x y → Untorn x
untorn_left x y agree k n torn = elim (join_first entry_eq entry_exact (x.at k n) (y.at k n) Torn torn) [ inl h ↦ agree k n h | inr h ↦ agree k n h ]

-- events don't change where the run began
origin_happens : (s : Settings) (c : Course) (e : Event) → (happens s c e).origin ≡ c.origin
origin_happens s c e = grind arith

origin_stays : (s : Settings) (events : List Event) (c : Course) → (run s c events).origin ≡ c.origin
origin_stays s [] c = refl
origin_stays s (e ∷ events) c = origin_stays s events (happens s c e) ∙ origin_happens s c e

-- if nothing that is held is torn, what was planned is planned of that
planned_now : (s : Settings) (c : Course) → IsSound s c → Untorn c.replica → (t : ℕ) → t < length c.tables → WasPlanned c.origin s c.replica c.tables c.decided t
planned_now s c sound whole t l =
    let p = sound.planned t l in
    let w = p.2 in
    let le = frontier_le p.0 c.replica sound.is_of.replica (w.is_of.processors ∙ sym sound.is_of.processors) p.1 whole in
    let early : t < frontier c.replica = omega (arith, le, w.early) in
    let same = one_table c.origin s p.0 c.replica w.is_of sound.is_of (below_agree p.0 c.replica p.1 whole) t w.early early in
    grind arith

pub one_schedule : OneSchedule
one_schedule o s m n es fs all_es all_fs agree t lc ld =
    let c = run s (begin_at o s m) es in
    let d = run s (begin_at o s n) fs in
    let sound = sound_run s es (begin_at o s m) all_es (sound_start o s m) in
    let v = planned_now s c sound (untorn_left c.replica d.replica agree) t lc in
    let w = (sound_run s fs (begin_at o s n) all_fs (sound_start o s n)).planned t ld in
    let there = one_table o s c.replica w.0 sound.is_of w.2.is_of (agree_down c.replica c.replica w.0 d.replica (λ k n. below_itself (c.replica.at k n)) w.1 agree) t v.early w.2.early in
    grind (arith, origin_stays)

-- a list of as many tables, each that of its slot, begins the plan
begins_plan : (o : Origin) (s : Settings) (x : Replica) (tables : List Table) → length tables ≤ min (frontier x) s.slots → ((t : ℕ) → t < length tables → slice_get tables t ≡ Some (table o s (said x) t)) → IsPrefixOf tables (plan o s x)
begins_plan o s x tables le each =
    let n = length tables in
    let long = length-map (numbers_below n) (table o s (said x)) ∙ length_numbers n in
    let is = same_list tables (map (table o s (said x)) (numbers_below n)) (sym long) (λ t l. each t l ∙ sym (get_numbers (table o s (said x)) n t l)) in
    subst (λ (ts : List Table). IsPrefixOf ts (plan o s x)) (sym is) (prefix_map (table o s (said x)) (table o s (said x)) n (min (frontier x) s.slots) le (λ t l. refl))

-- each number below n is below m
all_below : (n m : ℕ) → ((t : ℕ) → t < n → t < m) → n ≤ m
all_below n m h = grind arith

pub plan_so_far : PlanSoFar
plan_so_far o s m events all untorn =
    let c = run s (begin_at o s m) events in
    let now = planned_now s c (sound_run s events (begin_at o s m) all (sound_start o s m)) untorn in
    let few = all_below (length c.tables) (min (frontier c.replica) s.slots) (λ t l. omega (arith, now t l)) in
    subst (λ (p : Origin). IsPrefixOf c.tables (plan p s c.replica)) (origin_stays s events (begin_at o s m)) (begins_plan c.origin s c.replica c.tables few (λ t l. (now t l).table_is))

-- What events leave is the least that is above all that they bring.

-- a replica of these processors and this capacity
record HasShape (s : Settings) (m : ℕ) (x : Replica) : Type 0 where
  pub processors : x.processors ≡ s.processors
  pub capacity : x.capacity ≡ m

planned_holds : (s : Settings) (c : Course) → (happens s c Plan).replica ≡ c.replica
planned_holds s c = grind arith

shape_stays : (s : Settings) (m : ℕ) (c : Course) (e : Event) → HasShape s m c.replica → HasShape s m (happens s c e).replica
shape_stays s m c e shape = grind (arith, offered_stays, planned_holds)

-- what was held stays held
step_grows : (s : Settings) (c : Course) (e : Event) → Below c.replica (happens s c e).replica
step_grows s c e = grind (arith, offered_stays, planned_holds, below_itself)

grows : (s : Settings) (events : List Event) (c : Course) → Below c.replica (run s c events).replica
grows s [] c = λ k n. below_itself (c.replica.at k n)
grows s (e ∷ events) c = below_all c.replica (happens s c e).replica (run s (happens s c e) events).replica (step_grows s c e) (grows s events (happens s c e))

-- ---- above all

same_keys : (s : Settings) (m : ℕ) (x : Replica) (k n : ℕ) → HasShape s m x → has_key x k n ≡ (nat_lt k s.processors && (nat_lt 0 n && nat_le n m))
same_keys s m x k n shape = λ i. nat_lt k (shape.processors i) && (nat_lt 0 n && nat_le n (shape.capacity i))

absorbed_holds : (x y : Replica) → has_shape x y ≡ true → Below y (absorbed x y)
absorbed_holds x y alike = rw alike (λ k n. join_second entry_eq entry_exact (x.at k n) (y.at k n))

step_brings : (s : Settings) (m : ℕ) (c : Course) (e : Event) → HasShape s m c.replica → IsBroughtBelow s m (happens s c e).replica e
step_brings s m c e shape = grind (arith, same_keys, and_from, lt-ltb, le-leb, absorbed_holds, eq-eqb, only_here, join_second, entry_exact)

brought_more : (s : Settings) (m : ℕ) (x y : Replica) (e : Event) → Below x y → IsBroughtBelow s m x e → IsBroughtBelow s m y e
brought_more s m x y (Take k n e) below brought = λ row first last. below_trans (Some (One e)) (x.at k n) (y.at k n) (brought row first last) (below k n)
brought_more s m x y (Absorb z) below brought = λ p q. below_all (replica_of z) x y (brought p q) below
brought_more s m x y Plan below brought = tt

above : (s : Settings) (m : ℕ) (events : List Event) (c : Course) → HasShape s m c.replica → AllByRecursion (IsBroughtBelow s m (run s c events).replica) events
above s m [] c shape = tt
above s m (e ∷ events) c shape =
    let next = happens s c e in
    (brought_more s m next.replica (run s next events).replica e (grows s events next) (step_brings s m c e shape), above s m events next (shape_stays s m c e shape))

-- ---- and below whatever is above all

only_below : (y : Replica) (k n : ℕ) (e : Logged) → HeldBelow (Some (One e)) (y.at k n) → (j m : ℕ) → HeldBelow (only k n e j m) (y.at j m)
only_below y k n e below j m = grind (arith, eqb-true, none_below)

taken_least : (s : Settings) (m : ℕ) (x y : Replica) (k n : ℕ) (e : Logged) → HasShape s m x → Below x y → IsBroughtBelow s m y (Take k n e) → Below (taken x k n e) y
taken_least s m x y k n e shape below brought = by (has_key x k n) refl
  where
    by : (b : Bool) → has_key x k n ≡ b → Below (cond b (with_entry x k n e) x) y
    by true inside =
        (let p = and_parts (nat_lt k s.processors) (nat_lt 0 n && nat_le n m) (sym (same_keys s m x k n shape) ∙ inside) in
        let q = and_parts (nat_lt 0 n) (nat_le n m) p.1 in
        let here = only_below y k n e (brought (ltb-true k s.processors p.0) (ltb-true 0 n q.0) (leb-true n m q.1)) in
        λ i j. join_least entry_eq entry_exact (x.at i j) (only k n e i j) (y.at i j) (below i j) (here i j))
    by false outside = below

absorbed_least : (s : Settings) (m : ℕ) (x y z : Replica) → Below x y → (has_shape x z ≡ true → Below z y) → Below (absorbed x z) y
absorbed_least s m x y z below brought = by (has_shape x z) refl
  where
    by : (b : Bool) → has_shape x z ≡ b → Below (cond b (join x z) x) y
    by true alike = (let other = brought alike in λ i j. join_least entry_eq entry_exact (x.at i j) (z.at i j) (y.at i j) (below i j) (other i j))
    by false apart = below

step_least : (s : Settings) (m : ℕ) (c : Course) (y : Replica) (e : Event) → HasShape s m c.replica → Below c.replica y → IsBroughtBelow s m y e → Below (happens s c e).replica y
step_least s m c y (Take k n e) shape below brought = taken_least s m c.replica y k n e shape below brought
step_least s m c y (Absorb z) shape below brought = absorbed_least s m c.replica y (replica_of z) below (λ alike.
    (let both = and_parts (c.replica.processors == z.processors) (c.replica.capacity == z.capacity) alike in
    brought (sym (eqb-true c.replica.processors z.processors both.0) ∙ shape.processors) (sym (eqb-true c.replica.capacity z.capacity both.1) ∙ shape.capacity)))
step_least s m c y Plan shape below brought = subst (λ x. Below x y) (sym (planned_holds s c)) below

least : (s : Settings) (m : ℕ) (y : Replica) (events : List Event) (c : Course) → HasShape s m c.replica → Below c.replica y → AllByRecursion (IsBroughtBelow s m y) events → Below (run s c events).replica y
least s m y [] c shape below all = below
least s m y (e ∷ events) c shape below all = least s m y events (happens s c e) (shape_stays s m c e shape) (step_least s m c y e shape below all.0) all.1

pub events_leave_the_least : EventsLeaveTheLeast
events_leave_the_least o s m events =
    let shape : HasShape s m (begin_at o s m).replica = record { processors = refl; capacity = refl } in
    (above s m events (begin_at o s m) shape, (λ y all. least s m y events (begin_at o s m) shape (λ k n. none_below (y.at k n)) all))
