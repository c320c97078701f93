-- The queue of the members' next subtasks, through boundaries and quanta.
use Rattle.std.proofs.Common.{find, T, filter}
use Rattle.pfair_table.proofs.Common.{true≢false, or_parts, drop_more, NamesApart, apart_head, apart_tail, AllByRecursion, name_cmp, Key, name_eq, Said, Announcement, name_exact, name_itself, none-some, same_Some, slice_get_within, get_or_from_slice_get, Queue, Machine, is_named, member_named, change, effect, present, is_freed, all_decided, boundary, announcements, Member, is_departing, eligible_from, next_key, queued, IsQueue, IsQueueBesides, IsQueueBut, IsNotifiedOf, is_of_some, is_said, by_effect, apart_present, apart_effect, ℕ, ◌+◌, ◌<◌, ◌≡◌, refl, sym, ap, ◌∙◌, subst, Bool, true, false, cond, List, [], ◌∷◌, ◌++◌, length, get_or, drop, Option, Some, None, arith, ◌||◌, not, is_some, slice_get, if◌then◌else◌, nat_list_cmp_total, tied_names, Name, Decision, ForSome, option_map, map-append, length-map, take_more, take-append-drop, Among, among_right, among_all, nat_list_eq_equiv, MAX_INDEX, ran, with_quantum, quantum_of, running, seatless, Roster, Pick, Table, names_task, pick, index_of, all_ran, IsQueueWithout, MayRun, has_key_of, keys_of, inl, take, map, Seated, Quantum, le-leb, and_parts, and_from, not-true, among_filter, filter_among, among_map, map_among, all_among, among_contains, contains_among, apart_nil, apart_cons, apart_filter, apart_map, first_by_rank, released, without, eligible, is_eligible, inr, IsTrue, nat_le, eq_by_cmp, first_names, names_exact, name_of, is_lt}
use Rattle.std.specs.FinMap.{get-empty, get-insert, get-remove, same_map, get-entries, entries_sorted, entries}
use Rattle.std.proofs.lemmas.List.Recursion.{found_push_other}
use Rattle.std.proofs.Math.ListN.{get_or-map}
use Rattle.std.proofs.lemmas.List.Sorted.{Contains-permutation}
use Rattle.pfair_ready.proofs.Taking.{IsReleased, each_found, each_released, released_remove, get_without}
use Rattle.pfair_table.proofs.TableLaws.{among_first, first_same, eligible_apart}
use Rattle.std.specs.FinMap as finmap
use Rattle.std.specs.FinMap.Entries as listed

-- ---- what is found

none_found : {A : Type 0} (p : A → Bool) (xs : List A) → AllByRecursion (λ x. p x ≡ false) xs → find p xs ≡ None
none_found p [] h = refl
none_found p (x ∷ xs) h = ap (λ b. cond b (Some x) (find p xs)) h.0 ∙ none_found p xs h.1

find_push : {A : Type 0} (p : A → Bool) (xs : List A) (y : A) → p y ≡ false → find p (xs ++ y ∷ []) ≡ find p xs
find_push p = found_push_other (find p) p (λ x. Some x) None refl (λ x xs. refl)

-- to change the member of one name changes no other
pub found_other : (name other : Name) (f : Member → Member) → ((m : Member) → (f m).name ≡ m.name) → name_eq name other ≡ false → (members : List Member) → member_named (change other f members) name ≡ member_named members name
found_other name other f keeps e [] = refl
found_other name other f keeps e (m ∷ members) = grind (arith, member_named, change, name_exact other m.name, keeps m, found_other name other f keeps e members)

-- and its own member is found changed
pub found_changed : (name : Name) (f : Member → Member) → ((m : Member) → (f m).name ≡ m.name) → (members : List Member) (m : Member) → member_named members name ≡ Some m → member_named (change name f members) name ≡ Some (f m)
found_changed name f keeps [] m e = absurd (none-some m e)
found_changed name f keeps (x ∷ members) m e = grind (arith, same_Some, found_changed name f keeps members m)

-- ---- a boundary changes nothing in the queue but of those that something was said about

freed_departs : (t : ℕ) (o : Option ℕ) → not (is_freed t o) ≡ false → is_some o ≡ true
freed_departs t o e = grind (arith, true≢false)

quiet_present : (t : ℕ) (name : Name) (members : List Member) → NamesApart (λ (m : Member). m.name) members → queued (member_named (present t members) name) ≡ queued (member_named members name)
quiet_present t name [] a = refl
quiet_present t name (m ∷ members) a = by (not (is_freed t m.freed_at)) (name_eq name m.name) refl refl (quiet_present t name members (apart_tail (λ (m : Member). m.name) m members a))
  where
    by : (b c : Bool) → not (is_freed t m.freed_at) ≡ b → name_eq name m.name ≡ c → queued (member_named (present t members) name) ≡ queued (member_named members name)
        → queued (find (is_named name) (cond b (m ∷ present t members) (present t members))) ≡ queued (cond c (Some m) (member_named members name))
    by true true p q more = ap (λ d. queued (cond d (Some m) (member_named (present t members) name))) q
    by true false p q more = ap (λ d. queued (cond d (Some m) (member_named (present t members) name))) q ∙ more
    by false true p q more =
        more
        ∙ ap queued (none_found (is_named name) members (subst (λ (n : Name). AllByRecursion (λ x. name_eq n x.name ≡ false) members) (sym (name_exact name m.name q)) (apart_head (λ (m : Member). m.name) m members a)))
        ∙ sym (ap (λ d. if d then None else Some (eligible_from m m.next, next_key m)) (freed_departs t m.freed_at p))
    by false false p q more = more

quiet_effect : (t : ℕ) (name : Name) (members : List Member) (a : Announcement) (d : Decision) → name_eq name (name_of a) ≡ false → member_named (effect t members a d) name ≡ member_named members name
quiet_effect t name members a d e = grind (arith, by_effect, find_push, found_other)

quiet_decided : (mc : Machine) (t : ℕ) (name : Name) (announced : List Said) (members : List Member) → NamesApart (λ (m : Member). m.name) members → is_said name announced ≡ false → queued (member_named (all_decided mc t members (announcements announced)) name) ≡ queued (member_named members name)
quiet_decided mc t name [] members a e = refl
quiet_decided mc t name (said ∷ announced) members a e = grind (arith, or_parts, apart_effect, apart_present, quiet_present, quiet_effect, quiet_decided mc t name announced)

-- So a queue of the members before a boundary is one of the members after it, but for the names that something was said about.
pub queue_after_boundary : (mc : Machine) (t : ℕ) (announced : List Said) (members : List Member) (waiting : Queue) → NamesApart (λ (m : Member). m.name) members → IsQueue members waiting → IsQueueBut announced (boundary mc t members (announcements announced)) waiting
queue_after_boundary mc t announced members waiting named queue name e = grind (arith, quiet_decided, apart_present, quiet_present)

-- ---- one task's entry anew

-- another is put in
pub notified_in : (notified : Name) (members : List Member) (before : Queue) (e : ℕ × Key) (named : Name) → named ≡ notified → queued (member_named members notified) ≡ Some e → IsNotifiedOf notified members before (finmap.insert (finmap.remove before notified) named e)
notified_in notified members before e named same some name = grind (arith, get-insert, nat_list_cmp_total, get-remove, tied_names)

-- who is found has the name
pub found_named : (members : List Member) (name : Name) (m : Member) → member_named members name ≡ Some m → m.name ≡ name
found_named [] name m e = absurd (none-some m e)
found_named (x ∷ members) name m e = grind (arith, member_named, name_exact name x.name, same_Some, found_named members name m)

-- what is absent need not go
pub absent_removed : (waiting : Queue) (name : Name) → finmap.get waiting name ≡ None → waiting ≡ finmap.remove waiting name
absent_removed waiting name none =
    same_map nat_list_cmp_total names_exact _ _ (λ q. (let out = get-remove nat_list_cmp_total waiting name q in grind (arith, out, name_exact, tied_names q name)))

-- if there is no such member, or it is departing
pub notified_gone : (notified : Name) (members : List Member) (before after : Queue) → queued (member_named members notified) ≡ None → after ≡ finmap.remove before notified → IsNotifiedOf notified members before after
notified_gone notified members before after none is name = (let out = get-remove nat_list_cmp_total before notified name in grind (arith, is, out, tied_names name notified))

pub queued_departing : (o : Option Member) (m : Member) → o ≡ Some m → is_departing m ≡ true → queued o ≡ None
queued_departing o m found goes = ap queued found ∙ ap (λ d. if d then None else Some (eligible_from m m.next, next_key m)) goes

-- if there is one, its next subtask is put in
pub notified_next : (notified : Name) (members : List Member) (m : Member) (before middle after : Queue) (new : Bool) (from : ℕ) (key : Key)
    → member_named members notified ≡ Some m → is_departing m ≡ false → from ≡ eligible_from m m.next → key ≡ next_key m
    → middle ≡ finmap.remove before notified → new ≡ not (finmap.contains_key middle key.name)
    → after ≡ (if new then finmap.insert middle key.name (from, key) else middle) → IsNotifiedOf notified members before after
notified_next notified members m before middle after new from key found stays from_is key_is out fresh in_ =
    let named : key.name ≡ notified = ap (λ (k : Key). k.name) key_is ∙ found_named members notified m found in
    grind (arith, get-remove, nat_list_cmp_total, tied_names, name_itself, notified_in)

-- the item at a place of a list, and what is left from it on
pub drop_item : {A : Type 0} (xs : List A) (i : ℕ) (x : A) → i < length xs → x ≡ get_or xs i x → drop i xs ≡ x ∷ drop (i + 1) xs
drop_item xs i x l e = drop_more xs i x l ∙ ap (λ y. y ∷ drop (i + 1) xs) (sym e)

-- one turn of the loop over what was said
pub notified_turn : (announced : List Said) (i : ℕ) (said : Said) (members : List Member) (before after : Queue) → i < length announced → said ≡ get_or announced i said
    → IsQueueBut (drop i announced) members before → IsNotifiedOf (name_of said.announcement) members before after → IsQueueBut (drop (i + 1) announced) members after
notified_turn announced i said members before after l e queue notified name quiet = (let rest = drop_item announced i said l e in grind (arith, rest, name_exact, queue name, notified name))

-- ---- a ready structure that is made anew

none_named : (name : Name) (members : List Member) → is_of_some name members ≡ false → member_named members name ≡ None
none_named name [] e = refl
none_named name (m ∷ members) e = grind (arith, or_parts, none_named name members)

-- an empty one has to be notified of all members
pub besides_all : (members : List Member) (waiting : Queue) → waiting ≡ finmap.empty → IsQueueBesides members members waiting
besides_all members waiting empty name e = ap (λ (h : Queue). finmap.get h name) empty ∙ get-empty name_cmp name ∙ sym (ap queued (none_named name members e))

-- and one that was notified of a member has to be notified of one less
pub besides_at : (members : List Member) (i : ℕ) (m : Member) (name : Name) (before after : Queue) → Some m ≡ slice_get members i → name ≡ m.name
    → IsQueueBesides (drop i members) members before → IsNotifiedOf name members before after → IsQueueBesides (drop (i + 1) members) members after
besides_at members i m notified before after at is queue anew name e =
    let rest : is_of_some name (drop i members) ≡ name_eq name m.name || is_of_some name (drop (i + 1) members) =
    ap (is_of_some name) (drop_item members i m (slice_get_within members i m (sym at)) (sym (get_or_from_slice_get members i m m (sym at)))) in
    grind (arith, rest, name_exact, anew name, queue name)

-- The loop over the keys that have a quantum.

-- the quanta of so many keys are given: the rows, the members, and what waits; the keys have distinct names, and each may run
pub record RunSoFar (start : Roster) (first : List Key) (i : ℕ) (roster : Roster) (table : Table) (waiting : Queue) : Type 0 where
  pub apart : NamesApart (λ k. k.name) first
  pub can_run : (k : Key) → Among first k → MayRun start.members k
  pub rows : table ≡ map (pick start.members) (take i first)
  pub ran_are : roster ≡ record start { members = all_ran (map (pick start.members) (take i first)) start.members }
  pub queue : IsQueueWithout (drop i first) roster.members waiting

-- ---- lists

-- a selected key among the keys
pub key_inside : (first : List Seated) {i : ℕ} → i < length first → i < length (keys_of first)
key_inside first inside = omega (arith, inside, length-map first (λ (s : Seated). s.key))

pub key_item : (first : List Seated) (i : ℕ) (seated : Seated) → seated ≡ get_or first i seated → seated.key ≡ get_or (keys_of first) i seated.key
key_item first i seated item = ap (λ (s : Seated). s.key) item ∙ sym (get_or-map (λ (s : Seated). s.key) first i seated)

-- around one key the others have other names
apart_before : (xs : List Key) (k : Key) (ys : List Key) → NamesApart (λ (k : Key). k.name) (xs ++ k ∷ ys) → has_key_of k.name xs ≡ false
apart_before [] k ys a = refl
apart_before (x ∷ xs) k ys a =
    let other = among_all (λ (y : Key). name_eq x.name y.name ≡ false) (xs ++ k ∷ ys) (apart_head (λ (k : Key). k.name) x (xs ++ k ∷ ys) a) k (among_right xs (k ∷ ys) k (inl refl)) in
    grind (arith, nat_list_eq_equiv.symm, other, apart_before xs k ys (apart_tail (λ (k : Key). k.name) x (xs ++ k ∷ ys) a))

no_key : (ys : List Key) (name : Name) → AllByRecursion (λ y. name_eq name y.name ≡ false) ys → has_key_of name ys ≡ false
no_key [] name other = refl
no_key (y ∷ ys) name other = ap (λ b. b || has_key_of name ys) other.0 ∙ no_key ys name other.1

apart_after : (xs : List Key) (k : Key) (ys : List Key) → NamesApart (λ (k : Key). k.name) (xs ++ k ∷ ys) → has_key_of k.name ys ≡ false
apart_after [] k ys a = no_key ys k.name (apart_head (λ (k : Key). k.name) k ys a)
apart_after (x ∷ xs) k ys a = apart_after xs k ys (apart_tail (λ (k : Key). k.name) x (xs ++ k ∷ ys) a)

rows_named : (members : List Member) (name : Name) (keys : List Key) → names_task name (map (pick members) keys) ≡ has_key_of name keys
rows_named members name [] = refl
rows_named members name (k ∷ keys) = ap (λ b. name_eq name k.name || b) (rows_named members name keys)

-- ---- members that ran

found_after : (name : Name) (picks : Table) (members : List Member) → names_task name picks ≡ false → member_named (all_ran picks members) name ≡ member_named members name
found_after name [] members e = refl
found_after name (p ∷ picks) members e = grind (arith, or_parts, found_other, found_after name picks)

all_ran_push : (picks : Table) (p : Pick) (members : List Member) → all_ran (picks ++ p ∷ []) members ≡ ran p.name (all_ran picks members)
all_ran_push [] p members = refl
all_ran_push (q ∷ picks) p members = all_ran_push picks p (ran q.name members)

module _ {start : Roster} {first : List Key} {i : ℕ} {roster : Roster} {table : Table} {waiting : Queue} {key : Key} (so : RunSoFar start first i roster table waiting) (inside : i < length first) (item : key ≡ get_or first i key) where
  split : take i first ++ key ∷ drop (i + 1) first ≡ first
  split = ap (λ ys. take i first ++ ys) (sym (drop_item first i key inside item)) ∙ take-append-drop i first

  split_apart : NamesApart (λ (k : Key). k.name) (take i first ++ key ∷ drop (i + 1) first)
  split_apart = subst (NamesApart (λ (k : Key). k.name)) (sym split) so.apart

  pub key_among : Among first key
  key_among = subst (λ xs. Among xs key) split (among_right (take i first) (key ∷ drop (i + 1) first) key (inl refl))

  -- nothing waits under its name
  not_waiting : finmap.get waiting key.name ≡ None
  not_waiting = grind (arith, drop_item, name_itself)

  pub may : MayRun start.members key
  may = so.can_run key key_among

  -- its member is as it was at the start
  still_found : member_named roster.members key.name ≡ Some may.0
  still_found = grind (arith, found_after, rows_named, apart_before, split_apart)

  -- so it may run
  pub may_run : ForSome (member_named roster.members key.name) (λ m. m.next < MAX_INDEX)
  may_run x e = subst (λ (m : Member). m.next < MAX_INDEX) (same_Some may.0 x (sym still_found ∙ e)) may.3

  -- and its quantum is that of its next subtask
  pub runs_next : option_map quantum_of (running (member_named roster.members key.name)) ≡ Some (quantum_of may.0)
  runs_next = grind (arith, still_found, may.2)

  -- so what waits under its name then is the subtask after that
  pub notified_on : {after : Roster} {anew : Queue} (quantum : Quantum) {new : Bool} → seatless quantum ≡ quantum_of may.0 → after ≡ record roster { members = ran key.name roster.members }
      → new ≡ not (finmap.contains_key waiting quantum.next_key.name) → anew ≡ (if new then finmap.insert waiting quantum.next_key.name (quantum.next_from, quantum.next_key) else waiting)
      → IsNotifiedOf key.name after.members waiting anew
  notified_on {after} {anew} quantum {new} is after_is fresh in_ =
      notified_next key.name after.members (with_quantum may.0) waiting waiting anew new quantum.next_from quantum.next_key
      (ap (λ (r : Roster). member_named r.members key.name) after_is ∙ found_changed key.name with_quantum (λ m. refl) roster.members may.0 still_found)
      may.2 (ap (λ (q : Quantum). q.next_from) is) (ap (λ (q : Quantum). q.next_key) is)
      (absent_removed waiting key.name not_waiting) fresh in_

  -- one turn
  pub run_turn : {after : Roster} {rows : Table} {anew : Queue} {index : ℕ} → index ≡ may.0.next → after ≡ record roster { members = ran key.name roster.members }
      → rows ≡ table ++ record { name = key.name; index = index } ∷ [] → IsNotifiedOf key.name after.members waiting anew → RunSoFar start first (i + 1) after rows anew
  run_turn {after} {rows} {anew} {index} index_is after_is rows_are notified = record {
    apart = so.apart;
    can_run = so.can_run;
    rows = rows_are ∙ ap (λ (xs : Table). xs ++ record { name = key.name; index = index } ∷ []) so.rows ∙ ap (λ (p : Pick). map (pick start.members) (take i first) ++ p ∷ []) picked ∙ sym pushed;
    ran_are = after_is ∙ ap (λ (r : Roster). record r { members = ran key.name r.members }) so.ran_are ∙ ap (λ (ms : List Member). record start { members = ms }) (sym (ap (λ (ps : Table). all_ran ps start.members) pushed ∙ all_ran_push (map (pick start.members) (take i first)) (pick start.members key) start.members));
    queue = λ name. by name (name_eq name key.name) refl (notified name);
  }
    where
      picked : record { name = key.name; index = index } ≡ pick start.members key
      picked = ap (λ (n : ℕ). record { name = key.name; index = n }) (index_is ∙ sym (ap index_of may.1))

      pushed : map (pick start.members) (take (i + 1) first) ≡ map (pick start.members) (take i first) ++ pick start.members key ∷ []
      pushed = ap (map (pick start.members)) (take_more first i key inside ∙ ap (λ y. take i first ++ y ∷ []) (sym item)) ∙ map-append (pick start.members) (take i first) (key ∷ [])

      by : (name : Name) (b : Bool) → name_eq name key.name ≡ b → finmap.get anew name ≡ (if b then queued (member_named after.members key.name) else finmap.get waiting name)
          → finmap.get anew name ≡ (if has_key_of name (drop (i + 1) first) then None else queued (member_named after.members name))
      by name true q is =
          (let same = name_exact name key.name q in
          is ∙ ap (λ n. queued (member_named after.members n)) (sym same)
          ∙ sym (ap (λ b. if b then None else queued (member_named after.members name)) (ap (λ n. has_key_of n (drop (i + 1) first)) same ∙ apart_after (take i first) key (drop (i + 1) first) split_apart)))
      by name false q is = grind (arith, drop_item, found_other)

-- The first keys of the ready structure are the first eligible subtasks of the members.

-- ---- members by name

found_among : (members : List Member) (name : Name) (m : Member) → member_named members name ≡ Some m → Among members m
found_among [] name m e = absurd (none-some m e)
found_among (x ∷ members) name m e = grind (arith, same_Some, found_among members name m)

pub found_own : (members : List Member) → NamesApart (λ (m : Member). m.name) members → (m : Member) → Among members m → member_named members m.name ≡ Some m
found_own [] a m h = absurd h
found_own (x ∷ members) a m (inl e) = grind (arith, name_itself)
found_own (x ∷ members) a m (inr h) =
    let other = among_all (λ (y : Member). name_eq x.name y.name ≡ false) members (apart_head (λ (m : Member). m.name) x members a) m h in
    grind (arith, other, nat_list_eq_equiv.symm, found_own members (apart_tail (λ (m : Member). m.name) x members a) m h)

-- ---- what is queued

pub record IsQueued (o : Option Member) (from : ℕ) (key : Key) : Type 0 where
  pub m : Member
  pub found : o ≡ Some m
  pub stays : is_departing m ≡ false
  pub from_is : from ≡ eligible_from m m.next
  pub key_is : key ≡ next_key m

abbrev next_of : Member → ℕ × Key
next_of m = (eligible_from m m.next, next_key m)

queued_is : (o : Option Member) (from : ℕ) (key : Key) → queued o ≡ Some (from, key) → IsQueued o from key
queued_is o from key e = grind (arith, none-some, same_Some)

-- ---- the entries of a finite map

is_true : (b : Bool) → T b → b ≡ true
is_true b h = grind arith

abbrev Named_entry : Type 0
Named_entry = Name × (ℕ × Key)

below_each : (name : Name) (es : List Named_entry) → IsTrue (listed.below_all name_cmp name es) → (e : Named_entry) → Among es e → is_lt (name_cmp name e.0) ≡ true
below_each name [] h e i = absurd i
below_each name (d ∷ es) h e (inl i) = ap (λ (f : Named_entry). is_lt (name_cmp name f.0)) i ∙ (and_parts _ _ h).0
below_each name (d ∷ es) h e (inr i) = below_each name es (and_parts _ _ h).1 e i

not_tied : (a b : Name) → is_lt (name_cmp a b) ≡ true → eq_by_cmp name_cmp b a ≡ false
not_tied a b h = grind (arith, nat_list_cmp_total, true≢false)

-- if each entry's key has the entry's name, no two keys have one name
entries_apart : (es : List Named_entry) → IsTrue (listed.is_sorted name_cmp es) → ((e : Named_entry) → Among es e → e.1.1.name ≡ e.0) → NamesApart (λ (e : Named_entry). e.1.1.name) es
entries_apart [] s own = apart_nil (λ (e : Named_entry). e.1.1.name)
entries_apart (d ∷ es) s own =
    apart_cons (λ (e : Named_entry). e.1.1.name) d es
    (all_among (λ (e : Named_entry). name_eq d.1.1.name e.1.1.name ≡ false) es (λ e h.
    rw (own d (inl refl), own e (inr h)) (nat_list_eq_equiv.symm d.0 e.0 ∙ sym (tied_names e.0 d.0) ∙ not_tied d.0 e.0 (below_each d.0 es (and_parts _ _ s).0 e h))))
    (entries_apart es (and_parts _ _ s).1 (λ e h. own e (inr h)))

-- ---- the two lists

module _ (n : ℕ) (members : List Member) (waiting : Queue) (named : NamesApart (λ (m : Member). m.name) members) (queue : IsQueue members waiting) where
  held_is : (e : Named_entry) → Among (entries waiting) e → IsQueued (member_named members e.0) e.1.0 e.1.1
  held_is e h = queued_is (member_named members e.0) e.1.0 e.1.1 (sym (queue e.0) ∙ get-entries waiting e.0 ∙ among_all (λ (f : Named_entry). listed.find name_cmp f.0 (entries waiting) ≡ Some f.1) (entries waiting) (each_found (entries waiting) (entries_sorted waiting)) e h)

  own_name : (e : Named_entry) → Among (entries waiting) e → e.1.1.name ≡ e.0
  own_name e h = let q = held_is e h in ap (λ (k : Key). k.name) q.key_is ∙ found_named members e.0 q.m q.found

  released_apart : NamesApart (λ (k : Key). k.name) (released n waiting)
  released_apart =
      apart_map (λ (e : ℕ × Key). e.1.name) (λ (k : Key). k.name) (λ (e : ℕ × Key). e.1) (λ e. refl) (filter (λ (e : ℕ × Key). nat_le e.0 n) (finmap.values waiting))
      (apart_filter (λ (e : ℕ × Key). e.1.name) (λ (e : ℕ × Key). nat_le e.0 n) (finmap.values waiting)
      (apart_map (λ (e : Named_entry). e.1.1.name) (λ (e : ℕ × Key). e.1.name) (λ (e : Named_entry). e.1) (λ e. refl) (entries waiting) (entries_apart (entries waiting) (is_true _ (entries_sorted waiting)) own_name)))

  released_eligible : (k : Key) → Among (released n waiting) k → Among (eligible n members) k
  released_eligible k h =
      let r = among_all (IsReleased n waiting) (released n waiting) (each_released n waiting) k h in
      let q = queued_is (member_named members r.name) r.release k (sym (queue r.name) ∙ r.at) in
      let soon : nat_le (eligible_from q.m q.m.next) n ≡ true = ap (λ f. nat_le f n) (sym q.from_is) ∙ le-leb r.release n r.due in
      subst (Among (eligible n members)) (sym q.key_is)
      (map_among next_key (filter (is_eligible n) members) q.m
      (filter_among (is_eligible n) members q.m (found_among members r.name q.m q.found) (and_from (not (is_departing q.m)) (nat_le (eligible_from q.m q.m.next) n) (ap not q.stays) soon)))

  eligible_member : (k : Key) → Among (eligible n members) k → (m : Member) × Among members m × (k ≡ next_key m) × (is_departing m ≡ false) × (nat_le (eligible_from m m.next) n ≡ true)
  eligible_member k h = grind (arith, among_map, among_filter, and_parts, not-true)

  eligible_released : (k : Key) → Among (eligible n members) k → Among (released n waiting) k
  eligible_released k h =
      let t = eligible_member k h in
      let e : ℕ × Key = next_of t.0 in
      let got : finmap.get waiting t.0.name ≡ Some e = grind (arith, queue t.0.name, found_own members named t.0 t.1, t.3) in
      let rest = finmap.remove waiting t.0.name in
      subst (Among (released n waiting)) (sym t.2) (contains_among (released n waiting) e.1
      (Contains-permutation (e.1 ∷ released n rest) (released n waiting) e.1 (released_remove n waiting rest t.0.name e.0 e.1 got t.4 refl) (among_contains (e.1 ∷ released n rest) e.1 (inl refl))))

  -- So what the ready structure gives first are the first eligible subtasks.
  pub first_of_queue : (m : ℕ) → first_by_rank m (released n waiting) ≡ first_by_rank m (eligible n members)
  first_of_queue m = first_same m (released n waiting) (eligible n members) released_apart (eligible_apart n members named) released_eligible eligible_released

  pub first_apart : (m : ℕ) (first : List Key) → first ≡ first_by_rank m (released n waiting) → NamesApart (λ (k : Key). k.name) first
  first_apart m first is = subst (NamesApart (λ (k : Key). k.name)) (sym (is ∙ first_of_queue m)) (first_names m (eligible n members) (eligible_apart n members named))

  pub first_may_run : (m : ℕ) (first : List Key) → first ≡ first_by_rank m (released n waiting) → AllByRecursion (λ m. m.next < MAX_INDEX) members → (k : Key) → Among first k → MayRun members k
  first_may_run m first is few k h = grind (arith, among_first, eligible_apart, first_of_queue, eligible_member, found_own, among_all)

-- ---- and the others wait on

pub queue_without : (first : List Key) (members : List Member) (waiting : Queue) → IsQueue members waiting → IsQueueWithout first members (without first waiting)
queue_without first members waiting queue name = grind (arith, get_without)

-- so a slot's quanta begin
pub run_start : (slot m : ℕ) (start : Roster) (waiting : Queue) → NamesApart (λ (m : Member). m.name) start.members → IsQueue start.members waiting → AllByRecursion (λ m. m.next < MAX_INDEX) start.members
    → (first : List Key) → first ≡ first_by_rank m (released slot waiting) → {table : Table} → table ≡ [] → {rest : Queue} → rest ≡ without first waiting → RunSoFar start first 0 start table rest
run_start slot m start waiting named queue few first is none rest_is = record {
  apart = first_apart slot start.members waiting named queue m first is;
  can_run = first_may_run slot start.members waiting named queue m first is few;
  rows = none;
  ran_are = refl;
  queue = subst (IsQueueWithout first start.members) (sym rest_is) (queue_without first start.members waiting queue);
}
