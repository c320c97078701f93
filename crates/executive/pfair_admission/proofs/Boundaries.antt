-- What boundaries and quanta do to members, and what they keep.
use Rattle.pfair_admission.proofs.Common.{AllByRecursion, Share, Announcement, Arrive, Depart, Late, Decision, Admitted, Departing, Delayed, Member, Machine, all_decided, boundary, change, decided, decision, effect, is_named, newcomer, present, with_delay, with_freeing, ◌≡◌, ℕ, Bool, true, false, List, [], ◌∷◌, ◌++◌, arith, if◌then◌else◌, MAX_OFFSET, common_steps, all_by_recursion_push, take_more, sum_by_push, Delay, LONGEST_DELAY, LAST_SLOT, MAX_HEARD, last_offset, with_quantum, is_freed, all_decisions, announcements, ran, after_boundary, EachBounded, EachHasRoom, IsCutShort, Roster, after_all, Membership, ◌+◌, ◌-◌, ◌*◌, ◌<◌, ◌≤◌, length, take, get_or, Some, Result, Ok, Err, OnOk, OnErr, refl, sym, ap, subst, ◌∙◌, not, Said, filter, nat_tests, append-nil, Refused, theta, freeing_slot, is_delayed_at, eligible_from, arrival, boundary_decisions, carried, NoneFreed, suc, ◌%◌, cond, map, or-true, release_of, Refusal, AreInFrame, HaveRoom, NamesApart, member_named, None, nat_list_eq_equiv, apart_push, all_pairs_push, starts_job_of, JoinedInOrder, apart_filter, apart_map}
use Rattle.pfair_admission.proofs.MemberLists.{each_map, each, each_at, each_filter, claimed_carried, present_all, claimed_change, claimed_present, none_freed_present}
use Rattle.pfair_entry.specs.Entry.{IsWithinLimits, name_eq}
use Rattle.std.proofs.Common.{◌||◌}
use Rattle.std.proofs.lemmas.List.Kept.{AllPairs-filter}
use Rattle.pfair_admission.proofs.Deciding.{admitted_room, claimed_arrived, admitted_new}

-- An announcement does nothing, or one of three things; and a boundary lets members go, and decides announcements.

module _ (P : List Member → Type 0) (t : ℕ) (ms : List Member) (h : P ms) where
  pub by_effect : (a : Announcement) (d : Decision) → ((name : List ℕ) (w : Share) (early : Bool) → a ≡ Arrive name w early → d ≡ Admitted → P (ms ++ newcomer t name w early ∷ []))
      → ((name : List ℕ) (slot : ℕ) → a ≡ Depart name → d ≡ Departing slot → P (change name (with_freeing slot) ms)) → ((name : List ℕ) (index by : ℕ) → a ≡ Late name index by → d ≡ Delayed → P (change name (with_delay index by) ms)) → P (effect t ms a d)
  by_effect a d joins frees delays = grind arith

-- what leavers and each decision keep, a boundary keeps
module _ (P : List Member → Type 0) (machine : Machine) (t : ℕ) (left : (ms : List Member) → P ms → P (present t ms)) (does : (ms : List Member) (a : Announcement) → P ms → P (effect t ms a (decision machine t ms a))) where
  pub by_decisions : (ms : List Member) (announced : List Announcement) → P ms → P (all_decided machine t ms announced)
  by_decisions ms [] h = h
  by_decisions ms (a ∷ more) h = by_decisions (decided machine t ms a) more (left (effect t ms a (decision machine t ms a)) (does ms a h))

  pub by_boundary : (ms : List Member) (announced : List Announcement) → P ms → P (boundary machine t ms announced)
  by_boundary ms announced h = by_decisions (present t ms) announced (left ms h)

-- what a change keeps of one it keeps of each
pub each_change : (P Q : Member → Type 0) (name : List ℕ) (f : Member → Member) → ((m : Member) → P m → Q (f m)) → ((m : Member) → P m → Q m) → (ms : List Member) → AllByRecursion P ms → AllByRecursion Q (change name f ms)
each_change P Q name f to stays = each_map P Q (λ m. if is_named name m then f m else m) (λ m h. by m h (is_named name m))
  where
    by : (m : Member) → P m → (b : Bool) → Q (if b then f m else m)
    by m h true = to m h
    by m h false = stays m h

-- How far the announcements of a boundary are decided, and how far delays can lead.

-- ---- how far delays lead

pub bounded_later : (n m : ℕ) → n ≤ m → (ms : List Member) → EachBounded n ms → EachBounded m ms
bounded_later n m up = each (λ x. last_offset x ≤ LAST_SLOT + LONGEST_DELAY * n) (λ x. last_offset x ≤ LAST_SLOT + LONGEST_DELAY * m) (λ x o. omega arith)

pub bounded_present : (n t : ℕ) (ms : List Member) → EachBounded n ms → EachBounded n (present t ms)
bounded_present n t ms h = each_filter (λ m. last_offset m ≤ LAST_SLOT + LONGEST_DELAY * n) (λ m. not (is_freed t m.freed_at)) ms h

bounded_change : (n m : ℕ) (name : List ℕ) (f : Member → Member) → n ≤ m → ((x : Member) → last_offset x ≤ LAST_SLOT + LONGEST_DELAY * n → last_offset (f x) ≤ LAST_SLOT + LONGEST_DELAY * m) → (ms : List Member) → EachBounded n ms → EachBounded m (change name f ms)
bounded_change n m name f up to = each_change (λ x. last_offset x ≤ LAST_SLOT + LONGEST_DELAY * n) (λ x. last_offset x ≤ LAST_SLOT + LONGEST_DELAY * m) name f to (λ x o. omega arith)

bounded_delay : (n index by : ℕ) → by ≤ LONGEST_DELAY → (x : Member) → last_offset x ≤ LAST_SLOT + LONGEST_DELAY * n → last_offset (with_delay index by x) ≤ LAST_SLOT + LONGEST_DELAY * (n + 1)
bounded_delay n index by small x o = let s = sum_by_push (λ (d : Delay). d.by) x.delays (record { index = index; by = by }) in omega (arith, s)

bounded_effect : (n t : ℕ) (ms : List Member) (a : Announcement) (d : Decision) → t ≤ LAST_SLOT → IsWithinLimits a → EachBounded n ms → EachBounded (n + 1) (effect t ms a d)
bounded_effect n t ms a d in_time limits h =
    let more = bounded_later n (n + 1) (omega arith) ms h in
    by_effect (EachBounded (n + 1)) t ms more a d
    (λ name w early is admitted. all_by_recursion_push (λ m. last_offset m ≤ LAST_SLOT + LONGEST_DELAY * (n + 1)) ms (newcomer t name w early) more (omega arith))
    (λ name slot is _. bounded_change n (n + 1) name (with_freeing slot) (omega arith) (λ x o. omega arith) ms h)
    (λ name index by is _. bounded_change n (n + 1) name (with_delay index by) (omega arith) (bounded_delay n index by (subst IsWithinLimits is limits).1.1) ms h)

-- one announcement more
pub bounded_decided : (machine : Machine) (n t : ℕ) (ms : List Member) (a : Announcement) → t ≤ LAST_SLOT → IsWithinLimits a → EachBounded n ms → EachBounded (n + 1) (decided machine t ms a)
bounded_decided machine n t ms a in_time limits h = grind (arith, bounded_present, bounded_effect)

bounded_ran : (n : ℕ) (name : List ℕ) (ms : List Member) → EachBounded n ms → EachBounded n (ran name ms)
bounded_ran n name ms h = bounded_change n n name with_quantum (omega arith) (λ x o. o) ms h

pub bounded_run : (n : ℕ) (name : List ℕ) (ms after : List Member) (b : Bool) → after ≡ (if b then ran name ms else ms) → EachBounded n ms → EachBounded n after
bounded_run n name ms after b is h = grind (arith, bounded_ran)

-- while fewer announcements are counted than can be, each member has room for one delay more
pub has_room : (n : ℕ) (ms : List Member) → n < MAX_HEARD → EachBounded n ms → EachHasRoom ms
has_room n ms few h = each (λ x. last_offset x ≤ LAST_SLOT + LONGEST_DELAY * n) (λ x. last_offset x + LONGEST_DELAY ≤ MAX_OFFSET) (λ x o. omega arith) ms h

-- ---- how far the announcements are decided

decided_push : (machine : Machine) (t : ℕ) (ms : List Member) (xs : List Announcement) (a : Announcement) → all_decided machine t ms (xs ++ a ∷ []) ≡ decided machine t (all_decided machine t ms xs) a
decided_push machine t ms [] a = refl
decided_push machine t ms (x ∷ xs) a = decided_push machine t (decided machine t ms x) xs a

decisions_push : (machine : Machine) (t : ℕ) (ms : List Member) (xs : List Announcement) (a : Announcement) → all_decisions machine t ms (xs ++ a ∷ []) ≡ all_decisions machine t ms xs ++ decision machine t (all_decided machine t ms xs) a ∷ []
decisions_push machine t ms [] a = refl
decisions_push machine t ms (x ∷ xs) a = ap (λ (l : List Decision). decision machine t ms x ∷ l) (decisions_push machine t (decided machine t ms x) xs a)

-- the first n are decided
pub record SoFar (start : Membership) (t n : ℕ) (announced : List Announcement) (now : Membership) (all : List Decision) : Type 0 where
  pub left : now ≡ record start { members = all_decided start.machine t start.members (take n announced) }
  pub decisions : all ≡ all_decisions start.machine t start.members (take n announced)
  pub bounded : (heard : ℕ) → EachBounded heard start.members → EachBounded (heard + n) now.members

-- one announcement more is decided
pub one_more : (start : Membership) (t n : ℕ) (announced : List Announcement) (now after : Membership) (all : List Decision) (a : Announcement) (d : Decision) → SoFar start t n announced now all → t ≤ LAST_SLOT → IsWithinLimits a → n < length announced → get_or announced n a ≡ a
    → d ≡ decision now.machine t now.members a → after ≡ record now { members = decided now.machine t now.members a } → SoFar start t (n + 1) announced after (all ++ d ∷ [])
one_more start t n announced now after all a d s in_time limits within at is left =
    let front : take (n + 1) announced ≡ take n announced ++ a ∷ [] = take_more announced n a within ∙ ap (λ (x : Announcement). take n announced ++ x ∷ []) at in
    let of : List Member → Membership = λ ms. record start { members = ms } in
    record {
      left = grind (arith, decided_push);
      decisions =
          ap (λ (l : List Decision). l ++ d ∷ []) s.decisions ∙ ap (λ (x : Decision). all_decisions start.machine t start.members (take n announced) ++ x ∷ []) (is ∙ ap (λ (r : Membership). decision r.machine t r.members a) s.left)
          ∙ sym (decisions_push start.machine t start.members (take n announced) a) ∙ ap (all_decisions start.machine t start.members) (sym front);
      bounded = λ heard h.
          let count : heard + n + 1 ≡ heard + (n + 1) = omega arith in
          subst (λ (r : Membership). EachBounded (heard + (n + 1)) r.members) (sym left)
          (subst (λ k. EachBounded k (decided now.machine t now.members a)) count (bounded_decided now.machine (heard + n) t now.members a in_time limits (s.bounded heard h)));
    }

-- and more may come
pub bounded_so_far : (start : Membership) (t n m : ℕ) (announced : List Announcement) (now : Membership) (all : List Decision) → SoFar start t n announced now all → n ≤ m → (heard : ℕ) → EachBounded heard start.members → EachBounded (heard + m) now.members
bounded_so_far start t n m announced now all s more heard h = bounded_later (heard + n) (heard + m) (omega arith) now.members (s.bounded heard h)

-- while more may come each member has room for one delay more
pub room_so_far : (start : Membership) (t n m : ℕ) (announced : List Announcement) (now : Membership) (all : List Decision) → SoFar start t n announced now all → n < m → m ≤ MAX_HEARD → EachBounded (MAX_HEARD - m) start.members → EachHasRoom now.members
room_so_far start t n m announced now all s more few h = has_room (MAX_HEARD - m + n) now.members (omega arith) (s.bounded (MAX_HEARD - m) h)

-- ---- announcements at their places

pub length_announcements : (xs : List Said) → length (announcements xs) ≡ length xs
length_announcements xs = grind (arith, common_steps)

said_at : (xs : List Said) (i : ℕ) (x : Said) → i < length xs → get_or (announcements xs) i x.announcement ≡ (get_or xs i x).announcement
said_at xs i x within = grind (arith, common_steps)

pub said_item : (xs : List Said) (i : ℕ) (x : Said) → i < length xs → x ≡ get_or xs i x → get_or (announcements xs) i x.announcement ≡ x.announcement
said_item xs i x within is = said_at xs i x within ∙ ap (λ (a : Said). a.announcement) (sym is)

pub limits_item : (xs : List Said) (i : ℕ) (x : Said) → AllByRecursion (λ a. IsWithinLimits a.announcement) xs → i < length xs → x ≡ get_or xs i x → IsWithinLimits x.announcement
limits_item xs i x h within is = subst (λ (a : Said). IsWithinLimits a.announcement) (sym is) (each_at (λ (a : Said). IsWithinLimits a.announcement) xs i x h within)

-- ---- who is left

-- those that a boundary begins with
abbrev pub begun : ℕ → Roster → Membership
begun t r = record { machine = r.machine; members = present t r.members }

-- with the announcements counted
abbrev pub with_heard : ℕ → List Said → Roster → Membership → Roster
with_heard t announced old s = record { machine = s.machine; members = s.members; heard = old.heard + length announced; last_slot = Some t }

pub decided_ok : {A E : Type 0} (r : Result A E) (t : ℕ) (announced : List Said) (old after : Roster) {start now : Membership} → start ≡ begun t old → after ≡ with_heard t announced old now
    → OnOk r (now ≡ after_all t (announcements announced) start) → OnOk r (after ≡ after_boundary t announced old)
decided_ok (Ok x) t announced old after same is all = is ∙ ap (with_heard t announced old) (all ∙ ap (after_all t (announcements announced)) same)
decided_ok (Err e) t announced old after same is all = tt

pub decided_err : {A E : Type 0} (r : Result A E) (t : ℕ) (announced : List Said) (old after : Roster) {start now : Membership} → start ≡ begun t old → after ≡ with_heard t announced old now
    → OnErr r ((k : ℕ) × (now ≡ after_all t (take k (announcements announced)) start)) → OnErr r (IsCutShort t announced old after)
decided_err (Ok x) t announced old after same is some = tt
decided_err (Err e) t announced old after same is some = (some.0, is ∙ ap (with_heard t announced old) (some.1 ∙ ap (after_all t (take some.0 (announcements announced))) same))

-- What boundaries and quanta keep.

-- ---- room

room_change : (machine : Machine) (name : List ℕ) (f : Member → Member) → ((m : Member) → (f m).weight ≡ m.weight) → (ms : List Member) → HaveRoom machine ms → HaveRoom machine (change name f ms)
room_change machine name f keeps ms h = let same = claimed_change machine.frame name f keeps ms in omega (arith, same, h)

room_effect : (machine : Machine) (t : ℕ) (ms : List Member) (a : Announcement) → HaveRoom machine ms → HaveRoom machine (effect t ms a (decision machine t ms a))
room_effect machine t ms a h = grind (arith, by_effect, claimed_arrived, admitted_room, room_change)

pub room_boundary : (machine : Machine) (t : ℕ) (ms : List Member) (announced : List Announcement) → HaveRoom machine ms → HaveRoom machine (boundary machine t ms announced)
room_boundary machine t = by_boundary (HaveRoom machine) machine t (λ ms h. (let less = claimed_present machine.frame t ms in omega (arith, less, h))) (room_effect machine t)

pub room_ran : (machine : Machine) (name : List ℕ) (ms : List Member) → HaveRoom machine ms → HaveRoom machine (ran name ms)
room_ran machine name ms h = room_change machine name with_quantum (λ _. refl) ms h

pub room_carried : (machine : Machine) (ms : List Member) → HaveRoom machine ms → HaveRoom machine (map carried ms)
room_carried machine ms h = (let same = claimed_carried machine.frame ms in omega (arith, same, h))

-- ---- who stays

none_freed_decided : (machine : Machine) (t : ℕ) (ms : List Member) (announced : List Announcement) → NoneFreed t ms → NoneFreed t (all_decided machine t ms announced)
none_freed_decided machine t ms [] h = h
none_freed_decided machine t ms (a ∷ more) h = none_freed_decided machine t (decided machine t ms a) more (none_freed_present t (effect t ms a (decision machine t ms a)))

pub none_freed_boundary : (machine : Machine) (t : ℕ) (ms : List Member) (announced : List Announcement) → NoneFreed t (boundary machine t ms announced)
none_freed_boundary machine t ms announced = none_freed_decided machine t (present t ms) announced (none_freed_present t ms)

-- ---- periods

pub admitted_in_frame : (machine : Machine) (ms : List Member) (name : List ℕ) (w : Share) → Admitted ≡ arrival machine ms name w → machine.frame % w.period ≡ 0
admitted_in_frame machine ms name w is = grind (arith, nat_tests)

frame_change : (machine : Machine) (name : List ℕ) (f : Member → Member) → ((m : Member) → machine.frame % m.weight.period ≡ 0 → machine.frame % (f m).weight.period ≡ 0) → (ms : List Member) → AreInFrame machine ms → AreInFrame machine (change name f ms)
frame_change machine name f keeps = each_change (λ m. machine.frame % m.weight.period ≡ 0) (λ m. machine.frame % m.weight.period ≡ 0) name f keeps (λ m h. h)

frame_effect : (machine : Machine) (t : ℕ) (ms : List Member) (a : Announcement) → AreInFrame machine ms → AreInFrame machine (effect t ms a (decision machine t ms a))
frame_effect machine t ms a h = grind (arith, by_effect, all_by_recursion_push, admitted_in_frame, frame_change)

pub frame_boundary : (machine : Machine) (t : ℕ) (ms : List Member) (announced : List Announcement) → AreInFrame machine ms → AreInFrame machine (boundary machine t ms announced)
frame_boundary machine t = by_boundary (AreInFrame machine) machine t (λ ms h. each_filter (λ m. machine.frame % m.weight.period ≡ 0) (λ m. not (is_freed t m.freed_at)) ms h) (frame_effect machine t)

pub frame_ran : (machine : Machine) (name : List ℕ) (ms : List Member) → AreInFrame machine ms → AreInFrame machine (ran name ms)
frame_ran machine name ms h = frame_change machine name with_quantum (λ m h. h) ms h

pub frame_carried : (machine : Machine) (ms : List Member) → AreInFrame machine ms → AreInFrame machine (map carried ms)
frame_carried machine ms h = each_map (λ m. machine.frame % m.weight.period ≡ 0) (λ m. machine.frame % m.weight.period ≡ 0) carried (λ m h. h) ms h

-- ---- refusals

pub refused_stays : (machine : Machine) (t : ℕ) (ms : List Member) (a : Announcement) (r : Refusal) → NoneFreed t ms → decision machine t ms a ≡ Refused r → decided machine t ms a ≡ ms
refused_stays machine t ms a r h is = grind (arith, present_all)

-- ---- the order of admission

length_change : (name : List ℕ) (f : Member → Member) (ms : List Member) → length (change name f ms) ≡ length ms
length_change name f ms = grind (arith, common_steps)

joined_at : (name : List ℕ) (f : Member → Member) → ((m : Member) → (f m).joined ≡ m.joined) → (ms : List Member) (k : ℕ) (d : Member) → (get_or (change name f ms) k d).joined ≡ (get_or ms k d).joined
joined_at name f keeps ms k d = grind (arith, common_steps)

order_filter : (t : ℕ) (p : Member → Bool) (ms : List Member) → JoinedInOrder t ms → JoinedInOrder t (filter p ms)
order_filter t p ms h = record { in_order = AllPairs-filter (λ (m n : Member). m.joined ≤ n.joined) p ms h.in_order; by_now = each_filter (λ m. m.joined ≤ t) p ms h.by_now }

order_push : (t : ℕ) (ms : List Member) (m : Member) → m.joined ≡ t → JoinedInOrder t ms → JoinedInOrder t (ms ++ m ∷ [])
order_push t ms m now h = grind (arith, all_pairs_push, each_at, all_by_recursion_push, common_steps)

order_effect : (t : ℕ) (ms : List Member) (a : Announcement) (d : Decision) → JoinedInOrder t ms → JoinedInOrder t (effect t ms a d)
order_effect t ms a d h = grind (arith, by_effect, order_push, length_change, joined_at, each_change)

pub order_boundary : (machine : Machine) (t : ℕ) (ms : List Member) (announced : List Announcement) → JoinedInOrder t ms → JoinedInOrder t (boundary machine t ms announced)
order_boundary machine t = by_boundary (JoinedInOrder t) machine t (order_filter t (λ m. not (is_freed t m.freed_at))) (λ ms a h. order_effect t ms a (decision machine t ms a) h)

-- ---- decisions

length_decisions : (machine : Machine) (t : ℕ) (ms : List Member) (announced : List Announcement) → length (all_decisions machine t ms announced) ≡ length announced
length_decisions machine t ms [] = refl
length_decisions machine t ms (a ∷ more) = ap suc (length_decisions machine t (decided machine t ms a) more)

pub one_each : (machine : Machine) (t : ℕ) (ms : List Member) (announced : List Announcement) → length (boundary_decisions machine t ms announced) ≡ length announced
one_each machine t ms announced = length_decisions machine t (present t ms) announced

-- ---- delays

filter_push : (p : Delay → Bool) (ds : List Delay) (d : Delay) → filter p (ds ++ d ∷ []) ≡ filter p ds ++ cond (p d) (d ∷ []) []
filter_push p ds d = grind (arith, common_steps)

pub theta_later : (m : Member) (index by i : ℕ) → index ≤ i → theta (with_delay index by m) i ≡ theta m i + by
theta_later m index by i h = grind (arith, nat_tests, filter_push, sum_by_push)

pub theta_earlier : (m : Member) (index by i : ℕ) → i < index → theta (with_delay index by m) i ≡ theta m i
theta_earlier m index by i h = grind (arith, nat_tests, filter_push, append-nil)

-- ---- leavers

pub freed_never_ran : (m : Member) (t : ℕ) → m.next ≡ 1 → freeing_slot m t ≡ t
freed_never_ran m t h = grind (arith, nat_tests)

-- ---- early release

pub eligible_not_early : (m : Member) (i : ℕ) → m.early ≡ false → eligible_from m i ≡ release_of m.weight i (theta m i)
eligible_not_early m i e = ap (λ b. if not b || (starts_job_of m.weight i || is_delayed_at m i) then release_of m.weight i (theta m i) else m.joined) e

pub eligible_at_job : (m : Member) (i : ℕ) → starts_job_of m.weight i ≡ true → eligible_from m i ≡ release_of m.weight i (theta m i)
eligible_at_job m i e = grind (arith, or-true)

pub eligible_no_later : (m : Member) (i : ℕ) → eligible_from m i ≤ release_of m.weight i (theta m i)
eligible_no_later m i = grind arith

-- Boundaries and quanta keep the names of members apart.

abbrev label : Member → List ℕ
label m = m.name

-- a change that keeps the name
pub apart_change : (name : List ℕ) (f : Member → Member) → ((m : Member) → (f m).name ≡ m.name) → (ms : List Member) → NamesApart (λ m. m.name) ms → NamesApart (λ m. m.name) (change name f ms)
apart_change name f keeps ms h = grind (arith, apart_map)

pub others_named : (name : List ℕ) (ms : List Member) → member_named ms name ≡ None → AllByRecursion (λ m. name_eq m.name name ≡ false) ms
others_named name [] none = tt
others_named name (x ∷ ms) none = grind (arith, nat_list_eq_equiv.symm, others_named name ms)

pub apart_present : (t : ℕ) (ms : List Member) → NamesApart (λ m. m.name) ms → NamesApart (λ m. m.name) (present t ms)
apart_present t ms h = apart_filter label (λ (m : Member). not (is_freed t m.freed_at)) ms h

pub apart_effect : (machine : Machine) (t : ℕ) (ms : List Member) (a : Announcement) → NamesApart (λ m. m.name) ms → NamesApart (λ m. m.name) (effect t ms a (decision machine t ms a))
apart_effect machine t ms a h =
    by_effect (NamesApart label) t ms h a (decision machine t ms a)
    (λ name w early is admitted. apart_push label ms (newcomer t name w early) (others_named name ms (admitted_new machine ms name w (sym admitted ∙ ap (decision machine t ms) is))) h)
    (λ name slot is _. apart_change name (with_freeing slot) (λ _. refl) ms h)
    (λ name index by is _. apart_change name (with_delay index by) (λ _. refl) ms h)

pub apart_boundary : (machine : Machine) (t : ℕ) (ms : List Member) (announced : List Announcement) → NamesApart (λ m. m.name) ms → NamesApart (λ m. m.name) (boundary machine t ms announced)
apart_boundary machine t = by_boundary (NamesApart label) machine t (apart_present t) (apart_effect machine t)

pub apart_ran : (name : List ℕ) (ms : List Member) → NamesApart (λ m. m.name) ms → NamesApart (λ m. m.name) (ran name ms)
apart_ran name ms h = apart_change name with_quantum (λ _. refl) ms h
