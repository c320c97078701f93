-- A member that is written at its place, and what is left when an announcement is decided.
use Rattle.std.proofs.Common.{filter, is_some}
use Rattle.pfair_admission.proofs.Common.{map, values_of, sum_by-cons, same_Some, none-some, set_value_at, units_of, Member, change, claimed, is_named, member_named, IsNotBefore, NoneFreedBefore, IsOnly, IsPlace, Numbered, ◌≡◌, ℕ, zero, suc, ◌+◌, ◌<◌, Bool, true, false, cond, List, [], ◌∷◌, length, Option, IfSome, Some, None, refl, sym, ap, subst, ◌∙◌, arith, slice_get, option_map, Depart, Late, Decision, effect, present, running, ran, quantum_of, seatless, Roster, is_there, Result, IfOk, OnErr, if◌then◌else◌, Refused, Announcement, decision, filter-append, sum_by_push, cases_lt, nat_tests, Share, MAX_OFFSET, Arrive, Admitted, LONGEST_DELAY, MAX_PROCESSORS, MAX_FRAME, last_offset, Machine, arrival, late_release, newcomer, decided, NoneFreed, EachHasRoom, IsDecided, Membership, ◌*◌, ◌≤◌, ◌++◌, Ok, Err, OnOk, after_departure, after_late_release, after_quantum, NoSuchTask, nothing}
use Rattle.pfair_admission.specs.declared.members.Quantum.{Quantum}
use Rattle.pfair_admission.proofs.MemberLists.{present_all}

-- A member that is written at its place.

-- the members, of which the one at a place is another
abbrev pub with_at : List Member → ℕ → Member → List Member
with_at [] place n = []
with_at (x ∷ ms) zero n = n ∷ ms
with_at (x ∷ ms) (suc place) n = x ∷ with_at ms place n

pub values_written : (es : Numbered) (place : ℕ) (n : Member) → values_of (set_value_at es place n) ≡ with_at (values_of es) place n
values_written [] place n = refl
values_written (e ∷ es) zero n = refl
values_written (e ∷ es) (suc place) n = ap (λ (l : List Member). e.1 ∷ l) (values_written es place n)

pub length_written : (es : Numbered) (place : ℕ) (n : Member) → length (values_of (set_value_at es place n)) ≡ length (values_of es)
length_written [] place n = refl
length_written (e ∷ es) zero n = refl
length_written (e ∷ es) (suc place) n = grind (arith, length_written es place n)

pub same_written : (ms : List Member) (place : ℕ) (m n : Member) → slice_get ms place ≡ Some m → n ≡ m → with_at ms place n ≡ ms
same_written [] place m n at same = refl
same_written (x ∷ ms) zero m n at same = ap (λ (y : Member). y ∷ ms) (same ∙ sym (same_Some x m at))
same_written (x ∷ ms) (suc place) m n at same = ap (λ (l : List Member). x ∷ l) (same_written ms place m n at same)

pub filter_again : (counts : Member → Bool) (ms : List Member) → filter counts (filter counts ms) ≡ filter counts ms
filter_again counts [] = refl
filter_again counts (x ∷ ms) = grind (arith, filter_again counts ms)

pub filter_all : (ms : List Member) → filter (λ _. true) ms ≡ ms
filter_all [] = refl
filter_all (x ∷ ms) = ap (λ (l : List Member). x ∷ l) (filter_all ms)

-- ---- names

-- nobody who counts has the name
abbrev pub AreOthers : (Member → Bool) → List ℕ → List Member → Type 0
AreOthers counts name ms = (i : ℕ) (x : Member) → slice_get ms i ≡ Some x → counts x ≡ true → is_named name x ≡ true → ⊥

pub others_named : (counts : Member → Bool) (name : List ℕ) (ms : List Member) → AreOthers counts name ms → member_named (filter counts ms) name ≡ None
others_named counts name [] h = refl
others_named counts name (x ∷ ms) h =
    let own : counts x ≡ true → is_named name x ≡ true → ⊥ = h 0 x refl in
    let rest = others_named counts name ms (λ i y at. h (suc i) y at) in
    grind arith

others_changed : (counts : Member → Bool) (name : List ℕ) (f : Member → Member) (ms : List Member) → AreOthers counts name ms → change name f (filter counts ms) ≡ filter counts ms
others_changed counts name f [] h = refl
others_changed counts name f (x ∷ ms) h =
    let own : counts x ≡ true → is_named name x ≡ true → ⊥ = h 0 x refl in
    let rest = others_changed counts name f ms (λ i y at. h (suc i) y at) in
    grind (arith, map)

-- those after the only one
after_only : (counts : Member → Bool) (name : List ℕ) (x m : Member) (ms : List Member) → IsOnly counts name (x ∷ ms) 0 m → AreOthers counts name ms
after_only counts name x m ms is i y at there named = let no = is.only (suc i) y at there named in cc

later_only : (counts : Member → Bool) (name : List ℕ) (x m : Member) (ms : List Member) (place : ℕ) → IsOnly counts name (x ∷ ms) (suc place) m → IsOnly counts name ms place m
later_only counts name x m ms place is = record { at = is.at; named = is.named; only = λ i y at there named. let next = is.only (suc i) y at there named in omega (arith, next) }

before_only : (counts : Member → Bool) (name : List ℕ) (x m : Member) (ms : List Member) (place : ℕ) → IsOnly counts name (x ∷ ms) (suc place) m → counts x ≡ true → is_named name x ≡ false
before_only counts name x m ms place is there =
    let first : is_named name x ≡ true → 0 ≡ suc place = is.only 0 x refl there in
    grind arith

-- who has the name is found, if it counts
pub only_named : (counts : Member → Bool) (name : List ℕ) (ms : List Member) (place : ℕ) (m : Member) → IsOnly counts name ms place m → member_named (filter counts ms) name ≡ cond (counts m) (Some m) None
only_named counts name [] place m is = absurd (none-some m is.at)
only_named counts name (x ∷ ms) zero m is =
    let same : x ≡ m = same_Some x m is.at in
    let others = others_named counts name ms (after_only counts name x m ms is) in
    grind arith
only_named counts name (x ∷ ms) (suc place) m is =
    let rest = only_named counts name ms place m (later_only counts name x m ms place is) in
    let before : counts x ≡ true → is_named name x ≡ false = before_only counts name x m ms place is in
    grind arith

-- and what is written there changes the member of that name
pub only_written : (counts : Member → Bool) (name : List ℕ) (f : Member → Member) (ms : List Member) (place : ℕ) (m n : Member) → IsOnly counts name ms place m → counts m ≡ true → n ≡ f m → filter counts (with_at ms place n) ≡ filter counts (change name f (filter counts ms))
only_written counts name f [] place m n is there changed = absurd (none-some m is.at)
only_written counts name f (x ∷ ms) zero m n is there changed =
    let same : x ≡ m = same_Some x m is.at in
    let others = others_changed counts name f ms (after_only counts name x m ms is) in
    grind (arith, filter_again)
only_written counts name f (x ∷ ms) (suc place) m n is there changed =
    let rest = only_written counts name f ms place m n (later_only counts name x m ms place is) there changed in
    let before : counts x ≡ true → is_named name x ≡ false = before_only counts name x m ms place is in
    grind (arith, map)

-- ---- units and freeing slots

-- the units of a member that no longer counts are free
pub claimed_written : (counts : Member → Bool) (frame : ℕ) (ms : List Member) (place : ℕ) (m n : Member) → slice_get ms place ≡ Some m → counts m ≡ true → n.weight ≡ m.weight
    → claimed frame (filter counts (with_at ms place n)) + cond (counts n) 0 (units_of m.weight frame) ≡ claimed frame (filter counts ms)
claimed_written counts frame [] place m n at there same = absurd (none-some m at)
claimed_written counts frame (x ∷ ms) zero m n at there same =
    let is = same_Some x m at in
    let new = sum_by-cons (λ (y : Member). units_of y.weight frame) n (filter counts ms) in
    grind (arith, sum_by-cons)
claimed_written counts frame (x ∷ ms) (suc place) m n at there same =
    let rest = claimed_written counts frame ms place m n at there same in
    let new = sum_by-cons (λ (y : Member). units_of y.weight frame) x (filter counts (with_at ms place n)) in
    let old = sum_by-cons (λ (y : Member). units_of y.weight frame) x (filter counts ms) in
    grind arith

pub first_written : (first : Option ℕ) (ms : List Member) (place : ℕ) (n : Member) → NoneFreedBefore first ms → IsNotBefore first n.freed_at → NoneFreedBefore first (with_at ms place n)
first_written first [] place n h own = tt
first_written first (x ∷ ms) zero n h own = (own, h.1)
first_written first (x ∷ ms) (suc place) n h own = (h.0, first_written first ms place n h.1 own)

pub first_at : (first : Option ℕ) (ms : List Member) (place : ℕ) (m : Member) → NoneFreedBefore first ms → slice_get ms place ≡ Some m → IsNotBefore first m.freed_at
first_at first [] place m h at = absurd (none-some m at)
first_at first (x ∷ ms) zero m h at = subst (λ (y : Member). IsNotBefore first y.freed_at) (same_Some x m at) h.0
first_at first (x ∷ ms) (suc place) m h at = first_at first ms place m h.1 at

-- ---- places

pub within : (es : Numbered) (place : ℕ) (m : Member) → slice_get (values_of es) place ≡ Some m → place < length es
within [] place m at = absurd (none-some m at)
within (e ∷ es) zero m at = omega arith
within (e ∷ es) (suc place) m at = let rest = within es place m at in omega (arith, rest)

-- who is at the place of a member that counts
pub record IsThere (counts : Member → Bool) (name : List ℕ) (ms : List Member) (place : ℕ) (m : Member) : Type 0 where
  pub only : IsOnly counts name ms place m
  pub counts_there : counts m ≡ true
  pub found : member_named (filter counts ms) name ≡ Some m

pub is_there_now : (counts : Member → Bool) (name : List ℕ) (ms : List Member) (place : ℕ) (m : Member) → IsPlace counts name ms place → slice_get ms place ≡ Some m → IsThere counts name ms place m
is_there_now counts name ms place m is at = by is.0 is.1 is.2 (same_Some is.0 m (sym is.1.at ∙ at))
  where
    by : (x : Member) → IsOnly counts name ms place x → counts x ≡ true → x ≡ m → IsThere counts name ms place m
    by x only there same = subst (IsThere counts name ms place) same (record { only = only; counts_there = there; found = only_named counts name ms place x only ∙ ap (λ b. cond b (Some x) None) there })

-- the name of a member that counts is taken
pub taken : (counts : Member → Bool) (name : List ℕ) (ms : List Member) (o : Option ℕ) → is_some o ≡ true → IfSome o (λ place. IsPlace counts name ms place) → is_some (member_named (filter counts ms) name) ≡ true
taken counts name ms o some is = grind (arith, is_there_now)

-- A member that is changed where it stands.

-- those that count, where the named one, m, has become n: they stay where it stays, and change as it does
pub record IsWritten (counts : Member → Bool) (name : List ℕ) (m n : Member) (old new : List Member) : Type 0 where
  pub stays : n ≡ m → new ≡ old
  pub still : filter counts old ≡ old
  pub changes : (f : Member → Member) → n ≡ f m → new ≡ filter counts (change name f old)

pub is_written : (counts : Member → Bool) (name : List ℕ) (es : Numbered) (place : ℕ) (m n : Member) → IsOnly counts name (values_of es) place m → counts m ≡ true
    → IsWritten counts name m n (filter counts (values_of es)) (filter counts (values_of (set_value_at es place n)))
is_written counts name es place m n is there = grind (arith, values_written, same_written, filter_again, only_written)

pub departed : (t : ℕ) (name : List ℕ) (m n : Member) (old new : List Member) (d : Decision) → IsWritten (is_there t) name m n old new → n ≡ after_departure d m → new ≡ present t (effect t old (Depart name) d)
departed t name m n old new d w is = grind arith

-- it keeps its name and its weight
pub departed_like : (d : Decision) (m n : Member) → n ≡ after_departure d m → (n.name ≡ m.name) × (n.weight ≡ m.weight)
departed_like d m n is = (grind arith, grind arith)

-- a member that keeps its name, its weight and its freeing slot
pub record IsLike (m n : Member) : Type 0 where
  pub name : n.name ≡ m.name
  pub weight : n.weight ≡ m.weight
  pub freed_at : n.freed_at ≡ m.freed_at

pub same_like : (m n : Member) → n ≡ m → IsLike m n
same_like m n is = record { name = ap (λ (l : Member). l.name) is; weight = ap (λ (l : Member). l.weight) is; freed_at = ap (λ (l : Member). l.freed_at) is }

-- what a call leaves that may be refused memory
pub delayed_if_ok : {E : Type 0} (r : Result Decision E) (t : ℕ) (name : List ℕ) (m n : Member) (old new : List Member) (index by : ℕ) → IsWritten (is_there t) name m n old new
    → IfOk r (λ d. n ≡ after_late_release index by d m) → IfOk r (λ d. new ≡ present t (effect t old (Late name index by) d))
delayed_if_ok r t name m n old new index by w is = grind arith

pub stays_on_err : {A E : Type 0} (r : Result A E) (counts : Member → Bool) (name : List ℕ) (m n : Member) (old new : List Member) → IsWritten counts name m n old new → OnErr r (n ≡ m) → OnErr r (new ≡ old)
stays_on_err r counts name m n old new w same = grind arith

pub late_like : {E : Type 0} (r : Result Decision E) (index by : ℕ) (m n : Member) → IfOk r (λ d. n ≡ after_late_release index by d m) → OnErr r (n ≡ m) → IsLike m n
late_like r index by m n is same = grind (arith, same_like)

pub ran_written : (name : List ℕ) (m n : Member) (old new : List Member) (r : Option Quantum) → IsWritten (λ _. true) name m n old new
    → option_map seatless r ≡ option_map quantum_of (running (Some m)) → n ≡ after_quantum m → new ≡ (if is_some r then ran name old else old)
ran_written name m n old new r w answer is = grind (arith, filter_all)

pub ran_like : (m n : Member) → n ≡ after_quantum m → IsLike m n
ran_like m n is = grind (arith, same_like)

-- what a quantum leaves
pub ran_listed : (name : List ℕ) (es : Numbered) (place : ℕ) (m n : Member) (r : Option Quantum) → IsOnly (λ _. true) name (values_of es) place m → option_map seatless r ≡ option_map quantum_of (running (Some m)) → n ≡ after_quantum m
    → values_of (set_value_at es place n) ≡ (if is_some r then ran name (values_of es) else values_of es)
ran_listed name es place m n r is answer after =
    let old : List Member = values_of es in
    let new : List Member = values_of (set_value_at es place n) in
    sym (filter_all new) ∙ ran_written name m n (filter (λ _. true) old) (filter (λ _. true) new) r (is_written (λ _. true) name es place m n is refl) answer after
    ∙ ap (λ (ms : List Member). if is_some r then ran name ms else ms) (filter_all old)

pub roster_ran : (s : Roster) (name : List ℕ) (after : List Member) (b : Bool) → after ≡ (if b then ran name s.members else s.members) → record s { members = after } ≡ (if b then record s { members = ran name s.members } else s)
roster_ran s name after b is = grind arith

-- What is left when an announcement is decided.

pub product_fits : (p f : ℕ) → p ≤ MAX_PROCESSORS → f ≤ MAX_FRAME → p * f ≤ MAX_PROCESSORS * MAX_FRAME
product_fits p f a b = grind arith

-- one machine
pub stood : (machine : Machine) {ms ns : List Member} → ms ≡ ns → ◌≡◌ {A = Membership} (record { machine = machine; members = ms }) (record { machine = machine; members = ns })
stood machine e = ap (λ (l : List Member). record { machine = machine; members = l }) e

-- ---- arrivals

-- if a task is admitted no member has its name
pub admitted_new : (machine : Machine) (ms : List Member) (name : List ℕ) (w : Share) → Admitted ≡ arrival machine ms name w → member_named ms name ≡ None
admitted_new machine ms name w is = grind (arith, nothing)

-- and there is room for it
pub admitted_room : (machine : Machine) (ms : List Member) (name : List ℕ) (w : Share) → Admitted ≡ arrival machine ms name w → claimed machine.frame ms + units_of w machine.frame ≤ machine.processors * machine.frame
admitted_room machine ms name w is = grind (arith, cases_lt, nat_tests)

-- a newcomer comes after all others
pub arrived : (machine : Machine) (t : ℕ) (ms : List Member) (name : List ℕ) (w : Share) (early : Bool) → Admitted ≡ arrival machine (present t ms) name w → present t (ms ++ newcomer t name w early ∷ []) ≡ decided machine t (present t ms) (Arrive name w early)
arrived machine t ms name w early is = grind (arith, filter-append, filter_again)

-- or all is as it was
pub not_arrived : {E : Type 0} (machine : Machine) (t : ℕ) (ms : List Member) (name : List ℕ) (w : Share) (early : Bool) (d : Decision) → NoneFreed t ms → (d ≡ Admitted → ⊥) → d ≡ arrival machine ms name w
    → IsDecided {E = E} t (Arrive name w early) (record { machine = machine; members = ms }) (record { machine = machine; members = ms }) (Ok d)
not_arrived machine t ms name w early d h other is = grind (arith, present_all, stood)

pub claimed_arrived : (frame t : ℕ) (ms : List Member) (name : List ℕ) (w : Share) (early : Bool) → claimed frame (ms ++ newcomer t name w early ∷ []) ≡ claimed frame ms + units_of w frame
claimed_arrived frame t ms name w early = sum_by_push (λ (m : Member). units_of m.weight frame) ms (newcomer t name w early)

-- ---- late releases

-- the named member has room for one delay more
pub room_of_named : (ms : List Member) (name : List ℕ) (m : Member) → EachHasRoom ms → member_named ms name ≡ Some m → last_offset m + LONGEST_DELAY ≤ MAX_OFFSET
room_of_named [] name m h found = absurd (cc)
room_of_named (x ∷ ms) name m h found = grind (arith, same_Some, room_of_named ms name m h.1)

-- if nobody has the name nothing changes
pub none_decided : (machine : Machine) (t : ℕ) (ms : List Member) (a : Announcement) → decision machine t (present t ms) a ≡ Refused NoSuchTask → present t ms ≡ decided machine t (present t ms) a
none_decided machine t ms a none = grind (arith, filter_again)

-- what is decided on a late release
pub if_decided : {E : Type 0} (r : Result Decision E) (t index : ℕ) {o p : Option Member} → o ≡ p → IfOk r (λ d. d ≡ late_release t o index) → IfOk r (λ d. d ≡ late_release t p index)
if_decided r t index same is = grind arith

pub late_decided : {E : Type 0} (r : Result Decision E) (machine : Machine) (t : ℕ) (old new : List Member) (name : List ℕ) (index by : ℕ) → IfOk r (λ d. d ≡ late_release t (member_named old name) index) → IfOk r (λ d. new ≡ present t (effect t old (Late name index by) d))
    → OnOk r (◌≡◌ {A = Membership} (record { machine = machine; members = new }) (record { machine = machine; members = decided machine t old (Late name index by) }))
late_decided r machine t old new name index by is changed = grind (arith, stood)

pub late_same : {A E : Type 0} (r : Result A E) (machine : Machine) (old new : List Member) → OnErr r (new ≡ old) → OnErr r (◌≡◌ {A = Membership} (record { machine = machine; members = new }) (record { machine = machine; members = old }))
late_same (Ok d) machine old new same = same
late_same (Err e) machine old new same = stood machine same
