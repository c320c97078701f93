-- What a run can leave, and whether it is restored.
use Rattle.std.proofs.Common.{is_some, nat_le}
use Rattle.pfair_admission.proofs.Common.{common_steps, list_all, values_of, all_by_recursion_push, nat_tests, sum_by-cons, Delay, Member, IsWeight, Share, Decision, Admitted, Refused, IsFound, Numbered, EachBounded, Membership, arrival, is_freed, member_named, Machine, as_one, carried, coming_delays, delays_from, jobs_done, passed_delays, subtasks_done, IsNotBefore, is_left_at, is_summed_up, CanBeRestored, IsLeftAt, ◌≡◌, ℕ, ◌+◌, ◌-◌, ◌*◌, ◌<◌, ◌≤◌, Bool, true, false, List, [], ◌∷◌, ◌++◌, length, length-append, map, Option, Some, None, refl, sym, ap, ◌∙◌, arith, div-eq_of_lt, Refusal, NameTaken, AllByRecursion, sum_by-append, sum_by_push, NamesApart, units_of, claimed, CanBeCarried, ◌%◌, cond, nat_list_eq_equiv, apart_head, apart_push, apart_tail, AreInFrame, HaveRoom}
use Rattle.pfair_admission.proofs.Carrying.{done_low, lowered_by_none, next_low, able_again, carried_again}
use Rattle.pfair_admission.proofs.Deciding.{filter_all, only_named, admitted_new, admitted_room}
use Rattle.pfair_entry.specs.Entry.{name_eq}
use Rattle.pfair_admission.proofs.MemberLists.{each}
use Rattle.pfair_admission.proofs.Boundaries.{admitted_in_frame, others_named}

-- ---- delays that are summed up

abbrev come : ℕ → List Delay → Bool
come next ds = list_all (λ (d : Delay). nat_le next d.index) ds

none_passed : (next : ℕ) (ds : List Delay) → come next ds ≡ true → passed_delays next ds ≡ []
none_passed next [] h = refl
none_passed next (d ∷ ds) h = grind (arith, nat_tests, none_passed next ds)

all_come : (next : ℕ) (ds : List Delay) → come next ds ≡ true → coming_delays next ds ≡ ds
all_come next [] h = refl
all_come next (d ∷ ds) h = grind (arith, nat_tests, all_come next ds)

pub summed_again : (next : ℕ) (ds : List Delay) → is_summed_up next ds ≡ true → delays_from next 0 ds ≡ ds
summed_again next [] h = refl
summed_again next (d ∷ ds) h = grind (arith, map, nat_tests, none_passed, all_come, lowered_by_none, sum_by-cons)

coming_come : (next : ℕ) (ds : List Delay) → come next (coming_delays next ds) ≡ true
coming_come next [] = refl
coming_come next (d ∷ ds) = grind (arith, coming_come next ds)

come_summed : (next : ℕ) (ds : List Delay) → come next ds ≡ true → is_summed_up next ds ≡ true
come_summed next [] h = refl
come_summed next (d ∷ ds) h = grind arith

first_summed : (next : ℕ) (passed ds : List Delay) → come next ds ≡ true → is_summed_up next (as_one passed ++ ds) ≡ true
first_summed next [] ds h = come_summed next ds h
first_summed next (d ∷ passed) ds h = grind (arith, nat_tests)

pub again_summed : (next : ℕ) (ds : List Delay) → delays_from next 0 ds ≡ ds → is_summed_up next ds ≡ true
again_summed next ds is = grind (arith, lowered_by_none, first_summed, coming_come)

-- ---- members that have nothing left to carry

none_over : (m : Member) → 1 ≤ m.weight.cost → m.next ≤ m.weight.cost + 1 → jobs_done m ≡ 0
none_over m some first = div-eq_of_lt {n = m.next - 2} {m = m.weight.cost} (omega arith)

pub stays : (m : Member) → 1 ≤ m.weight.cost → m.next ≤ m.weight.cost + 1 → is_summed_up m.next m.delays ≡ true → carried m ≡ m
stays m some first summed =
    let none = none_over m some first in
    let off : subtasks_done m ≡ 0 = (let e = ap (λ n. n * m.weight.cost) none in omega (arith, e)) in
    grind (arith, summed_again)

pub none_off : (m : Member) → carried m ≡ m → subtasks_done m ≡ 0
none_off m again = let low = done_low m in let next = ap (λ (x : Member). x.next) again in omega (arith, low, next)

-- ---- the test

not_before : (t : ℕ) (slot : Option ℕ) → 1 ≤ t → is_freed (t - 1) slot ≡ false → IsNotBefore (Some t) slot
not_before t None some h = tt
not_before t (Some slot) some h = grind (arith, nat_tests)

not_freed : (t : ℕ) (slot : Option ℕ) → 1 ≤ t → IsNotBefore (Some t) slot → is_freed (t - 1) slot ≡ false
not_freed t None some h = refl
not_freed t (Some slot) some h = grind (arith, nat_tests)

pub left_at : (t : ℕ) (m : Member) → IsWeight m.weight.cost m.weight.period → is_left_at t m ≡ true → IsLeftAt t m
left_at t m weighed h =
    let next : m.next ≤ m.weight.cost + 1 = grind (arith, nat_tests) in
    let joined : m.joined < t = grind (arith, nat_tests) in
    let stays_now : is_freed (t - 1) m.freed_at ≡ false = grind (arith, nat_tests) in
    let summed : is_summed_up m.next m.delays ≡ true = grind (arith, nat_tests) in
    grind (arith, nat_tests, stays, not_before)

pub is_left : (t : ℕ) (m : Member) → IsLeftAt t m → is_left_at t m ≡ true
is_left t m h = grind (arith, next_low, not_freed, again_summed, none_off, nat_tests)

-- ---- whether the name and the weight are admitted

pub name_found : (name : List ℕ) (ms : List Member) (o : Option ℕ) → IsFound (λ _. true) name ms o → is_some o ≡ true → is_some (member_named ms name) ≡ true
name_found name ms None h some = absurd (cc)
name_found name ms (Some place) h some = ap (λ (o : Option Member). is_some o) (ap (λ (l : List Member). member_named l name) (sym (filter_all ms)) ∙ only_named (λ _. true) name ms place h.0 h.1)

pub name_free : (name : List ℕ) (ms : List Member) (o : Option ℕ) → IsFound (λ _. true) name ms o → is_some o ≡ false → member_named ms name ≡ None
name_free name ms None h none = ap (λ (l : List Member). member_named l name) (sym (filter_all ms)) ∙ h
name_free name ms (Some place) h none = absurd (cc)

pub arrival_taken : (machine : Machine) (ms : List Member) (name : List ℕ) (w : Share) → is_some (member_named ms name) ≡ true → arrival machine ms name w ≡ Refused NameTaken
arrival_taken machine ms name w some = grind arith

-- no other decision is made on an arrival
pub admitted_else : (machine : Machine) (ms : List Member) (name : List ℕ) (w : Share) (d : Decision) → d ≡ arrival machine ms name w → ((refusal : Refusal) → d ≡ Refused refusal → ⊥) → Admitted ≡ arrival machine ms name w
admitted_else machine ms name w d is other = grind arith

-- ---- one member more

pub length_values : (es : Numbered) → length (values_of es) ≡ length es
length_values es = grind (arith, common_steps)

pub length_joined : (old new : Membership) (m : Member) → new ≡ record old { members = old.members ++ m ∷ [] } → length new.members ≡ length old.members + 1
length_joined old new m is = let more = ap (λ (s : Membership). length s.members) is in omega (arith, more, length-append old.members (m ∷ []))

pub bounded_joined : (heard t : ℕ) (machine : Machine) (old new : Membership) (m : Member) → CanBeRestored machine t old.members m → new ≡ record old { members = old.members ++ m ∷ [] } → EachBounded heard old.members → EachBounded heard new.members
bounded_joined heard t machine old new m fit is h = grind (arith, all_by_recursion_push)

-- The members that a run begins with, restored one behind the other.

abbrev label : Member → List ℕ
label m = m.name

-- ---- one member more

pub named_more : (machine : Machine) (t : ℕ) (members : List Member) (m : Member) → CanBeRestored machine t members m → NamesApart (λ m. m.name) members → NamesApart (λ m. m.name) (members ++ m ∷ [])
named_more machine t members m can h = apart_push label members m (others_named m.name members (admitted_new machine members m.name m.weight (sym can.admitted))) h

pub room_more : (machine : Machine) (t : ℕ) (members : List Member) (m : Member) → CanBeRestored machine t members m → HaveRoom machine (members ++ m ∷ [])
room_more machine t members m can = grind (arith, admitted_room, sum_by_push)

pub in_frame_more : (machine : Machine) (t : ℕ) (members : List Member) (m : Member) → CanBeRestored machine t members m → AreInFrame machine members → AreInFrame machine (members ++ m ∷ [])
in_frame_more machine t members m can h = all_by_recursion_push (λ (x : Member). machine.frame % x.weight.period ≡ 0) members m h (admitted_in_frame machine members m.name m.weight (sym can.admitted))

pub left_more : (machine : Machine) (t : ℕ) (members : List Member) (m : Member) → CanBeRestored machine t members m → AllByRecursion (IsLeftAt t) members → AllByRecursion (IsLeftAt t) (members ++ m ∷ [])
left_more machine t members m can h = all_by_recursion_push (IsLeftAt t) members m h can.left

pub all_again : (t : ℕ) (members : List Member) → AllByRecursion (IsLeftAt t) members → map carried members ≡ members
all_again t [] h = refl
all_again t (m ∷ members) h = λ i. h.0.again i ∷ all_again t members h.1 i

pub all_able : (t : ℕ) (members : List Member) → AllByRecursion (IsLeftAt t) members → AllByRecursion CanBeCarried members
all_able t members h = each (IsLeftAt t) CanBeCarried (λ m left. left.able) members h

-- ---- what a run leaves

pub left_carried : (t : ℕ) (m : Member) → IsWeight m.weight.cost m.weight.period → CanBeCarried m → 1 ≤ m.next → (carried m).joined < t → IsNotBefore (Some t) m.freed_at → IsLeftAt t (carried m)
left_carried t m weighed able first joined freed = grind (arith, able_again, carried_again, done_low)

middle : {A : Type 0} (P : A → Type 0) (xs ys : List A) (x : A) → AllByRecursion P (xs ++ x ∷ ys) → P x
middle P [] ys x h = h.0
middle P (y ∷ xs) ys x h = middle P xs ys x h.1

free_before : (before after : List Member) (m : Member) → NamesApart (λ m. m.name) (before ++ m ∷ after) → member_named before m.name ≡ None
free_before [] after m h = refl
free_before (x ∷ before) after m h =
    let other = middle (λ (y : Member). name_eq x.name y.name ≡ false) before after m (apart_head label x (before ++ m ∷ after) h) in
    ap (λ b. cond b (Some x) (member_named before m.name)) (nat_list_eq_equiv.symm m.name x.name ∙ other) ∙ free_before before after m (apart_tail label x (before ++ m ∷ after) h)

pub in_turn : (machine : Machine) (t : ℕ) (before after : List Member) (m : Member) → NamesApart (λ m. m.name) (before ++ m ∷ after) → HaveRoom machine (before ++ m ∷ after) → machine.frame % m.weight.period ≡ 0 → IsLeftAt t m → CanBeRestored machine t before m
in_turn machine t before after m named room divides left =
    let units : Member → ℕ = λ (x : Member). units_of x.weight machine.frame in
    let all = sum_by-append units before (m ∷ after) in
    let rest = sum_by-cons units m after in
    grind (arith, beside, free_before)
  where
    beside : (name : List ℕ) (w : Share) → member_named before name ≡ None → machine.frame % w.period ≡ 0 → claimed machine.frame before + units_of w machine.frame ≤ machine.processors * machine.frame → arrival machine before name w ≡ Admitted
    beside name w free divides fits = grind (arith, nat_tests)
