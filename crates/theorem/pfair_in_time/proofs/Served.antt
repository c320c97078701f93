-- Tasks that join at slot 0 are all admitted exactly if there is room for them, and then all are served.
use Rattle.pfair_in_time.proofs.Common.{AllByRecursion, find, true≢false, cases_eq, cases_Bool, le-ltb, eq-eqb, length-map, append-nil, append_assoc, sum_by-cons, NamesApart, IsWeight, units_of, deadline_of, window_not_empty, apart_head, apart_tail, name_exact, name_itself, name_eq, Among, among_append, among_all, among_map, map_among, Replica, said, Member, Machine, is_named, member_named, claimed, arrival, newcomer, effect, is_freed, present, decided, all_decided, all_decisions, announcements, Settings, machine, counted_one, world, table, with_decisions, decisions, world_counted, one_each, counted, map_same, map-id, among_filter, numbers_below, names_task, ◌≡◌, ℕ, zero, suc, ◌+◌, ◌-◌, ◌*◌, ◌%◌, ◌<◌, ◌≤◌, true, false, cond, List, [], ◌∷◌, ◌++◌, length, map, Option, Some, None, arith, ap, refl, sym, ◌∙◌, subst, inl, inr, ⊎_elim, ◌↔◌, not, count_by, Said, Admitted, map-map, length-filter, slots_since}
use Rattle.pfair_admission.specs.declared.decision.Decision.{Decision}
use Rattle.pfair_table.specs.declared.slot.Decided.{Decided}
use Rattle.pfair_in_time.specs.Schedules.{Arrival, announced, AreArrivals, SaysOnly, units_wanted, IsServed, ServedWhereThereIsRoom}
use Rattle.pfair_admission.proofs.Deciding.{admitted_room, claimed_arrived}
use Rattle.pfair_in_time.proofs.Windows.{served, no_offset_all, runs_at}
use Rattle.pfair_in_time.proofs.Worlds.{tables_before, HaveWeights}

-- ---- those who are there

abbrev pub NoneLeaves : List Member → Type 0
NoneLeaves ms = (m : Member) → Among ms m → m.freed_at ≡ None

stays : (t : ℕ) (m : Member) → m.freed_at ≡ None → not (is_freed t m.freed_at) ≡ true
stays t m e = ap (λ (o : Option ℕ). not (is_freed t o)) e

pub all_present : (t : ℕ) (ms : List Member) → NoneLeaves ms → present t ms ≡ ms
all_present t [] none = refl
all_present t (m ∷ ms) none = ap (λ b. cond b (m ∷ present t ms) (present t ms)) (stays t m (none m (inl refl))) ∙ ap (λ (l : List Member). m ∷ l) (all_present t ms (λ n h. none n (inr h)))

-- an arrival as a member
abbrev joins : Arrival → Member
joins a = newcomer 0 a.name a.weight a.early

with_one : (ms : List Member) (a : Arrival) → NoneLeaves ms → NoneLeaves (ms ++ joins a ∷ [])
with_one ms a none m h = ⊎_elim (λ l. none m l) (λ r. ⊎_elim (λ e. ap (λ (n : Member). n.freed_at) e) (λ none_left. absurd none_left) r) (among_append ms (joins a ∷ []) m h)

-- none of them has a name that is among the arrivals
abbrev AreOthers : List Member → List Arrival → Type 0
AreOthers ms arrivals = (a : Arrival) → Among arrivals a → (m : Member) → Among ms m → is_named a.name m ≡ false

unnamed : (name : List ℕ) (ms : List Member) → ((m : Member) → Among ms m → is_named name m ≡ false) → member_named ms name ≡ None
unnamed name [] none = refl
unnamed name (m ∷ ms) none = ap (λ b. cond b (Some m) (find (is_named name) ms)) (none m (inl refl)) ∙ unnamed name ms (λ n h. none n (inr h))

others_on : (ms : List Member) (a : Arrival) (more : List Arrival) → NamesApart (λ (b : Arrival). b.name) (a ∷ more) → AreOthers ms (a ∷ more) → AreOthers (ms ++ joins a ∷ []) more
others_on ms a more apart others b h m among = grind (arith, differ, among_append)
  where
    differ : name_eq b.name a.name ≡ false
    differ = elim (cases_Bool (name_eq b.name a.name)) [
      | inr e ↦ e
      | inl same ↦ absurd (true≢false (sym (subst (λ (n : List ℕ). name_eq a.name n ≡ true) (sym (name_exact b.name a.name same)) (name_itself a.name))
          ∙ among_all (λ (c : Arrival). name_eq a.name c.name ≡ false) more (apart_head (λ (c : Arrival). c.name) a more apart) b h))
    ]

module _ (k : Machine) where
  -- ---- one arrival

  fits_admitted : (ms : List Member) (a : Arrival) → member_named ms a.name ≡ None → k.frame % a.weight.period ≡ 0 → claimed k.frame ms + units_of a.weight k.frame ≤ k.processors * k.frame
      → arrival k ms a.name a.weight ≡ Admitted
  fits_admitted ms a free divides room = grind (arith, eq-eqb, le-ltb)

  -- it is there after it was admitted
  admitted_joins : (ms : List Member) (a : Arrival) → NoneLeaves ms → arrival k ms a.name a.weight ≡ Admitted → decided k 0 ms (announced a) ≡ ms ++ joins a ∷ []
  admitted_joins ms a none e = ap (λ (d : Decision). present 0 (effect 0 ms (announced a) d)) e ∙ all_present 0 (ms ++ joins a ∷ []) (with_one ms a none)

  -- ---- all of them

  record AllJoin (ms : List Member) (arrivals : List Arrival) : Type 0 where
    decisions : AllByRecursion (λ d. d ≡ Admitted) (all_decisions k 0 ms (map announced arrivals))
    members : all_decided k 0 ms (map announced arrivals) ≡ ms ++ map joins arrivals

  all_join : (ms : List Member) (arrivals : List Arrival) → NoneLeaves ms → AreOthers ms arrivals → NamesApart (λ (a : Arrival). a.name) arrivals → AllByRecursion (λ (a : Arrival). k.frame % a.weight.period ≡ 0) arrivals
      → claimed k.frame ms + units_wanted k.frame arrivals ≤ k.processors * k.frame → AllJoin ms arrivals
  all_join ms [] none others apart divide room = record { decisions = tt; members = sym (append-nil ms) }
  all_join ms (a ∷ more) none others apart divide room =
      let sum = sum_by-cons (λ (b : Arrival). units_of b.weight k.frame) a more in
      let claim = claimed_arrived k.frame 0 ms a.name a.weight a.early in
      let one = fits_admitted ms a (unnamed a.name ms (others a (inl refl))) divide.0 (omega arith) in
      let is = admitted_joins ms a none one in
      let rest = all_join (ms ++ joins a ∷ []) more (with_one ms a none) (others_on ms a more apart others) (apart_tail (λ (b : Arrival). b.name) a more apart) divide.1 (omega arith) in
      record {
        decisions = (one, subst (λ l. AllByRecursion (λ d. d ≡ Admitted) (all_decisions k 0 l (map announced more))) (sym is) rest.decisions);
        members = ap (λ l. all_decided k 0 l (map announced more)) is ∙ rest.members ∙ append_assoc ms (joins a ∷ []) (map joins more);
      }

  all_fit : (ms : List Member) (arrivals : List Arrival) → NoneLeaves ms → claimed k.frame ms ≤ k.processors * k.frame → AllByRecursion (λ d. d ≡ Admitted) (all_decisions k 0 ms (map announced arrivals))
      → claimed k.frame ms + units_wanted k.frame arrivals ≤ k.processors * k.frame
  all_fit ms [] none room all = omega arith
  all_fit ms (a ∷ more) none room all =
      let sum = sum_by-cons (λ (b : Arrival). units_of b.weight k.frame) a more in
      grind (arith, all_fit (ms ++ joins a ∷ []) more (with_one ms a none), claimed_arrived, admitted_room, admitted_joins, with_one)

-- ---- with what was said

abbrev IsAdmitted : Decided → Type 0
IsAdmitted d = d.decision ≡ Admitted

paired : (said : List Said) (ds : List Decision) → AllByRecursion (λ d. d ≡ Admitted) ds → AllByRecursion IsAdmitted (with_decisions said ds)
paired [] ds all = tt
paired (x ∷ said) [] all = tt
paired (x ∷ said) (d ∷ ds) all = (all.0, paired said ds all.1)

unpaired : (said : List Said) (ds : List Decision) → length ds ≡ length said → AllByRecursion IsAdmitted (with_decisions said ds) → AllByRecursion (λ d. d ≡ Admitted) ds
unpaired said [] long all = tt
unpaired [] (d ∷ ds) long all = absurd (omega arith)
unpaired (x ∷ said) (d ∷ ds) long all = (all.0, unpaired said ds (omega arith) all.1)

-- ---- the law

-- such arrivals are all that has to have weights
pub says_weights : (x : Replica) (arrivals : List Arrival) → SaysOnly x arrivals → AllByRecursion (λ (a : Arrival). IsWeight a.weight.cost a.weight.period) arrivals → HaveWeights (said x)
says_weights x arrivals says weights zero a h = grind (arith, among_map, among_all)
says_weights x arrivals says weights (suc t) a h = absurd (subst (λ l. Among (announcements l) a) (says.later (suc t) (omega arith)) h)

-- all that arrivals leave are members that have just joined
abbrev pub IsFirst : Member → Type 0
IsFirst m = m ≡ newcomer 0 m.name m.weight m.early

firsts : (mc : Machine) (arrivals : List Arrival) (ms : List Member) → ((m : Member) → Among ms m → IsFirst m) → (m : Member) → Among (all_decided mc 0 ms (map announced arrivals)) m → IsFirst m
firsts mc [] ms all m h = all m h
firsts mc (a ∷ more) ms all m h = grind (arith, firsts mc more (decided mc 0 ms (announced a)), among_filter, among_append)

module _ (s : Settings) (x : Replica) (arrivals : List Arrival) (says : SaysOnly x arrivals) where
  pub is_first : (m : Member) → Among (world None s (said x) 0) m → IsFirst m
  is_first m among = firsts (machine s) arrivals [] (λ n no. absurd no) m (subst (λ l. Among (all_decided (machine s) 0 [] l) m) says.first among)

  -- the members of each slot are those of slot 0, but for the indexes of their next subtasks
  pub world_is : (t : ℕ) → world None s (said x) t ≡ counted (tables_before s (said x) t) (world None s (said x) 0)
  world_is zero = sym (map_same (counted_one []) (λ m. m) (world None s (said x) 0) (λ m among. same m (is_first m among)) ∙ map-id (world None s (said x) 0))
    where
      same : (m : Member) → IsFirst m → counted_one [] m ≡ m
      same m e = ap (counted_one []) e ∙ ap (λ i. record (newcomer 0 m.name m.weight m.early) { next = i }) (omega arith) ∙ sym e
  world_is (suc t) =
      world_counted s (said x) t
      ∙ ap (λ l. all_decided (machine s) (suc t) (present (suc t) (counted (tables_before s (said x) (suc t)) (world None s (said x) t))) (announcements l)) (says.later (suc t) (omega arith))
      ∙ ap (λ ms. present (suc t) (counted (tables_before s (said x) (suc t)) ms)) (world_is t)
      ∙ ap (present (suc t)) (map-map (counted_one (tables_before s (said x) (suc t))) (counted_one (tables_before s (said x) t)) (world None s (said x) 0))
      ∙ all_present (suc t) (counted (tables_before s (said x) (suc t)) (world None s (said x) 0)) none_leaves
    where
      none_leaves : NoneLeaves (counted (tables_before s (said x) (suc t)) (world None s (said x) 0))
      none_leaves n among = grind (arith, among_map, is_first)

  pub member_at : (t : ℕ) (m : Member) → Among (world None s (said x) 0) m → Among (world None s (said x) t) (counted_one (tables_before s (said x) t) m)
  member_at t m among = subst (λ l. Among l (counted_one (tables_before s (said x) t) m)) (sym (world_is t)) (map_among (counted_one (tables_before s (said x) t)) (world None s (said x) 0) m among)

module _ (s : Settings) (x : Replica) (arrivals : List Arrival) (frame : 0 < s.frame) (are : AreArrivals s.frame arrivals) (says : SaysOnly x arrivals) where
  weights : HaveWeights (said x)
  weights = says_weights x arrivals says are.weights

  decisions_are : decisions None s (said x) 0 ≡ with_decisions (said x 0) (all_decisions (machine s) 0 [] (map announced arrivals))
  decisions_are = ap (λ l. with_decisions (said x 0) (all_decisions (machine s) 0 [] l)) says.first

  as_many : length (all_decisions (machine s) 0 [] (map announced arrivals)) ≡ length (said x 0)
  as_many =
      let one = one_each (machine s) 0 [] (map announced arrivals) in
      let same = ap length says.first in
      grind (arith, length-map)

  room_admits : units_wanted s.frame arrivals ≤ s.processors * s.frame → AllJoin (machine s) [] arrivals
  room_admits room = all_join (machine s) [] arrivals (λ m none_there. absurd none_there) (λ a h m none_there. absurd none_there) are.names are.periods (omega arith)

  admitted : AllByRecursion IsAdmitted (decisions None s (said x) 0) ↔ (units_wanted s.frame arrivals ≤ s.processors * s.frame)
  admitted = grind (arith, all_fit, unpaired, as_many, decisions_are, paired, room_admits)

  -- who is admitted is there in each slot, and has had by then what was due
  all_served : units_wanted s.frame arrivals ≤ s.processors * s.frame → (a : Arrival) → Among arrivals a → (t : ℕ) → IsServed (table None s (said x)) t a
  all_served room a h t i within = elim (cases_eq i 0) [
    | inl first ↦ omega arith
    | inr other ↦
        let due = deadline_of a.weight i 0 in
        let m = counted_one (tables_before s (said x) (due - 1)) (joins a) in
        let weight = among_all (λ (b : Arrival). IsWeight b.weight.cost b.weight.period) arrivals are.weights a h in
        let some = window_not_empty a.weight i 0 weight (omega (arith, other)) in
        let joined = subst (λ l. Among l (joins a))
        (sym (ap (λ l. all_decided (machine s) 0 [] l) says.first ∙ (room_admits room).members)) (map_among joins arrivals a h) in
        let had = served s (said x) frame weights (due - 1) m (member_at s x arrivals says (due - 1) (joins a) joined)
        refl (no_offset_all m refl) i (omega (arith, other)) (omega (arith, some)) in
        let none : (k : ℕ) → 0 + k ≡ k = λ k. omega arith in
        let slots : slots_since (due - 1) m ≡ due = omega (arith, some) in
        let same = length-filter (runs_at s (said x) m) (numbers_below (slots_since (due - 1) m))
        ∙ (λ j. count_by (λ k. names_task a.name (table None s (said x) (none k j))) (numbers_below (slots j))) in
        omega (arith, had, same)
  ]

pub served_where_there_is_room : ServedWhereThereIsRoom
served_where_there_is_room s x arrivals frame are says = (admitted s x arrivals frame are says, all_served s x arrivals frame are says)
