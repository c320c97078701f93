-- The members of a next run beside those of the long run.
use Rattle.std.proofs.Common.{inl, inr, pos, ◌-ℤ◌, nat_le, nat_lt, ◌&&◌, is_some}
use Rattle.pfair_admission.proofs.Common.{common_steps, AllByRecursion, filter, find, option_map, cases_lt, nat_tests, map-append, sum_by-cons, NamesApart, Share, IsWeight, Announcement, Arrive, Depart, Late, Decision, Admitted, Departing, Delayed, Refused, Delay, Member, is_departing, eligible_from, next_key, lag_at, Machine, is_named, member_named, claimed, arrival, departure, late_release, decision, newcomer, with_freeing, with_delay, with_quantum, change, effect, is_freed, present, decided, all_decided, all_decisions, announcements, subtasks_of, taken_off, raised, all_raised, ◌≡◌, ℕ, ◌+◌, ◌-◌, ◌*◌, ◌≤◌, Bool, true, false, List, [], ◌∷◌, ◌++◌, map, Option, Some, None, refl, sym, ap, ◌∙◌, arith, not, if◌then◌else◌, list_any-append, or-true, apart_head, apart_tail, Said, mul-add, mul_assoc, mul_comm}
use Rattle.std.proofs.lemmas.Int.{ints}
use Rattle.std.proofs.lemmas.Simd.{map-map}
use Rattle.pfair_order.specs.declared.Key.{Key}
use Rattle.pfair_order.proofs.KeyLaws.{filter_mapped}
use Rattle.pfair_entry.specs.Entry.{name_exact, name_eq, IsWeighed}
use Rattle.pfair_admission.proofs.Boundaries.{theta_earlier, theta_later, apart_effect, apart_present}
use Rattle.pfair_admission.proofs.Carrying.{IsLowered, counted_from, eligible_same, freeing_slot_same, next_key_same, release_same}

abbrev label : Member → List ℕ
label m = m.name

both_more : (a b c : ℕ) → pos (a + c) -ℤ pos (b + c) ≡ pos a -ℤ pos b
both_more a b c = omega (arith, ints)

module _ (left : List Member) (begin : ℕ) where
  -- a member of the long run, and the same one in the next run, which by slot t has joined in both
  pub record Pair (t : ℕ) : Type 0 where
    pub long : Member
    pub jobs : ℕ
    pub delays : List Delay
    pub next : ℕ
    pub is : IsLowered long jobs delays next
    pub weighed : IsWeight long.weight.cost long.weight.period
    pub first : 1 ≤ next
    pub ran : 2 ≤ long.next → 2 ≤ next
    pub by_now : long.joined + jobs * long.weight.period ≤ t
    pub taken : taken_off left begin (Some (counted_from long jobs delays next)) ≡ jobs * long.weight.cost

  abbrev pub long_of : {t : ℕ} → Pair t → Member
  long_of p = p.long

  abbrev pub short_of : {t : ℕ} → Pair t → Member
  short_of p = counted_from p.long p.jobs p.delays p.next

  -- both lists of members are those of the same pairs
  pub record ArePaired (t : ℕ) (longs shorts : List Member) : Type 0 where
    pub pairs : List (Pair t)
    pub longs_are : map long_of pairs ≡ longs
    pub shorts_are : map short_of pairs ≡ shorts

  -- ---- one pair

  waits : {t : ℕ} → Pair t → Pair (t + 1)
  waits p = (let by = p.by_now in record { long = p.long; jobs = p.jobs; delays = p.delays; next = p.next; is = p.is; weighed = p.weighed; first = p.first; ran = p.ran; by_now = omega (arith, by); taken = p.taken })

  runs : {t : ℕ} → Pair t → Pair t
  runs p =
      let now = p.is.next_is in
      record p {
        long = with_quantum p.long;
        next = p.next + 1;
        is = record {
          next_is = omega (arith, now);
          offsets = λ j first reaches. p.is.offsets j first (omega (arith, reaches));
          delayed = λ j later reaches. p.is.delayed j later (omega (arith, reaches));
        };
        first = omega arith;
        ran = λ _. (let some = p.first in omega (arith, some));
      }

  leaves : {t : ℕ} → ℕ → Pair t → Pair t
  leaves slot p = record p { long = with_freeing slot p.long; is = record { next_is = p.is.next_is; offsets = p.is.offsets; delayed = p.is.delayed } }

  waits_longer : {t : ℕ} → ℕ → ℕ → Pair t → Pair t
  waits_longer index by p =
      let far : ℕ → ℕ = λ j. j + p.jobs * p.long.weight.cost in
      let d : Delay = record { index = index; by = by } in
      let e : Delay = record { index = far index; by = by } in
      record p {
        long = with_delay (far index) by p.long;
        delays = p.delays ++ d ∷ [];
        is = record {
          next_is = p.is.next_is;
          offsets = λ j first reaches.
              (let was = p.is.offsets j first reaches in
              elim (cases_lt j index) [
                | inl before ↦
                    let near = theta_earlier (short_of p) index by j before in
                    let there = theta_earlier p.long (far index) by (far j) (omega (arith, before)) in
                    omega (arith, was, near, there)
                | inr after ↦
                    let near = theta_later (short_of p) index by j after in
                    let there = theta_later p.long (far index) by (far j) (omega (arith, after)) in
                    omega (arith, was, near, there)
              ]);
          delayed = grind (arith, nat_tests, list_any-append);
        };
      }

  -- a task that joins the next run
  joins : (t : ℕ) → begin ≤ t → (name : List ℕ) (w : Share) (early : Bool) → IsWeight w.cost w.period → Pair t
  joins t now name w early h =
      let none : 0 * w.period ≡ 0 = omega arith in
      record {
        long = newcomer t name w early;
        jobs = 0;
        delays = [];
        next = 1;
        is = record { next_is = omega arith; offsets = λ j first reaches. omega arith; delayed = λ j later reaches. refl };
        weighed = h;
        first = omega arith;
        ran = λ twice. twice;
        by_now = omega arith;
        taken = (let late : nat_lt (t + 0 * w.period) begin ≡ false = grind (arith, nat_tests, none) in ap (λ b. if b then subtasks_of (member_named left name) else 0) late ∙ omega arith);
      }

  pub lag_same : {t : ℕ} (time : ℕ) (p : Pair t) → p.long.joined + p.jobs * p.long.weight.period ≤ time → lag_at time (short_of p) ≡ lag_at time p.long
  lag_same time p now =
      let w = p.long.weight in
      let late = time - (p.long.joined + p.jobs * w.period) in
      let due : w.cost * (time - p.long.joined) ≡ w.cost * late + w.cost * (p.jobs * w.period) =
      ap (λ n. w.cost * n) (let e : time - p.long.joined ≡ late + p.jobs * w.period = omega (arith, now) in e) ∙ mul-add w.cost late (p.jobs * w.period) in
      let had : w.period * (p.long.next - 1) ≡ w.period * (p.next - 1) + w.period * (p.jobs * w.cost) =
      ap (λ n. w.period * n) (let e : p.long.next - 1 ≡ p.next - 1 + p.jobs * w.cost = omega (arith, p.is.next_is, p.first) in e) ∙ mul-add w.period (p.next - 1) (p.jobs * w.cost) in
      let same : w.cost * (p.jobs * w.period) ≡ w.period * (p.jobs * w.cost) = sym (mul_assoc w.cost p.jobs w.period) ∙ ap (λ n. n * w.period) (mul_comm w.cost p.jobs) ∙ mul_comm (p.jobs * w.cost) w.period in
      sym ((λ i. pos (due i) -ℤ pos (had i)) ∙ ap (λ n. pos (w.cost * late + w.cost * (p.jobs * w.period)) -ℤ pos (w.period * (p.next - 1) + n)) (sym same) ∙ both_more (w.cost * late) (w.period * (p.next - 1)) (w.cost * (p.jobs * w.period)))

  -- ---- all pairs

  abbrev longs : {t : ℕ} → List (Pair t) → List Member
  longs ps = map long_of ps

  abbrev shorts : {t : ℕ} → List (Pair t) → List Member
  shorts ps = map short_of ps

  -- what can be done to pairs can be done to what is paired
  on : {t u : ℕ} (f g : List Member → List Member) → ((ps : List (Pair t)) → ArePaired u (f (longs ps)) (g (shorts ps))) → (L S : List Member) → ArePaired t L S → ArePaired u (f L) (g S)
  on {t} {u} f g does L S a = (let done = does a.pairs in record { pairs = done.pairs; longs_are = done.longs_are ∙ ap f a.longs_are; shorts_are = done.shorts_are ∙ ap g a.shorts_are })

  -- those that a test of the member keeps, if it can't tell the two apart
  kept : {t : ℕ} (keep : Member → Bool) → ((p : Pair t) → keep p.long ≡ keep (short_of p)) → (ps : List (Pair t)) → ArePaired t (filter keep (longs ps)) (filter keep (shorts ps))
  kept keep same ps = record {
    pairs = filter (λ p. keep p.long) ps;
    longs_are = sym (filter_mapped keep long_of ps);
    shorts_are = (λ i. map short_of (filter (λ p. same p i) ps)) ∙ sym (filter_mapped keep short_of ps);
  }

  pub present_paired : {t : ℕ} (slot : ℕ) (L S : List Member) → ArePaired t L S → ArePaired t (present slot L) (present slot S)
  present_paired slot = on (present slot) (present slot) (kept (λ m. not (is_freed slot m.freed_at)) (λ p. refl))

  -- those of a name are changed
  abbrev IsChange : {t : ℕ} → List ℕ → (Member → Member) → (Member → Member) → (Pair t → Pair t) → Pair t → Type 0
  IsChange name f g does p = is_named name p.long ≡ true → ((does p).long ≡ f p.long) × (short_of (does p) ≡ g (short_of p))

  changed : {t : ℕ} (name : List ℕ) (f g : Member → Member) (does : Pair t → Pair t) (ps : List (Pair t)) → AllByRecursion (IsChange name f g does) ps → ArePaired t (change name f (longs ps)) (change name g (shorts ps))
  changed name f g does [] all = record { pairs = []; longs_are = refl; shorts_are = refl }
  changed {t} name f g does (p ∷ ps) all =
      let rest = changed name f g does ps all.1 in
      (elim (is_named name p.long) as (λ b. is_named name p.long ≡ b → ArePaired t ((if b then f p.long else p.long) ∷ change name f (longs ps)) ((if b then g (short_of p) else short_of p) ∷ change name g (shorts ps))) [
        | true ↦ λ e. (let now = all.0 e in record { pairs = does p ∷ rest.pairs; longs_are = (λ i. now.0 i ∷ rest.longs_are i); shorts_are = (λ i. now.1 i ∷ rest.shorts_are i) })
        | false ↦ λ e. record { pairs = p ∷ rest.pairs; longs_are = ap (λ (l : List Member). p.long ∷ l) rest.longs_are; shorts_are = ap (λ (l : List Member). short_of p ∷ l) rest.shorts_are }
      ]) refl

  each_pair : {t : ℕ} (P : Pair t → Type 0) → ((p : Pair t) → P p) → (ps : List (Pair t)) → AllByRecursion P ps
  each_pair P all [] = tt
  each_pair P all (p ∷ ps) = (all p, each_pair P all ps)

  -- the named pair
  abbrev pair_named : {t : ℕ} → List ℕ → List (Pair t) → Option (Pair t)
  pair_named name ps = find (λ p. is_named name p.long) ps

  found : {t : ℕ} (name : List ℕ) (f : Pair t → Member) → ((p : Pair t) → f p ≡ record (f p) { name = p.long.name }) → (ps : List (Pair t)) → member_named (map f ps) name ≡ option_map f (pair_named name ps)
  found name f same [] = refl
  found name f same (p ∷ ps) = grind (arith, map, found name f same ps)

  short_named : {t : ℕ} (name : List ℕ) (ps : List (Pair t)) → member_named (shorts ps) name ≡ option_map short_of (pair_named name ps)
  short_named name ps = found name short_of (λ p. refl) ps

  -- each pair of a name has as much taken off as is said of the name
  abbrev IsTaken : {t : ℕ} → List ℕ → ℕ → Pair t → Type 0
  IsTaken name n p = is_named name p.long ≡ true → n ≡ p.jobs * p.long.weight.cost

  taken_each : {t : ℕ} (name : List ℕ) (ps : List (Pair t)) → NamesApart label (shorts ps) → AllByRecursion (IsTaken name (taken_off left begin (member_named (shorts ps) name))) ps
  taken_each name [] apart = tt
  taken_each {t} name (p ∷ ps) apart =
      let taken = p.taken in
      let rest = taken_each name ps (apart_tail label (short_of p) (shorts ps) apart) in
      let same : is_named name p.long ≡ true → AllByRecursion (IsTaken name (taken_off left begin (Some (short_of p)))) ps = λ e. others e ps (apart_head label (short_of p) (shorts ps) apart) in
      grind arith
    where
      differ : {b : Bool} → b ≡ false → b ≡ true → ⊥
      differ e f = absurd (cc)

      others : is_named name p.long ≡ true → (qs : List (Pair t)) → AllByRecursion (λ (m : Member). name_eq p.long.name m.name ≡ false) (shorts qs) → AllByRecursion (IsTaken name (taken_off left begin (Some (short_of p)))) qs
      others e [] none = tt
      others e (q ∷ qs) none = (λ named. absurd (differ (ap (λ (l : List ℕ). name_eq l q.long.name) (name_exact name p.long.name e) ∙ none.0) named), others e qs none.1)

  -- ---- what is decided

  claimed_same : {t : ℕ} (frame : ℕ) (ps : List (Pair t)) → claimed frame (longs ps) ≡ claimed frame (shorts ps)
  claimed_same frame ps = grind (arith, sum_by-cons, common_steps)

  both_some : {t : ℕ} (o : Option (Pair t)) → is_some (option_map long_of o) ≡ is_some (option_map short_of o)
  both_some o = grind arith

  arrival_same : {t : ℕ} (machine : Machine) (ps : List (Pair t)) (name : List ℕ) (w : Share) → arrival machine (longs ps) name w ≡ arrival machine (shorts ps) name w
  arrival_same machine ps name w = grind (arith, both_some, short_named, claimed_same, found)

  departure_same : {t : ℕ} (slot : ℕ) (o : Option (Pair t)) → departure slot (option_map long_of o) ≡ departure slot (option_map short_of o)
  departure_same slot o = grind (arith, freeing_slot_same)

  late_same : {t : ℕ} (slot index : ℕ) (o : Option (Pair t)) → late_release slot (option_map long_of o) (index + taken_off left begin (option_map short_of o)) ≡ late_release slot (option_map short_of o) index
  late_same slot index None = refl
  late_same slot index (Some p) =
      let taken = p.taken in
      let now = p.is.next_is in
      let some = p.first in
      let same = release_same p.long p.jobs p.delays p.next p.is p.weighed index in
      grind (arith, nat_tests, cases_lt, or-true)

  decision_same : {t : ℕ} (machine : Machine) (slot : ℕ) (ps : List (Pair t)) (a : Announcement) → decision machine slot (longs ps) (raised left begin (shorts ps) a) ≡ decision machine slot (shorts ps) a
  decision_same machine slot ps a = grind (arith, arrival_same, departure_same, short_named, late_same, found)

  -- ---- and what it does

  effect_paired : {t : ℕ} → begin ≤ t → (ps : List (Pair t)) → NamesApart label (shorts ps) → (a : Announcement) → IsWeighed a → (d : Decision) → ArePaired t (effect t (longs ps) (raised left begin (shorts ps) a) d) (effect t (shorts ps) a d)
  unfolding joins leaves waits_longer
  effect_paired {t} now ps apart (Arrive name w early) h Admitted =
      let p = joins t now name w early h in
      let none : t + 0 * w.period ≡ t = omega arith in
      record {
        pairs = ps ++ p ∷ [];
        longs_are = map-append long_of ps (p ∷ []);
        shorts_are = map-append short_of ps (p ∷ []) ∙ ap (λ n. shorts ps ++ record (newcomer t name w early) { joined = n } ∷ []) none;
      }
  effect_paired now ps apart (Depart name) h (Departing slot) = changed name (with_freeing slot) (with_freeing slot) (leaves slot) ps (each_pair (IsChange name (with_freeing slot) (with_freeing slot) (leaves slot)) (λ p named. (refl, refl)) ps)
  effect_paired {t} now ps apart (Late name index by) h Delayed =
      let n = taken_off left begin (member_named (shorts ps) name) in
      changed name (with_delay (index + n) by) (with_delay index by) (waits_longer index by) ps (each_delayed n ps (taken_each name ps apart))
    where
      each_delayed : (n : ℕ) (qs : List (Pair t)) → AllByRecursion (IsTaken name n) qs → AllByRecursion (IsChange name (with_delay (index + n) by) (with_delay index by) (waits_longer index by)) qs
      each_delayed n [] all = tt
      each_delayed n (q ∷ qs) all = (λ named. (ap (λ k. with_delay (index + k) by q.long) (sym (all.0 named)), refl), each_delayed n qs all.1)
  effect_paired now ps apart (Arrive name w early) h (Departing slot) = record { pairs = ps; longs_are = refl; shorts_are = refl }
  effect_paired now ps apart (Arrive name w early) h Delayed = record { pairs = ps; longs_are = refl; shorts_are = refl }
  effect_paired now ps apart (Arrive name w early) h (Refused why) = record { pairs = ps; longs_are = refl; shorts_are = refl }
  effect_paired now ps apart (Depart name) h Admitted = record { pairs = ps; longs_are = refl; shorts_are = refl }
  effect_paired now ps apart (Depart name) h Delayed = record { pairs = ps; longs_are = refl; shorts_are = refl }
  effect_paired now ps apart (Depart name) h (Refused why) = record { pairs = ps; longs_are = refl; shorts_are = refl }
  effect_paired now ps apart (Late name index by) h Admitted = record { pairs = ps; longs_are = refl; shorts_are = refl }
  effect_paired now ps apart (Late name index by) h (Departing slot) = record { pairs = ps; longs_are = refl; shorts_are = refl }
  effect_paired now ps apart (Late name index by) h (Refused why) = record { pairs = ps; longs_are = refl; shorts_are = refl }

  decided_paired : {t : ℕ} → begin ≤ t → (machine : Machine) (ps : List (Pair t)) → NamesApart label (shorts ps) → (a : Announcement) → IsWeighed a
      → ArePaired t (decided machine t (longs ps) (raised left begin (shorts ps) a)) (decided machine t (shorts ps) a)
  decided_paired {t} now machine ps apart a h = grind (arith, present_paired, decision_same, effect_paired)

  -- all that is said in a slot
  pub record AreDecided (machine : Machine) (t : ℕ) (L S : List Member) (announced : List Said) : Type 0 where
    pub members : ArePaired t (all_decided machine t L (announcements (all_raised left begin machine t S announced))) (all_decided machine t S (announcements announced))
    pub decisions : all_decisions machine t L (announcements (all_raised left begin machine t S announced)) ≡ all_decisions machine t S (announcements announced)

  pub all_paired : {t : ℕ} → begin ≤ t → (machine : Machine) (announced : List Said) → AllByRecursion IsWeighed (announcements announced) → (L S : List Member) → ArePaired t L S → NamesApart label S → AreDecided machine t L S announced
  all_paired now machine [] h L S a apart = record { members = a; decisions = refl }
  all_paired {t} now machine (s ∷ announced) h L S a apart = grind (arith, decided_paired, decision_same, apart_present, apart_effect, all_paired now machine announced h.1)

  -- ---- quanta

  pub ran_paired : {t : ℕ} (name : List ℕ) (L S : List Member) → ArePaired t L S → ArePaired t (change name with_quantum L) (change name with_quantum S)
  unfolding runs
  ran_paired name = on (change name with_quantum) (change name with_quantum) (λ ps. changed name with_quantum with_quantum runs ps (each_pair (IsChange name with_quantum with_quantum runs) (λ p named. (refl, refl)) ps))

  pub later_paired : {t : ℕ} (L S : List Member) → ArePaired t L S → ArePaired (t + 1) L S
  unfolding waits
  later_paired L S a = record { pairs = map waits a.pairs; longs_are = map-map long_of waits a.pairs ∙ a.longs_are; shorts_are = map-map short_of waits a.pairs ∙ a.shorts_are }

  -- what a key and a freeing slot give
  pub keys_paired : {A : Type 0} {t : ℕ} (f : Key → Option ℕ → A) (L S : List Member) → ArePaired t L S → map (λ m. f (next_key m) m.freed_at) S ≡ map (λ m. f (next_key m) m.freed_at) L
  keys_paired {A} {t} f L S a = ap (map given) (sym a.shorts_are) ∙ all a.pairs ∙ ap (map given) a.longs_are
    where
      given : Member → A
      given m = f (next_key m) m.freed_at

      all : (ps : List (Pair t)) → map given (shorts ps) ≡ map given (longs ps)
      all [] = refl
      all (p ∷ ps) = (let key = next_key_same p.long p.jobs p.delays p.next p.is p.weighed p.first in λ i. f (key i) p.long.freed_at ∷ all ps i)

  -- and the lags, once both have joined
  pub lags_paired : {t : ℕ} (time : ℕ) → t ≤ time → (L S : List Member) → ArePaired t L S → map (lag_at time) S ≡ map (lag_at time) L
  lags_paired {t} time now L S a = ap (map (lag_at time)) (sym a.shorts_are) ∙ all a.pairs ∙ ap (map (lag_at time)) a.longs_are
    where
      all : (ps : List (Pair t)) → map (lag_at time) (shorts ps) ≡ map (lag_at time) (longs ps)
      all [] = refl
      all (p ∷ ps) = (λ i. lag_same time p (omega (arith, now, p.by_now)) i ∷ all ps i)

  -- those that may run in slot t
  pub eligible_paired : (t : ℕ) (L S : List Member) → ArePaired t L S
      → ArePaired t (filter (λ m. not (is_departing m) && nat_le (eligible_from m m.next) t) L) (filter (λ m. not (is_departing m) && nat_le (eligible_from m m.next) t) S)
  eligible_paired t = grind (arith, on, kept, eligible_same)

  -- and the index of the named one
  pub index_paired : {t : ℕ} (index_of : Option Member → ℕ) → (index_of None ≡ 0) → ((m : Member) → index_of (Some m) ≡ m.next) → (name : List ℕ) (L S : List Member) → ArePaired t L S
      → index_of (member_named L name) ≡ index_of (member_named S name) + taken_off left begin (member_named S name)
  index_paired {t} index_of none some name L S a = grind (arith, short_named, found)
