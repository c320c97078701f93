-- What a dispatcher has planned: its places, the slots of a replica that is handed in, and two dispatchers that agree.
use Rattle.pfair_table.proofs.Common.{AllByRecursion, Replica, said, numbers_below, apart_nil, Decided, Pick, Settings, Origin, Table, table, places_after, places_from, places_in, table_before, places_before, IsFit, ArePlacesOf, last_or, IsPlanOf, all_among, among_map, IsOrigin, ℕ, zero, suc, ◌-◌, ◌≡◌, refl, sym, ap, ◌∙◌, subst, arith, List, ◌∷◌, ◌++◌, length, map, Some, None, slice_get, [], map-append, ReplicaRows, replica_of, IsReplica, has_torn, frontier, Queue, Roster, is_plannable, decisions, Dispatch, IsInStep, IsKept, IsWholePlan, tables_to, decided_to, min, ◌+◌, ◌≤◌, ◌<◌, Bool, false, IsTrue, Result, Ok, Err, IfErr, IsErrAnd, SlotPlan, Torn, entry_eq, entry_exact, Untorn, Agree, inl, inr, join_second, add-one, IsNextPlan, after_plan, OnePlacing}
use Rattle.pfair_table.proofs.TableLaws.{ordered_from, named_before, label, tables_are_ordered, one_table}
use Rattle.pfair_table.proofs.Keeping.{tables_listed, plan_now, step_now, kept_next, whole_plan, tables_long, plan_of_held, is_of_held}
use Rattle.pfair_table.proofs.PlacesKept.{next_places, follow_on, places_follow_tables}
use Rattle.pfair_table.proofs.Runs.{get_numbers, untorn_left, one_schedule}

-- The places of one more table, and those of the tables that a dispatcher plans.

-- ---- the last of a list

pub last_is : {A B : Type 0} (f : A → B) (d : B) (xs : List A) (n : ℕ) (y : A) → n ≡ length xs - 1 → Some y ≡ slice_get xs n → last_or d (map f xs) ≡ f y
last_is f d [] n y e h = absurd (cc)
last_is f d (x ∷ []) zero y e h = ap f (let same : x ≡ y = cc in same)
last_is f d (x ∷ []) (suc n) y e h = absurd (omega (arith, e))
last_is f d (x ∷ z ∷ zs) zero y e h = absurd (omega (arith, e))
last_is f d (x ∷ z ∷ zs) (suc n) y e h = last_is f d (z ∷ zs) n y (omega (arith, e)) h

last_all : {A : Type 0} (P : A → Type 0) (d : A) (xs : List A) → P d → AllByRecursion P xs → P (last_or d xs)
last_all P d [] h all = h
last_all P d (x ∷ xs) h all = last_all P x xs all.0 all.1

-- ---- one more table

places_more : (before : Table) (old : List ℕ) (tables : List Table) (now : Table)
    → places_from before old (tables ++ now ∷ []) ≡ places_from before old tables ++ places_after (last_or before tables) (last_or old (places_from before old tables)) now ∷ []
places_more before old [] now = refl
places_more before old (x ∷ tables) now = ap (λ (ps : List (List ℕ)). places_after before old x ∷ ps) (places_more x (places_after before old x) tables now)

pub next_are : (o : Origin) (tables : List Table) (now : Table)
    → places_in o (tables ++ now ∷ []) ≡ places_in o tables ++ places_after (last_or (table_before o) tables) (last_or (places_before o) (places_in o tables)) now ∷ []
next_are o tables now = places_more (table_before o) (places_before o) tables now

-- ---- the last places

pub last_places : (m : ℕ) (before : Table) (old : List ℕ) → ArePlacesOf m before old → (tables : List Table) → AllByRecursion (IsFit m) tables → ArePlacesOf m (last_or before tables) (last_or old (places_from before old tables))
last_places m before old are [] fit = are
last_places m before old are (now ∷ tables) fit = last_places m now (places_after before old now) (next_places m before old are now fit.0) tables fit.1

-- ---- what a dispatcher plans

-- the tables of a plan are fit
pub fit_plan : {o : Origin} {s : Settings} {replica of : Replica} {tables : List Table} {decided : List (List Decided)} → IsOrigin o s → IsPlanOf o s replica of tables decided → AllByRecursion (IsFit s.processors) tables
fit_plan {o} {s} {of} {tables} began plan =
    subst (AllByRecursion (IsFit s.processors)) (sym (plan.tables_are ∙ tables_listed o s of (length tables)))
    (all_among (IsFit s.processors) (map (table o s (said of)) (numbers_below (length tables)))
    (λ rows h. (let t = among_map (table o s (said of)) (numbers_below (length tables)) rows h in
    let fit = ordered_from o s (named_before o s began) (said of) t.0 in
    subst (IsFit s.processors) (sym t.2) fit.0)))

pub last_fit : (m : ℕ) (before : Table) (tables : List Table) → IsFit m before → AllByRecursion (IsFit m) tables → IsFit m (last_or before tables)
last_fit m before tables = last_all (IsFit m) before tables

-- so is what a run takes over
pub fit_before : (o : Origin) (s : Settings) → IsOrigin o s → IsFit s.processors (table_before o)
fit_before None s began = (omega arith, apart_nil (λ (p : Pick). p.name))
fit_before (Some c) s began = began.rows

-- What plans slots of a replica that is handed in is in step with that.

-- ---- the slots so far

-- only memory was missing
pub memory_only : {A F : Type 0} {memory : F} (P : F → Type 0) (r : Result A F) → IsErrAnd r (λ f. f ≡ memory) → P memory → IfErr r P
memory_only P (Ok x) e p = tt
memory_only P (Err f) e p = subst P (sym e) p

-- what is seen of a replica, if n slots are planned of what was held before
abbrev pub at_slot : Settings → ReplicaRows → ReplicaRows → ℕ → Bool → Dispatch
at_slot s x of n spent = record { settings = s; origin = None; replica = x; tables = tables_to None s of n; decided = decided_to None s of n; forgotten = n; spent = spent }

-- and what the next plan of that answers
module _ (of : ReplicaRows) (n : ℕ) {s : Settings} {x : ReplicaRows} {spent : Bool} {d : Dispatch} (view : at_slot s x of n spent ≡ d) where
  planned_are : n ≡ length d.tables
  planned_are = sym (tables_long None s of n) ∙ ap (λ (e : Dispatch). length e.tables) view

  settings_are : s ≡ d.settings
  settings_are = ap (λ (e : Dispatch). e.settings) view

  pub plannable : is_plannable s (replica_of d.replica) n ≡ is_plannable d.settings (replica_of d.replica) (length d.tables)
  plannable = λ i. is_plannable (settings_are i) (replica_of d.replica) (planned_are i)

  pub next_plan : (next : SlotPlan) → IsTrue (is_plannable s (replica_of d.replica) n) → s.processors ≤ 64
      → next.table.items ≡ table None s (said (replica_of d.replica)) n → next.decided.items ≡ decisions None s (said (replica_of d.replica)) n → IsNextPlan d (Some next)
  next_plan next can most table_is decided_is =
      let fit = (tables_are_ordered None s (replica_of d.replica) n (apart_nil label)).0 in
      grind (arith, fit, plannable, planned_are)

pub within : (of : ReplicaRows) (n : ℕ) {s : Settings} {x : Replica} {spent : Bool} {roster : Roster} {now : ℕ} {waiting : Queue} → IsKept None s x (tables_to None s of n) (decided_to None s of n) spent roster now waiting → n ≤ s.slots
within of n {s} kept = omega (arith, kept.plan.wanted, tables_long None s of n)

module _ (of : ReplicaRows) (n : ℕ) {s : Settings} {x : ReplicaRows} {spent : Bool} {roster : Roster} {now : ℕ} {waiting : Queue} (kept : IsKept None s (replica_of x) (tables_to None s of n) (decided_to None s of n) spent roster now waiting) where
  module _ {d : Dispatch} (view : at_slot s x of n spent ≡ d) (sound : IsReplica (replica_of d.replica)) (test : has_torn (replica_of d.replica) ≡ false) where
    abbrev y : Replica
    y = replica_of d.replica

    pub kept_of : IsKept None s y (tables_to None s of n) (decided_to None s of n) spent roster now waiting
    kept_of = subst (λ (h : ReplicaRows). IsKept None s (replica_of h) (tables_to None s of n) (decided_to None s of n) spent roster now waiting) (ap (λ (e : Dispatch). e.replica) view) kept

    pub step_seen : spent ≡ false → IsInStep None s y n roster now waiting
    step_seen able = subst (λ k. IsInStep None s y k roster now waiting) (tables_long None s of n) (step_now kept_of sound test able)

    pub whole_seen : min (frontier y) s.slots ≤ n → IsWholePlan d
    whole_seen far =
        let long = tables_long None s of n in
        subst IsWholePlan (ap (λ (h : ReplicaRows). at_slot s h of n spent) (sym (ap (λ (e : Dispatch). e.replica) view)) ∙ view) (whole_plan kept_of sound test (omega (arith, far, long)))

    tables_more : tables_to None s d.replica (n + 1) ≡ tables_to None s of n ++ table None s (said y) n ∷ []
    tables_more = ap (tables_to None s d.replica) (add-one n) ∙ ap (λ (ts : List Table). ts ++ table None s (said y) n ∷ []) (sym ((plan_now kept_of sound test).tables_are ∙ ap (tables_to None s d.replica) (tables_long None s of n)))

    decided_more : decided_to None s d.replica (n + 1) ≡ decided_to None s of n ++ decisions None s (said y) n ∷ []
    decided_more =
        ap (decided_to None s d.replica) (add-one n) ∙ map-append (decisions None s (said y)) (numbers_below n) (n ∷ [])
        ∙ ap (λ (ds : List (List Decided)). ds ++ decisions None s (said y) n ∷ []) (sym ((plan_now kept_of sound test).decided_are ∙ ap (decided_to None s d.replica) (tables_long None s of n)))

    pub kept_seen : {z : ReplicaRows} {spent2 : Bool} {roster2 : Roster} {now2 : ℕ} {waiting2 : Queue} → z ≡ d.replica → n < frontier y → n < s.slots → IsInStep None s y (n + 1) roster2 now2 waiting2
        → IsKept None s (replica_of x) (tables_to None s z (n + 1)) (decided_to None s z (n + 1)) spent2 roster2 now2 waiting2
    kept_seen {roster2} {now2} {waiting2} same early wanted step = grind (arith, tables_long, kept_next, kept_of, tables_more, table, decided_more)

    pub seen_after : {z : ReplicaRows} (next : SlotPlan) → z ≡ d.replica → next.table.items ≡ table None s (said y) n → next.decided.items ≡ decisions None s (said y) n → at_slot s x z (n + 1) spent ≡ after_plan d (Some next)
    seen_after next same table_is decided_is = grind (arith, tables_more, decided_more, planned_are, tables_long, add-one, table, plan_now, kept_of, map-append)

-- Two dispatchers whose replicas agree have planned alike.

pub untorn_right : (x y : Replica) → Agree x y → Untorn y
untorn_right x y agree k n torn = elim (join_second entry_eq entry_exact (x.at k n) (y.at k n) Torn torn) [ inl h ↦ agree k n h | inr h ↦ agree k n h ]

-- what a slot so far has been planned of the contents
planned_there : {o : Origin} {s : Settings} {x : Replica} {tables : List Table} {decided : List (List Decided)} → IsPlanOf o s x x tables decided → (t : ℕ) → t < length tables
    → (slice_get tables t ≡ Some (table o s (said x) t)) × (slice_get decided t ≡ Some (decisions o s (said x) t))
planned_there {o} {s} {x} {tables} plan t l = grind (arith, plan, tables_listed o s x (length tables), get_numbers (table o s (said x)) (length tables) t l, get_numbers (decisions o s (said x)) (length tables) t l)

-- two dispatchers have the tables and decisions of what either holds, for each slot that both have planned
pub kept_alike : {o q : Origin} {s r : Settings} {x y : Replica} {tx ty : List Table} {dx dy : List (List Decided)} {bx by : Bool} {mx my : Roster} {nx ny : ℕ} {hx hy : Queue}
    → IsKept o s x tx dx bx mx nx hx → IsKept q r y ty dy by my ny hy → IsReplica x → IsReplica y → s ≡ r → o ≡ q → Agree x y → (t : ℕ) → t < length tx → t < length ty
    → (slice_get tx t ≡ Some (table o s (said x) t)) × (slice_get ty t ≡ Some (table o s (said x) t)) × (slice_get dx t ≡ Some (decisions o s (said x) t)) × (slice_get dy t ≡ Some (decisions o s (said x) t))
kept_alike {o} {s} {x} {y} {tx} {ty} {dx} {dy} {by} {my} {ny} {hy} kx k sound_x sound_y same began agree t lx ly =
    let ky = subst (λ (a : Origin × Settings). IsKept a.0 a.1 y ty dy by my ny hy) (λ i. (sym began i, sym same i)) k in
    let of_x = is_of_held kx sound_x in
    let of_y = is_of_held ky sound_y in
    let px = plan_of_held kx.plan of_x (untorn_left x y agree) in
    let py = plan_of_held ky.plan of_y (untorn_right x y agree) in
    let alike = one_table o s x y of_x of_y agree t (omega (arith, lx, px.early)) (omega (arith, ly, py.early)) in
    let there = planned_there py t ly in
    ((planned_there px t lx).0, there.0 ∙ ap Some (sym alike.0), (planned_there px t lx).1, there.1 ∙ ap Some (sym alike.1))

-- the places of a slot that both have planned: up to it both have the same tables
pub placed_alike : {o q : Origin} {s r : Settings} {x y : Replica} {tx ty : List Table} {dx dy : List (List Decided)} {bx by : Bool} {mx my : Roster} {nx ny : ℕ} {hx hy : Queue}
    → IsKept o s x tx dx bx mx nx hx → IsKept q r y ty dy by my ny hy → IsReplica x → IsReplica y → s ≡ r → o ≡ q → Agree x y → (t : ℕ) → t < length tx → t < length ty
    → slice_get (places_in o tx) t ≡ slice_get (places_in q ty) t
placed_alike {o} {tx} {ty} kx ky sound_x sound_y same began agree t lx ly =
    follow_on (table_before o) (places_before o) tx ty t (λ u l.
    (let alike = kept_alike kx ky sound_x sound_y same began agree u (omega (arith, l, lx)) (omega (arith, l, ly)) in
    alike.0 ∙ sym alike.1))
    ∙ ap (λ p. slice_get (places_in p ty) t) began

-- the same, after any events
pub one_placing : OnePlacing
one_placing o s m n es fs all_es all_fs agree t lc ld = grind (arith, places_follow_tables, one_schedule)
