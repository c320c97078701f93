-- What a finished run leaves can be taken over by a next run, and finished runs that agree leave the same.
use Rattle.pfair_table.proofs.Common.{or_parts, AllByRecursion, nat_list_eq_equiv, length-append, name_eq, apart_nil, apart_push, Machine, Member, Pick, AreLeftAt, IsCarried, IsSettings, IsState, with_row, AllDiffer, ArePlacesOf, IsFit, is_used, Carried, Settings, Table, names_task, ℕ, ◌≡◌, ◌≢◌, ◌<◌, ◌∙◌, refl, arith, false, List, ◌∷◌, ◌++◌, length, [], all_by_recursion_push, Announcement, Said, IsWithinLimits, IsWeighed, announcements, all_among, among_contains, among_map, Replica, IsReplica, said, read_by_number, ◌+◌, subst, sym, Option, apart_map, boundary, is_freed, ran, with_quantum, carried, CanBeCarried, both, each, each_map, each_change, IsOrigin, Origin, Story, machine, members_before, slot_of, all_ran, history, table, world, zero, suc, ap, Some, None, map, nat_tests, IsLeftAt, HasBegun, IsBegun, IsWeighedStory, IsNextStep, ReplicaRows, replica_of, has_torn, same_said, Queue, Roster, Decided, CanBeFollowed, IsFinished, IsNextRunFault, IsResumeFault, LeaveAlike, left_by, members_left, table_before, places_before, places_in, last_or, Dispatch, IsKept, members_after, ◌≤◌, Bool, Result, IfErr, Step, Done, LAST_SLOT, IfSome, IsNotBefore, frame_boundary, frame_carried, frame_ran, none_freed_boundary, room_boundary, room_carried, room_ran, left_carried}
use Rattle.pfair_replica.proofs.SaidListed.{is_said}
use Rattle.pfair_admission.specs.Laws.{AreInFrame, HaveRoom}
use Rattle.pfair_table.proofs.TableLaws.{label, named_before, named_history, same_history}
use Rattle.pfair_table.proofs.RunsOn.{begun_over, slot_more}
use Rattle.pfair_table.specs.declared.answer.NextRunFault.{NextRunFault}
use Rattle.pfair_table.proofs.Alike.{untorn_right, fit_before, fit_plan, last_fit, last_places}
use Rattle.pfair_table.proofs.Keeping.{is_of_held, plan_now, step_now, plan_of_held}
use Rattle.pfair_table.proofs.PlacesKept.{places_before_are}
use Rattle.pfair_table.proofs.Runs.{untorn_left}

-- What a run can begin with, and what settings a run has that does.

pub none_left : (t : ℕ) (machine : Machine) → AreLeftAt t machine []
none_left t machine = record { named = apart_nil (λ (m : Member). m.name); room = omega arith; in_frame = tt; left = tt }

-- ---- rows

pub no_rows : (n : ℕ) → IsFit n [] × ArePlacesOf n [] []
no_rows n = ((omega arith, apart_nil (λ (p : Pick). p.name)), record { one_each = refl; below = tt; differ = tt })

differ_push : (places : List ℕ) (k : ℕ) → AllByRecursion (λ j. j ≢ k) places → AllDiffer places → AllDiffer (places ++ k ∷ [])
differ_push [] k free differ = (tt, tt)
differ_push (j ∷ places) k free differ = grind (arith, all_by_recursion_push, differ_push places k free.1 differ.1)

unnamed : (name : List ℕ) (rows : Table) → names_task name rows ≡ false → AllByRecursion (λ (q : Pick). name_eq q.name name ≡ false) rows
unnamed name [] e = tt
unnamed name (q ∷ rows) e = (let none = or_parts (name_eq name q.name) (names_task name rows) e in (nat_list_eq_equiv.symm q.name name ∙ none.0, unnamed name rows none.1))

unused : (k : ℕ) (places : List ℕ) → is_used places k ≡ false → AllByRecursion (λ j. j ≢ k) places
unused k [] e = tt
unused k (j ∷ places) e = grind (arith, or_parts, unused k places)

pub row_fits : (c : Carried) (p : Pick) (k : ℕ) → IsState c → length c.table < c.machine.processors → k < c.machine.processors → names_task p.name c.table ≡ false → is_used c.places k ≡ false
    → IsState (with_row c p k)
row_fits c p k state few is_one none_named none_used =
    let rows = state.rows in
    let places = state.places in record {
      processors = state.processors;
      frame = state.frame;
      members = state.members;
      early = state.early;
      rows = (omega (arith, few, length-append {A = Pick}), apart_push (λ (q : Pick). q.name) c.table p (unnamed p.name c.table none_named) rows.1);
      places = grind (arith, length-append, all_by_recursion_push, differ_push, unused);
    }

-- ---- settings

pub state_of : (s : Settings) (slots : ℕ) (c : Carried) → IsSettings s → IsCarried (record s { slots = slots }) c → IsState c
state_of s slots c limits taken = grind arith

-- What is said is within the limits of announcements.

abbrev pub AreWithinLimits : List Said → Type 0
AreWithinLimits announced = AllByRecursion (λ a. IsWithinLimits a.announcement) announced

-- each announcement that a replica says at a slot is within its limits
pub said_within : (x : Replica) → IsReplica x → (t : ℕ) → AreWithinLimits (said x t)
said_within x sound t = all_among (λ a. IsWithinLimits a.announcement) (said x t) (λ a h.
    (let at = ((is_said.members x t a).0 (among_contains (said x t) a h)).1 in
    let entry = sound.stamped a.proc (at.0 + 1) at.1 (read_by_number.entry x a.proc at.0 at.1 at.3) in
    subst (λ (o : Option (ℕ × Announcement)). IfSome o (λ s. IsWithinLimits s.1)) at.4 entry.within_limits))

-- and each arrival among them has a weight
pub said_weighed : (x : Replica) → IsReplica x → (t : ℕ) → AllByRecursion IsWeighed (announcements (said x t))
said_weighed x sound t = all_among IsWeighed (announcements (said x t)) (λ a h.
    (let p = among_map (λ (q : Said). q.announcement) (said x t) a h in
    let at = ((is_said.members x t p.0).0 (among_contains (said x t) p.0 p.1)).1 in
    let entry = sound.stamped p.0.proc (at.0 + 1) at.1 (read_by_number.entry x p.0.proc at.0 at.1 at.3) in
    subst IsWeighed (sym p.2) (subst (λ (o : Option (ℕ × Announcement)). IfSome o (λ s. IsWeighed s.1)) at.4 entry.weighed)))

-- What a run leaves is what a next run can begin with, wherever it began.

-- ---- a table's rows

by_rows : (P : List Member → Type 0) → ((name : List ℕ) (members : List Member) → P members → P (ran name members)) → (rows : Table) (members : List Member) → P members → P (all_ran rows members)
by_rows P keeps [] members h = h
by_rows P keeps (p ∷ rows) members h = by_rows P keeps rows (ran p.name members) (keeps p.name members h)

-- ---- a run from where it began

has_begun : (t : ℕ) (m : Member) → IsLeftAt t m → HasBegun (t + 0) m
has_begun t m left = record { weighed = left.weighed; first = left.first; joined = omega (arith, ap (λ (x : Member). x.joined) left.again, left.joined) }

pub begins : (o : Origin) (s : Settings) → IsOrigin o s → IsBegun o
begins None s began = record { named = apart_nil label; begun = tt }
begins (Some c) s began = record { named = began.members.named; begun = each (IsLeftAt c.slot) (HasBegun (c.slot + 0)) (has_begun c.slot) c.members began.members.left }

-- what is not freed at a slot is not freed before the next
not_before : (t : ℕ) (slot : Option ℕ) → is_freed t slot ≡ false → IsNotBefore (Some (suc t)) slot
not_before t None h = tt
not_before t (Some slot) h = grind (arith, nat_tests)

module _ (o : Origin) (s : Settings) (began : IsOrigin o s) (story : Story) where
  -- what boundaries and quanta keep holds of the members in each slot
  by_slots : (P : List Member → Type 0) → P (members_before o) → ((t : ℕ) (members : List Member) (announced : List Announcement) → P members → P (boundary (machine s) t members announced))
      → ((name : List ℕ) (members : List Member) → P members → P (ran name members)) → (t : ℕ) → P (history o s story t).members
  by_slots P first boundaries quanta zero = first
  by_slots P first boundaries quanta (suc t) =
      let h = history o s story t in
      by_rows P quanta (table o s story t) (world o s story t) (boundaries (slot_of o t) h.members (announcements (story t)) (by_slots P first boundaries quanta t))

  room_over : (t : ℕ) → HaveRoom (machine s) (history o s story t).members
  room_over = by_slots (HaveRoom (machine s)) (first o began) (room_boundary (machine s)) (room_ran (machine s))
    where
      first : (o : Origin) → IsOrigin o s → HaveRoom (machine s) (members_before o)
      first None began = omega arith
      first (Some c) began = subst (λ (m : Machine). HaveRoom m c.members) began.machine_is began.members.room

  frame_over : (t : ℕ) → AreInFrame (machine s) (history o s story t).members
  frame_over = by_slots (AreInFrame (machine s)) (first o began) (frame_boundary (machine s)) (frame_ran (machine s))
    where
      first : (o : Origin) → IsOrigin o s → AreInFrame (machine s) (members_before o)
      first None began = tt
      first (Some c) began = subst (λ (m : Machine). AreInFrame m c.members) began.machine_is began.members.in_frame

  -- who is freed before a slot is gone
  abbrev Stay : ℕ → List Member → Type 0
  Stay t members = AllByRecursion (λ m. IsNotBefore (Some t) m.freed_at) members

  stay_over : (t : ℕ) → Stay (slot_of o t) (history o s story t).members
  stay_over zero = first o began
    where
      first : (o : Origin) → IsOrigin o s → Stay (slot_of o 0) (members_before o)
      first None began = tt
      first (Some c) began = subst (λ n. Stay n c.members) (let n : c.slot ≡ c.slot + 0 = omega arith in n) (each (IsLeftAt c.slot) (λ m. IsNotBefore (Some c.slot) m.freed_at) (λ m left. left.freed_at) c.members began.members.left)
  stay_over (suc t) =
      let at = slot_of o t in
      let h = history o s story t in
      let world = world o s story t in
      let stay : Stay (suc at) world = each (λ (m : Member). is_freed at m.freed_at ≡ false) (λ m. IsNotBefore (Some (suc at)) m.freed_at) (λ m. not_before at m.freed_at) world (none_freed_boundary (machine s) at h.members (announcements (story t))) in
      subst (λ n. Stay n (history o s story (suc t)).members) (sym (slot_more o t))
      (by_rows (Stay (suc at)) (λ name. each_change (λ m. IsNotBefore (Some (suc at)) m.freed_at) (λ m. IsNotBefore (Some (suc at)) m.freed_at) name with_quantum (λ m h. h) (λ m h. h)) (table o s story t) world stay)

  -- so what is left can be restored
  pub all_left : IsWeighedStory story → (n : ℕ) → AllByRecursion CanBeCarried (history o s story n).members → AreLeftAt (slot_of o n) (machine s) (map carried (history o s story n).members)
  all_left weights n able =
      let members = (history o s story n).members in
      let t = slot_of o n in
      record {
        named = apart_map label label carried (λ m. refl) members (named_history o s (named_before o s began) story n);
        room = room_carried (machine s) members (room_over n);
        in_frame = frame_carried (machine s) members (frame_over n);
        left = each_map (λ m. IsLeftAt t (carried m)) (IsLeftAt t) carried (λ m left. left) members
            (both (HasBegun t) (λ m. CanBeCarried m × IsNotBefore (Some t) m.freed_at) (λ m. IsLeftAt t (carried m)) (λ m b more. left_carried t m b.weighed more.0 b.first b.joined more.1) members (begun_over o s (begins o s began) story weights n)
            (both CanBeCarried (λ m. IsNotBefore (Some t) m.freed_at) (λ m. CanBeCarried m × IsNotBefore (Some t) m.freed_at) (λ m can stays. (can, stays)) members able (stay_over n)));
      }

-- ---- a finished dispatcher, as it is seen

pub finished_seen : {o : Origin} {s : Settings} {x : ReplicaRows} {tables : List Table} {decided : List (List Decided)} {forgotten : ℕ} {spent : Bool} {d : Dispatch} {n : ℕ} {step : Step}
    → record { settings = s; origin = o; replica = x; tables = tables; decided = decided; forgotten = forgotten; spent = spent } ≡ d → (has_torn (replica_of x) ≡ false) × (spent ≡ false)
    → n ≡ length tables → IsNextStep s (replica_of x) n step → step ≡ Done → IsFinished d
finished_seen {s} {x} {n} seen able long is done = grind arith

module _ {o : Origin} {s : Settings} {x : ReplicaRows} {tables : List Table} {decided : List (List Decided)} {forgotten : ℕ} {spent : Bool} {roster : Roster} {now : ℕ} {waiting : Queue} (kept : IsKept o s (replica_of x) tables decided spent roster now waiting) (sound : IsReplica (replica_of x)) (d : Dispatch) (seen : record { settings = s; origin = o; replica = x; tables = tables; decided = decided; forgotten = forgotten; spent = spent } ≡ d) (finished : IsFinished d) where
  inside : IsFinished (record { settings = s; origin = o; replica = x; tables = tables; decided = decided; forgotten = forgotten; spent = spent })
  inside = subst IsFinished (sym seen) finished

  long : length tables ≡ s.slots
  long = omega (arith, kept.plan.wanted, inside.all)

  -- the tables are those of all slots
  all_tables : tables ≡ (history o s (said (replica_of x)) s.slots).tables
  all_tables = (plan_now kept sound inside.whole).tables_are ∙ ap (λ n. (history o s (said (replica_of x)) n).tables) long

  -- and the members are those after the last slot
  last_members : roster.members ≡ members_after o s (replica_of x) s.slots
  last_members = (step_now kept sound inside.whole inside.able).members_are ∙ ap (members_after o s (replica_of x)) long

  pub left_seen : roster.members ≡ members_left d
  left_seen = last_members ∙ ap members_left seen

  -- So with their jobs taken off they are what is left, and a next run can begin with them.
  module _ (c : Carried) (slot_is : c.slot ≡ slot_of o s.slots) (machine_is : c.machine ≡ roster.machine) (members_are : c.members ≡ map carried roster.members) (table_is : c.table ≡ last_or (table_before o) tables) (places_are : c.places ≡ last_or (places_before o) (places_in o tables)) where
    on_machine : c.machine ≡ machine s
    on_machine = machine_is ∙ (step_now kept sound inside.whole inside.able).machine_is

    all_carried : c.members ≡ map carried (members_after o s (replica_of x) s.slots)
    all_carried = members_are ∙ ap (map carried) last_members

    pub left_is : c ≡ left_by d
    left_is =
        (λ i. record {
          slot = slot_is i;
          machine = on_machine i;
          members = all_carried i;
          table = (table_is ∙ ap (last_or (table_before o)) all_tables) i;
          places = (places_are ∙ ap (λ (ts : List Table). last_or (places_before o) (places_in o ts)) all_tables) i;
        }) ∙ ap left_by seen

    pub left_state : IsSettings s → AllByRecursion CanBeCarried roster.members → c.slot ≤ LAST_SLOT → IsState c
    left_state limits able early =
        let fit = fit_plan kept.began kept.plan in
        let left = all_left o s kept.began (said (replica_of x)) (said_weighed (replica_of x) sound) s.slots (subst (AllByRecursion CanBeCarried) last_members able) in
        state_of s 0 c limits (record {
          machine_is = on_machine;
          members = subst (λ (p : ℕ × Machine × List Member). AreLeftAt p.0 p.1 p.2) (λ i. (sym slot_is i, sym on_machine i, sym all_carried i)) left;
          in_time = omega (arith, early);
          rows = subst (IsFit s.processors) (sym table_is) (last_fit s.processors (table_before o) tables (fit_before o s kept.began) fit);
          places = subst (λ (p : Table × List ℕ). ArePlacesOf s.processors p.0 p.1) (λ i. (sym table_is i, sym places_are i)) (last_places s.processors (table_before o) (places_before o) (places_before_are o s kept.began) tables fit);
        })

-- ---- a run that is resumed with what is left

pub fault_seen : {A : Type 0} (r : Result A NextRunFault) (d : Dispatch) (c : Carried) (slots : ℕ) → c ≡ left_by d → CanBeFollowed d slots → IfErr r (IsResumeFault c slots) → IfErr r (IsNextRunFault d slots)
fault_seen r d c slots is can fault = (let slot_is = ap (λ (e : Carried). e.slot) is in grind (arith, slot_is, can.within))

-- Of finished runs that began alike and hold what agrees, a next run takes over the same.
pub left_alike : {o q : Origin} {s r : Settings} {x y : ReplicaRows} {tx ty : List Table} {dx dy : List (List Decided)} {bx by : Bool} {fx fy : ℕ} {mx my : Roster} {nx ny : ℕ} {hx hy : Queue}
    → IsKept o s (replica_of x) tx dx bx mx nx hx → IsKept q r (replica_of y) ty dy by my ny hy → IsReplica (replica_of x) → IsReplica (replica_of y)
    → LeaveAlike (record { settings = s; origin = o; replica = x; tables = tx; decided = dx; forgotten = fx; spent = bx }) (record { settings = r; origin = q; replica = y; tables = ty; decided = dy; forgotten = fy; spent = by })
left_alike {o} {q} {s} {r} {x} {y} {tx} {ty} kx ky sound_x sound_y same began agree fx fy =
    let of_x = is_of_held kx sound_x in
    let of_y = is_of_held ky sound_y in
    let px = plan_of_held kx.plan of_x (untorn_left (replica_of x) (replica_of y) agree) in
    let py = plan_of_held ky.plan of_y (untorn_right (replica_of x) (replica_of y) agree) in
    let slots_are = ap (λ (a : Settings). a.slots) same in
    let processors_are = ap (λ (a : Settings). a.processors) same in
    let all_x = fx.all in
    let all_y = fy.all in
    let said_alike : (u : ℕ) → u < s.slots → said (replica_of x) u ≡ said (replica_of y) u =
    λ u l. same_said (replica_of x) (replica_of y) sound_x sound_y (of_x.processors ∙ processors_are ∙ sym of_y.processors) agree u (omega (arith, l, px.early, all_x)) (omega (arith, l, py.early, all_y, slots_are)) in
    let past : history o s (said (replica_of x)) s.slots ≡ history q r (said (replica_of y)) r.slots =
    same_history o s (said (replica_of x)) (said (replica_of y)) s.slots said_alike ∙ (λ i. history (began i) (same i) (said (replica_of y)) (same i).slots) in
    grind (arith, map)
