-- What a dispatcher is seen as, and what its parts have to do with the definitions.
use Rattle.std.specs.Prelude.{ℕ, zero, suc, ◌+◌, ◌≡◌, ◌≤◌, ◌<◌, Bool, true, false, IsTrue, List, length, map, Some, slice_get, [], ◌∷◌, ◌++◌, Option, None}
use Rattle.pfair_replica.specs.Replica.{ReplicaRows, replica_of, Replica, Below, Untorn, Agree, frontier, has_torn, torn_keys, said, numbers_below}
use Rattle.pfair_replica.specs.Faults.{IsTakeFaultOf, IsMergeFaultOf}
use Rattle.pfair_ready.specs.Queue.{Queue, NameValue as Name}
use Rattle.pfair_admission.specs.Member.{Member}
use Rattle.pfair_admission.specs.Admission.{Roster}
use Rattle.pfair_table.specs.declared.slot.Decided.{Decided}
use Rattle.pfair_table.specs.declared.answer.Step.{Step}
use Rattle.pfair_table.specs.declared.answer.Step.TheVariants.{Planned, Waiting, Done}
use Rattle.pfair_table.specs.declared.answer.PlanFault.{PlanFault}
use Rattle.pfair_table.specs.declared.answer.PlanFault.TheVariants.{Torn, Spent, Memory}
use Rattle.pfair_table.specs.declared.script.TheConstants.Script.{LONGEST_LOG}
use Rattle.pfair_table.specs.Table.{Settings, Origin, Table, machine, slot_of, history, table, decisions, plan, plan_decisions, names_task}
use Rattle.pfair_table.specs.declared.run.Event.{Event}
use Rattle.pfair_table.specs.declared.run.Event.TheVariants.{Take, Absorb, Plan}
use Rattle.pfair_table.specs.Events.{Course, is_plannable, IsOf, IsEvent, begin_at, run}
use Rattle.pfair_table.specs.Places.{IsOrigin, place_of, places_in, table_before, places_before, IsFit, ArePlacesOf}
use Rattle.pfair_table.specs.Planning.{IsSteady}
use Rattle.std.specs.List.{AllByRecursion}
use Rattle.pfair_table.specs.declared.settings.TheConstants.Settings.{MAX_PROCESSORS}
use Rattle.pfair_table.specs.declared.slot.SlotPlan.{SlotPlan}
use Rattle.pfair_table.specs.declared.answer.NextRunFault.{NextRunFault}
use Rattle.pfair_table.specs.declared.answer.RunFault.{RunFault}
use Rattle.pfair_replica.specs.declared.answer.TakeFault.TheVariants as take
use Rattle.pfair_replica.specs.declared.answer.MergeFault.TheVariants as merge
use Rattle.pfair_table.specs.declared.answer.NextRunFault.TheVariants as next
use Rattle.pfair_table.specs.declared.answer.RunFault.TheVariants as run

-- A dispatcher, as a contract sees it: the tables are those of all slots that were planned, and its calls answer for those from
-- `forgotten` on.
pub record Dispatch : Type 0 where
  pub settings : Settings
  pub origin : Origin
  pub replica : ReplicaRows
  pub tables : List Table
  pub decided : List (List Decided)
  pub forgotten : ℕ
  pub spent : Bool

abbrev pub course_of : Dispatch → Course
course_of d = record { origin = d.origin; replica = replica_of d.replica; tables = d.tables; decided = d.decided }

-- ---- answers

-- what becomes of slot n, the next one, if nothing is torn or spent
abbrev pub IsNextStep : Settings → Replica → ℕ → Step → Type 0
IsNextStep s x n (Planned slot) = (slot ≡ n) × IsTrue (is_plannable s x slot)
IsNextStep s x n (Waiting from) = (n < s.slots) × (from ≡ frontier x) × (from ≤ n)
IsNextStep s x n Done = s.slots ≤ n

-- and else why nothing is planned
abbrev pub IsNoStep : Replica → Bool → PlanFault → Type 0
IsNoStep x spent (Torn proc number) = (has_torn x ≡ true) × (slice_get (torn_keys x) 0 ≡ Some (proc, number))
IsNoStep x spent Spent = (has_torn x ≡ false) × (spent ≡ true)
IsNoStep x spent Memory = ⊥

-- what a plan answers if nothing is torn or spent
abbrev pub IsStepOf : Dispatch → Step → Type 0
IsStepOf d step = IsNextStep d.settings (replica_of d.replica) (length d.tables) step

-- why a plan is refused
abbrev pub IsPlanFault : Dispatch → PlanFault → Type 0
IsPlanFault d (Torn proc number) = (has_torn (replica_of d.replica) ≡ true) × (slice_get (torn_keys (replica_of d.replica)) 0 ≡ Some (proc, number))
IsPlanFault d Spent = (has_torn (replica_of d.replica) ≡ false) × (d.spent ≡ true)
IsPlanFault d Memory = (d.spent ≡ false) × IsTrue (is_plannable d.settings (replica_of d.replica) (length d.tables))

-- at such an event an allocation can fail: it brings something for a key without contents, or a slot can be planned
abbrev pub CanFail : Dispatch → Event → Type 0
CanFail d (Take proc number entry) = IsTakeFaultOf d.replica proc number take.Memory
CanFail d (Absorb other) = IsMergeFaultOf d.replica other merge.Memory
CanFail d Plan = IsPlanFault d Memory

-- what stands after that
abbrev pub after_fault : Dispatch → PlanFault → Dispatch
after_fault d Memory = record d { spent = true }
after_fault d _ = d

-- why nothing is reopened
abbrev pub IsReopenFault : Dispatch → PlanFault → Type 0
IsReopenFault d (Torn proc number) = (has_torn (replica_of d.replica) ≡ true) × (slice_get (torn_keys (replica_of d.replica)) 0 ≡ Some (proc, number))
IsReopenFault d Spent = ⊥
IsReopenFault d Memory = has_torn (replica_of d.replica) ≡ false

-- ---- where plans have come as far as they can

-- nothing more can be planned of the contents
abbrev pub IsLast : Step → Type 0
IsLast (Planned slot) = ⊥
IsLast (Waiting from) = Unit {0}
IsLast Done = Unit {0}

-- the tables are the whole plan of the contents, and the decisions are those of its slots
pub record IsWholePlan (d : Dispatch) : Type 0 where
  pub tables_are : d.tables ≡ plan d.origin d.settings (replica_of d.replica)
  pub decided_are : d.decided ≡ plan_decisions d.origin d.settings (replica_of d.replica)

-- ---- the refinement

-- The tables and decisions so far are those of a replica that is still held: whole, and settled for as many slots.
pub record IsPlanOf (o : Origin) (s : Settings) (replica of : Replica) (tables : List Table) (decided : List (List Decided)) : Type 0 where
  pub is_of : IsOf s of
  pub kept : Below of replica
  pub whole : Untorn of
  pub early : length tables ≤ frontier of
  pub wanted : length tables ≤ s.slots
  pub tables_are : tables ≡ (history o s (said of) (length tables)).tables
  pub decided_are : decided ≡ map (decisions o s (said of)) (numbers_below (length tables))

-- the members after slots 0 to n - 1
abbrev pub members_after : Origin → Settings → Replica → ℕ → List Member
members_after o s x n = (history o s (said x) n).members

-- the members after the tables so far, of a replica whose plan these are
pub record AreMembersOf (d : Dispatch) (members : List Member) : Type 0 where
  pub of : Replica
  pub plan : IsPlanOf d.origin d.settings (replica_of d.replica) of d.tables d.decided
  pub members_are : members ≡ members_after d.origin d.settings of (length d.tables)

-- how many announcements are said before slot n
abbrev pub heard_before : Replica → ℕ → ℕ
heard_before x zero = 0
heard_before x (suc n) = heard_before x n + length (said x n)

-- The members are those of the definition after n slots, and the ready structure waits for slot n.
pub record IsInStep (o : Origin) (s : Settings) (of : Replica) (n : ℕ) (roster : Roster) (now : ℕ) (waiting : Queue) : Type 0 where
  pub machine_is : roster.machine ≡ machine s
  pub members_are : roster.members ≡ members_after o s of n
  pub heard_is : roster.heard ≡ heard_before of n
  pub steady : IsSteady (slot_of o n) roster now waiting

-- All of this for one replica; if an allocation failed, members and ready structure say nothing.
pub record IsKept (o : Origin) (s : Settings) (replica : Replica) (tables : List Table) (decided : List (List Decided)) (spent : Bool) (roster : Roster) (now : ℕ) (waiting : Queue) : Type 0 where
  pub began : IsOrigin o s
  pub processors : replica.processors ≡ s.processors
  pub capacity : replica.capacity ≤ LONGEST_LOG
  pub of : Replica
  pub room : of.capacity ≤ LONGEST_LOG
  pub plan : IsPlanOf o s replica of tables decided
  pub step : spent ≡ false → IsInStep o s of (length tables) roster now waiting

-- ---- two dispatchers

-- If settings and contents agree, and where the runs began, a slot that both have planned has one table and one list of decisions:
-- those of what either holds.
abbrev pub HavePlannedAlike : Dispatch → Dispatch → Type 0
HavePlannedAlike c d =
    c.settings ≡ d.settings → c.origin ≡ d.origin → Agree (replica_of c.replica) (replica_of d.replica) → (t : ℕ) → t < length c.tables → t < length d.tables
    → let story = said (replica_of c.replica) in
    (slice_get c.tables t ≡ Some (table c.origin c.settings story t)) × (slice_get d.tables t ≡ Some (table c.origin c.settings story t))
    × (slice_get c.decided t ≡ Some (decisions c.origin c.settings story t)) × (slice_get d.decided t ≡ Some (decisions c.origin c.settings story t))

-- What holds of the places of tables.

-- a task that is in both tables has one place in both
abbrev pub KeepPlace : (rows : Table) (places : List ℕ) (next : Table) (there : List ℕ) → Type 0
KeepPlace rows places next there = (name : Name) → IsTrue (names_task name rows) → IsTrue (names_task name next) → place_of rows places name ≡ place_of next there name

-- Each row of a table of a run has a place; places are processors, and no two of a table are equal; and a task that is in two tables
-- running has one place in both, also if the first of them is the last one of the run before.
pub record PlacesAreKept : Type 0 where
  pub each : (o : Origin) (s : Settings) (tables : List Table) → IsOrigin o s → AllByRecursion (IsFit s.processors) tables
      → (t : ℕ) (rows : Table) (places : List ℕ) → slice_get tables t ≡ Some rows → slice_get (places_in o tables) t ≡ Some places → ArePlacesOf s.processors rows places
  pub slots : (o : Origin) (s : Settings) (tables : List Table) → IsOrigin o s → AllByRecursion (IsFit s.processors) tables
      → (t : ℕ) (rows next : Table) (places there : List ℕ) → slice_get tables t ≡ Some rows → slice_get (places_in o tables) t ≡ Some places
      → slice_get tables (suc t) ≡ Some next → slice_get (places_in o tables) (suc t) ≡ Some there → KeepPlace rows places next there
  pub runs : (o : Origin) (s : Settings) (tables : List Table) → IsOrigin o s
      → (next : Table) (there : List ℕ) → slice_get tables 0 ≡ Some next → slice_get (places_in o tables) 0 ≡ Some there → KeepPlace (table_before o) (places_before o) next there

-- The places of a slot follow from the tables up to it, and from where the run began.
abbrev pub PlacesFollowTables : Type 0
PlacesFollowTables =
    (o : Origin) (xs ys : List Table) (t : ℕ) → ((u : ℕ) → u ≤ t → slice_get xs u ≡ slice_get ys u) → slice_get (places_in o xs) t ≡ slice_get (places_in o ys) t

-- Two dispatchers of equal settings whose runs began alike, after any events, if what they hold agrees: a slot that both have planned has
-- the same places.
abbrev pub OnePlacing : Type 0
OnePlacing =
    (o : Origin) (s : Settings) (m n : ℕ) (es fs : List Event) → AllByRecursion IsEvent es → AllByRecursion IsEvent fs
    → let c = run s (begin_at o s m) es in let d = run s (begin_at o s n) fs in
    Agree c.replica d.replica → (t : ℕ) → t < length c.tables → t < length d.tables → slice_get (places_in o c.tables) t ≡ slice_get (places_in o d.tables) t

-- If settings and contents agree, and where the runs began, a slot that both dispatchers have planned has the same places.
abbrev pub HavePlacedAlike : Dispatch → Dispatch → Type 0
HavePlacedAlike c d =
    c.settings ≡ d.settings → c.origin ≡ d.origin → Agree (replica_of c.replica) (replica_of d.replica) → (t : ℕ) → t < length c.tables → t < length d.tables
    → slice_get (places_in c.origin c.tables) t ≡ slice_get (places_in d.origin d.tables) t

-- What plans slots of a replica that is handed in, and keeps none of them.

-- with this replica handed in
abbrev pub seeing : Dispatch → ReplicaRows → Dispatch
seeing d x = record d { replica = x }

-- the next slot of the contents, whose table has no more rows than there may be processors, or none if it can't be planned
abbrev pub IsNextPlan : Dispatch → Option SlotPlan → Type 0
IsNextPlan d (Some next) =
    IsTrue (is_plannable d.settings (replica_of d.replica) (length d.tables))
    × (next.table.items ≡ table d.origin d.settings (said (replica_of d.replica)) (length d.tables))
    × (next.decided.items ≡ decisions d.origin d.settings (said (replica_of d.replica)) (length d.tables))
    × IsFit MAX_PROCESSORS next.table.items
IsNextPlan d None = is_plannable d.settings (replica_of d.replica) (length d.tables) ≡ false

-- with that planned
abbrev pub after_plan : Dispatch → Option SlotPlan → Dispatch
after_plan d (Some next) = record d { tables = d.tables ++ next.table.items ∷ []; decided = d.decided ++ next.decided.items ∷ []; forgotten = length d.tables + 1 }
after_plan d None = d

-- The numbers of the faults of plans and runs.

abbrev pub plan_fault_number : PlanFault → ℕ
plan_fault_number (Torn proc number) = 30
plan_fault_number Spent = 31
plan_fault_number Memory = 90

abbrev pub run_fault_number : RunFault → ℕ
run_fault_number run.Memory = 90
run_fault_number run.GateGaveUp = 53
run_fault_number run.Astray = 54
run_fault_number (run.Stalled slot) = 52

-- why no next run begins, if that is why nothing is planned
abbrev pub next_run_fault_of : PlanFault → NextRunFault
next_run_fault_of (Torn proc number) = next.Torn proc number
next_run_fault_of Spent = next.Spent
next_run_fault_of Memory = next.Memory

abbrev pub next_run_fault_number : NextRunFault → ℕ
next_run_fault_number (next.Torn proc number) = 30
next_run_fault_number next.Spent = 31
next_run_fault_number next.Unfinished = 32
next_run_fault_number next.PastLastSlot = 33
next_run_fault_number (next.CannotCarry name) = 34
next_run_fault_number next.Memory = 90
