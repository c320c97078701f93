-- What a list of events leaves.
use Rattle.pfair_replica.specs.Replica.{replica_of, Replica, IsReplica, empty_replica, has_torn, frontier, said, taken, absorbed, Below, Untorn, Agree, mark}
use Rattle.pfair_table.specs.declared.run.Event.{Event}
use Rattle.pfair_table.specs.declared.run.Event.TheVariants.{Take, Absorb, Plan}
use Rattle.std.specs.Prelude.{ℕ, Bool, not, ◌&&◌, nat_lt, List, [], ◌∷◌, None, ◌++◌, length, ⊤, if◌then◌else◌, suc, ◌≡◌, ◌≤◌, ◌<◌, ◌⊎◌, Some, slice_get, AllPairs}
use Rattle.pfair_entry.specs.Entry.{IsEntry}
use Rattle.pfair_table.specs.Table.{Settings, Origin, Table, table, decisions, members_before, slot_of, world, chosen, plan, history, counted, all_ran}
use Rattle.pfair_table.specs.declared.slot.Decided.{Decided}
use Rattle.std.specs.List.{AllByRecursion}
use Rattle.pfair_weight.specs.Name.{NamesApart}
use Rattle.pfair_order.specs.Order.{GoesBefore}
use Rattle.pfair_table.specs.Places.{IsFit}
use Rattle.pfair_lattice.specs.Held.{HeldBelow}
use Rattle.pfair_lattice.specs.declared.join_map.Flat.TheVariants.{One}

-- what can come: an entry within its limits, or a replica
abbrev pub IsEvent : Event → Type 0
IsEvent (Take k n e) = IsEntry e
IsEvent (Absorb x) = IsReplica (replica_of x)
IsEvent Plan = ⊤

-- ---- what is planned

-- where the run began, the contents, and what was planned: the table and the decisions of each slot so far
pub record Course : Type 0 where
  pub origin : Origin
  pub replica : Replica
  pub tables : List Table
  pub decided : List (List Decided)

-- a run at its start: it holds nothing and has planned nothing
abbrev pub begin_at : Origin → Settings → ℕ → Course
begin_at o s capacity = record { origin = o; replica = empty_replica s.processors capacity; tables = []; decided = [] }

-- slot n can be planned of x
abbrev pub is_plannable : Settings → Replica → ℕ → Bool
is_plannable s x n = not (has_torn x) && (nat_lt n (frontier x) && nat_lt n s.slots)

-- with the next slot planned of the contents
abbrev pub with_next_slot : Settings → Course → Course
with_next_slot s c =
    let t = length c.tables in
    record { origin = c.origin; replica = c.replica; tables = c.tables ++ table c.origin s (said c.replica) t ∷ []; decided = c.decided ++ decisions c.origin s (said c.replica) t ∷ [] }

abbrev pub happens : Settings → Course → Event → Course
happens s c (Take k n e) = record c { replica = taken c.replica k n e }
happens s c (Absorb y) = record c { replica = absorbed c.replica (replica_of y) }
happens s c Plan = if is_plannable s c.replica (length c.tables) then with_next_slot s c else c

-- what a list of events leaves
abbrev pub run : Settings → Course → List Event → Course
run s c [] = c
run s c (e ∷ events) = run s (happens s c e) events

-- the same in a first run, from an empty replica of that capacity
abbrev pub run_of : Settings → ℕ → List Event → Course
run_of s capacity events = run s (begin_at None s capacity) events

-- What holds of tables, marks and plans, whatever the replicas are and wherever the run began.

-- a replica of the processors of these settings
pub record IsOf (s : Settings) (x : Replica) : Type 0 where
  pub replica : IsReplica x
  pub processors : x.processors ≡ s.processors

-- ys begins with xs
abbrev pub IsPrefixOf : {A : Type 0} → List A → List A → Type 0
IsPrefixOf {A} xs ys = (rest : List A) × (xs ++ rest ≡ ys)

-- Replicas that agree give every slot below both frontiers one table and the same decisions.
abbrev pub OneTable : Type 0
OneTable =
    (o : Origin) (s : Settings) (x y : Replica) → IsOf s x → IsOf s y → Agree x y → (t : ℕ) → t < frontier x → t < frontier y
    → (table o s (said x) t ≡ table o s (said y) t) × (decisions o s (said x) t ≡ decisions o s (said y) t)

-- A replica that holds more, and nothing torn, has no lower mark, and plans the same and on from there.
abbrev pub PlansGoOn : Type 0
PlansGoOn =
    (o : Origin) (s : Settings) (x y : Replica) → IsOf s x → IsOf s y → Below x y → Untorn y
    → ((k : ℕ) → mark x k ≤ mark y k) × IsPrefixOf (plan o s x) (plan o s y)

-- Of the plans of replicas that agree, the shorter begins the longer.
abbrev pub OnePlan : Type 0
OnePlan =
    (o : Origin) (s : Settings) (x y : Replica) → IsOf s x → IsOf s y → Agree x y
    → IsPrefixOf (plan o s x) (plan o s y) ⊎ IsPrefixOf (plan o s y) (plan o s x)

-- In a run that begins without members, or with members of distinct names, a table has no more rows than there are processors, and each
-- name once; and of its keys each goes before all later ones in the PD2 order.
abbrev pub TablesAreOrdered : Type 0
TablesAreOrdered =
    (o : Origin) (s : Settings) (x : Replica) (t : ℕ) → NamesApart (λ m. m.name) (members_before o)
    → IsFit s.processors (table o s (said x) t) × AllPairs GoesBefore (chosen s (slot_of o t) (world o s (said x) t))

-- In a first run, to add one for each row of a table is to count by the tables anew.
abbrev pub RunsAreCounted : Type 0
RunsAreCounted =
    (s : Settings) (x : Replica) (t : ℕ)
    → all_ran (table None s (said x) t) (world None s (said x) t) ≡ counted (history None s (said x) (suc t)).tables (world None s (said x) t)

-- Two dispatchers of equal settings whose runs began alike, after any events, if what they hold agrees: a slot that both have planned
-- has one table and the same decisions, which are those of what either holds.
abbrev pub OneSchedule : Type 0
OneSchedule =
    (o : Origin) (s : Settings) (m n : ℕ) (es fs : List Event) → AllByRecursion IsEvent es → AllByRecursion IsEvent fs
    → let c = run s (begin_at o s m) es in let d = run s (begin_at o s n) fs in
    Agree c.replica d.replica → (t : ℕ) → t < length c.tables → t < length d.tables
    → (slice_get c.tables t ≡ Some (table o s (said c.replica) t)) × (slice_get d.tables t ≡ Some (table o s (said c.replica) t))
    × (slice_get c.decided t ≡ Some (decisions o s (said c.replica) t)) × (slice_get d.decided t ≡ Some (decisions o s (said c.replica) t))

-- While nothing is torn, what was planned is the beginning of the plan of the contents.
abbrev pub PlanSoFar : Type 0
PlanSoFar =
    (o : Origin) (s : Settings) (m : ℕ) (events : List Event) → AllByRecursion IsEvent events
    → let c = run s (begin_at o s m) events in Untorn c.replica → IsPrefixOf c.tables (plan o s c.replica)

-- What events leave holds what they bring, and no more.

-- what the event brings is below y: an entry at one of the keys of these processors and this capacity, or a replica of this shape
abbrev pub IsBroughtBelow : Settings → ℕ → Replica → Event → Type 0
IsBroughtBelow s capacity y (Take k n e) = k < s.processors → 1 ≤ n → n ≤ capacity → HeldBelow (Some (One e)) (y.at k n)
IsBroughtBelow s capacity y (Absorb x) = x.processors ≡ s.processors → x.capacity ≡ capacity → Below (replica_of x) y
IsBroughtBelow s capacity y Plan = ⊤

-- What a list of events leaves is above each entry taken and each replica absorbed, and below whatever is above all of them.
abbrev pub EventsLeaveTheLeast : Type 0
EventsLeaveTheLeast =
    (o : Origin) (s : Settings) (capacity : ℕ) (events : List Event)
    → let x = (run s (begin_at o s capacity) events).replica in
    AllByRecursion (IsBroughtBelow s capacity x) events
    × ((y : Replica) → AllByRecursion (IsBroughtBelow s capacity y) events → Below x y)
