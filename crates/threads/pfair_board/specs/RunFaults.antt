-- What each fault of a run says.
use Rattle.std.specs.Prelude.{ℕ, ◌≡◌, ◌<◌, ◌≤◌, List, Option, Some, None, Err, IsOk, slice_get, ◌⊎◌, Bool, true, length, IfOk}
use Rattle.pfair_replica.specs.Replica.{replica_of, Replica, Below, frontier}
use Rattle.pfair_board.specs.declared.threads.Worked.{Worked}
use Rattle.pfair_table.specs.declared.answer.RunFault.{RunFault}
use Rattle.pfair_table.specs.declared.answer.RunFault.TheVariants.{Memory, GateGaveUp, Astray, Stalled}
use Rattle.pfair_table.specs.Table.{Table, Settings, plan}
use Rattle.pfair_table.specs.Script.{LoggedRun, replica_of_logs, capacity_of}
use Rattle.pfair_desk.specs.Desks.{BoardFrame, DeskView, IsDeskOf}
use Rattle.pfair_board.specs.Works.{IsTaken, log_of, AreWorks}
use Rattle.pfair_table.specs.Places.{places_in}
use Rattle.pfair_table.specs.declared.planned.Run.{Run}
use Rattle.pfair_table.specs.Planned.{as_tables, as_places}

-- With which fault workers end, if several apply.

-- some worker ends in this fault
abbrev pub SomeEndsIn : {K : Type 0} → List (Worked K) → RunFault → Type 0
SomeEndsIn {K} ws f = (k : ℕ) × (w : Worked K) × (slice_get ws k ≡ Some w) × (w.kept ≡ Err f)

-- the worker has its tables, and holds what this replica holds
abbrev pub Holds : {K : Type 0} → Worked K → Replica → Type 0
Holds w x = IsOk w.kept × Below (replica_of w.desk.replica) x × Below x (replica_of w.desk.replica)

-- some worker doesn't
abbrev pub SomeStrays : {K : Type 0} → List (Worked K) → Replica → Type 0
SomeStrays {K} ws x = (k : ℕ) × (w : Worked K) × (slice_get ws k ≡ Some w) × ¬ (Holds w x)

-- each worker does
abbrev pub AllHold : {K : Type 0} → List (Worked K) → Replica → Type 0
AllHold {K} ws x = (k : ℕ) (w : Worked K) → slice_get ws k ≡ Some w → Holds w x

-- the first that applies: a failed allocation, a gate that gave up, a worker astray, and logs that end before the slots do
abbrev pub IsFirstFault : {K : Type 0} → List (Worked K) → Replica → (slots : ℕ) → Option RunFault → Type 0
IsFirstFault ws x slots (Some Memory) = SomeEndsIn ws Memory
IsFirstFault ws x slots (Some GateGaveUp) = ¬ (SomeEndsIn ws Memory) × SomeEndsIn ws GateGaveUp
IsFirstFault ws x slots (Some Astray) = ¬ (SomeEndsIn ws Memory) × ¬ (SomeEndsIn ws GateGaveUp) × SomeStrays ws x
IsFirstFault ws x slots (Some (Stalled slot)) = AllHold ws x × (slot ≡ frontier x) × (slot < slots)
IsFirstFault ws x slots None = AllHold ws x × (slots ≤ frontier x)

-- the worker's replica is the script's
abbrev pub HoldsScript : {K : Type 0} → LoggedRun → Worked K → Type 0
HoldsScript r w = Below (replica_of w.desk.replica) (replica_of_logs r.logs) × Below (replica_of_logs r.logs) (replica_of w.desk.replica)

-- some worker is astray: its row has another entry at a number of its log, or its replica isn't the script's
abbrev pub SomeAstray : {K : Type 0} → LoggedRun → List (Worked K) → Type 0
SomeAstray {K} r ws = (k : ℕ) × (w : Worked K) × (slice_get ws k ≡ Some w) × (IsTaken w.desk 1 (log_of r k) ⊎ ¬ (HoldsScript r w))

-- the first fault of these workers, if several apply: a failed allocation, a gate that gave up, a worker astray, and logs that end too early
abbrev pub EndsIn : {K : Type 0} → LoggedRun → List (Worked K) → RunFault → Type 0
EndsIn r ws Memory = SomeEndsIn ws Memory
EndsIn r ws GateGaveUp = ¬ (SomeEndsIn ws Memory) × SomeEndsIn ws GateGaveUp
EndsIn r ws Astray = ¬ (SomeEndsIn ws Memory) × ¬ (SomeEndsIn ws GateGaveUp) × SomeAstray r ws
EndsIn r ws (Stalled slot) = AllHold ws (replica_of_logs r.logs) × (slot ≡ frontier (replica_of_logs r.logs)) × (slot < r.settings.slots)

-- the workers of a run of this script, on a board of its size, end in this fault
abbrev pub WorkersEndIn : {K : Type 0} → (has : K → ℕ → List Table → Type 0) → (may_give_up : Bool) → LoggedRun → RunFault → Type 0
WorkersEndIn {K} has may_give_up r f = (b : BoardFrame) × (ws : List (Worked K)) × AreWorks has may_give_up b r ws × EndsIn r ws f

-- why a run of a script isn't finished; Memory also if the board or a thread can't be had
abbrev pub IsRunFaultOf : {K : Type 0} → (has : K → ℕ → List Table → Type 0) → (may_give_up : Bool) → LoggedRun → RunFault → Type 0
IsRunFaultOf has may_give_up r Memory = Unit {0}
IsRunFaultOf has may_give_up r GateGaveUp = (may_give_up ≡ true) × WorkersEndIn has may_give_up r GateGaveUp
IsRunFaultOf has may_give_up r Astray = WorkersEndIn has may_give_up r Astray
IsRunFaultOf has may_give_up r (Stalled slot) = (slot ≡ frontier (replica_of_logs r.logs)) × (slot < r.settings.slots) × WorkersEndIn has may_give_up r (Stalled slot)

-- What a finished run is.

-- the desk of row k of this board, which holds the script's replica
pub record IsFullDesk (r : LoggedRun) (b : BoardFrame) (k : ℕ) (d : DeskView) : Type 0 where
  pub own : IsDeskOf d b
  pub processor : d.processor ≡ k
  pub replica : replica_of d.replica ≡ replica_of_logs r.logs

-- the tables are the plan of a replica, and the places are those of the tables
pub record IsRunOf (s : Settings) (x : Replica) (run : Run) : Type 0 where
  pub tables : as_tables run.tables ≡ plan None s x
  pub places : as_places run.places ≡ places_in None (as_tables run.tables)

-- A board as large as the script, with the desk of each of its rows, which holds the script's replica, and the run of each, which has the
-- plan of it; and the script's frontier doesn't stop the plan.
pub record IsFinished (r : LoggedRun) (b : BoardFrame) (ds : List DeskView) (rs : List Run) : Type 0 where
  pub processors : b.processors ≡ r.settings.processors
  pub capacity : b.capacity ≡ capacity_of r.logs
  pub desk_count : length ds ≡ r.settings.processors
  pub desks : (k : ℕ) (d : DeskView) → slice_get ds k ≡ Some d → IsFullDesk r b k d
  pub run_count : length rs ≡ r.settings.processors
  pub runs : (k : ℕ) (run : Run) → slice_get rs k ≡ Some run → IsRunOf r.settings (replica_of_logs r.logs) run
  pub far_enough : r.settings.slots ≤ frontier (replica_of_logs r.logs)

-- row k's work went well: its desk holds the script's replica, and its sink has the plan of it
pub record IsGood {K : Type 0} (has : K → ℕ → List Table → Type 0) (r : LoggedRun) (b : BoardFrame) (k : ℕ) (w : Worked K) : Type 0 where
  pub desk : IsFullDesk r b k w.desk
  pub kept : IsOk w.kept
  pub plan : IfOk w.kept (λ kept. has kept k (plan None r.settings (replica_of_logs r.logs)))

-- a sink of the first processor has the plan of the script's replica, and the script's frontier doesn't stop the plan
pub record HasPlan {K : Type 0} (has : K → ℕ → List Table → Type 0) (r : LoggedRun) (sink : K) : Type 0 where
  pub plan : has sink 0 (plan None r.settings (replica_of_logs r.logs))
  pub far_enough : r.settings.slots ≤ frontier (replica_of_logs r.logs)
