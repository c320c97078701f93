-- What the threads of a run begin with and hand back.
use Rattle.std.specs.Prelude.{◌≡◌, ◌≢◌, ℕ, ◌+◌, List, [], Some, length, slice_get, slice_index_or, Bool, true, zero, suc, Option, None, Vec, false, IfErr, IfOk, OnOk}
use Rattle.pfair_lattice.specs.declared.join_map.Flat.TheVariants.{One}
use Rattle.pfair_entry.specs.Entry.{Logged}
use Rattle.pfair_replica.specs.Replica.{held, SameShape, replica_of, Below}
use Rattle.pfair_table.specs.Script.{LoggedRun, capacity_of}
use Rattle.pfair_desk.specs.Desks.{DeskView, BoardFrame, IsDeskOf, GrownDesk}
use Rattle.pfair_table.specs.declared.answer.RunFault.{RunFault}
use Rattle.pfair_table.specs.declared.answer.RunFault.TheVariants.{Memory, GateGaveUp, Astray, Stalled}
use Rattle.std.specs.List.{AllByRecursion}
use Rattle.std.specs.declared.alloc.Global.{Global}
use Rattle.pfair_table.specs.declared.slot.Pick.{Pick}
use Rattle.pfair_table.specs.declared.settings.TheConstants.Settings.{MAX_PROCESSORS}
use Rattle.pfair_table.specs.Places.{IsFit}
use Rattle.pfair_table.specs.Planned.{as_tables}
use Rattle.pfair_table.specs.Table.{Table, plan}
use Rattle.pfair_table.specs.Refinement.{Dispatch}
use Rattle.pfair_board.specs.declared.threads.Worked.{Worked}
use Rattle.pfair_board.specs.declared.threads.Workplace.{Workplace}

-- What a desk holds of a log.

-- the log of a processor
abbrev pub log_of : LoggedRun → (k : ℕ) → List Logged
log_of r k = slice_index_or r.logs k []

-- it holds the log in its own row, from that number on
abbrev pub HoldsLog : DeskView → (first : ℕ) → List Logged → Type 0
HoldsLog d first log = (i : ℕ) (e : Logged) → slice_get log i ≡ Some e → held d.replica d.processor (first + i) ≡ Some (One e)

-- its row has another entry at a number of the log
abbrev pub IsTaken : DeskView → (first : ℕ) → List Logged → Type 0
IsTaken d first log = (i : ℕ) × (e f : Logged) × (slice_get log i ≡ Some e) × (held d.replica d.processor (first + i) ≡ Some (One f)) × (f ≢ e)

-- the desk has published the log from its next number on
pub record HasPublished (old now : DeskView) (log : List Logged) : Type 0 where
  pub held : HoldsLog now old.next_number log
  pub next : now.next_number ≡ old.next_number + length log

-- Why a worker gives no tables.

-- why slots aren't planned: an allocation failed, or the gate's type may give up
abbrev pub IsPlanningFault : (may_give_up : Bool) → RunFault → Type 0
IsPlanningFault may_give_up Memory = Unit {0}
IsPlanningFault may_give_up GateGaveUp = may_give_up ≡ true
IsPlanningFault may_give_up Astray = ⊥
IsPlanningFault may_give_up (Stalled slot) = ⊥

-- or the worker's row has another entry at a number of its log; no worker is stalled
abbrev pub IsWorkerFault : (may_give_up : Bool) → DeskView → (first : ℕ) → List Logged → RunFault → Type 0
IsWorkerFault may_give_up d first log Memory = Unit {0}
IsWorkerFault may_give_up d first log GateGaveUp = may_give_up ≡ true
IsWorkerFault may_give_up d first log Astray = IsTaken d first log
IsWorkerFault may_give_up d first log (Stalled slot) = ⊥

-- What the sinks of workers have after some tables.

-- the tables that are kept are these, of at most 64 rows with a task of its own each
abbrev pub has_kept : Vec (Vec Pick Global) Global → ℕ → List Table → Type 0
has_kept kept row tables = (as_tables kept ≡ tables) × AllByRecursion (IsFit MAX_PROCESSORS) tables

-- the first row's worker has a sink, and that has what these tables give; nothing is said of the others
abbrev pub has_first : {K : Type 0} → (has : K → ℕ → List Table → Type 0) → Option K → ℕ → List Table → Type 0
has_first has (Some sink) row tables = has sink row tables
has_first has None zero tables = ⊥
has_first has None (suc row) tables = Unit {0}

-- The work of the board's row k in a run of this script: its desk holds the log of its processor and its sink has the plan of what the
-- desk holds, or it ended in a worker's fault.
pub record IsWorkOf {K : Type 0} (has : K → ℕ → List Table → Type 0) (may_give_up : Bool) (b : BoardFrame) (r : LoggedRun) (k : ℕ) (w : Worked K) : Type 0 where
  pub desk : IsDeskOf w.desk b
  pub processor : w.desk.processor ≡ k
  pub log : OnOk w.kept (HoldsLog w.desk 1 (log_of r k))
  pub plan : IfOk w.kept (λ kept. has kept k (plan None r.settings (replica_of w.desk.replica)))
  pub fault : IfErr w.kept (IsWorkerFault may_give_up w.desk 1 (log_of r k))

-- the work of each row of a board of the script's size, in order
pub record AreWorks {K : Type 0} (has : K → ℕ → List Table → Type 0) (may_give_up : Bool) (b : BoardFrame) (r : LoggedRun) (ws : List (Worked K)) : Type 0 where
  pub processors : b.processors ≡ r.settings.processors
  pub capacity : b.capacity ≡ capacity_of r.logs
  pub count : length ws ≡ b.processors
  pub each : (k : ℕ) (w : Worked K) → slice_get ws k ≡ Some w → IsWorkOf has may_give_up b r k w

-- What plans a worker's slots, those of a first run, has planned of nothing but what its desk holds, and can plan; and its sink has the tables.
pub record IsAtWork {K : Type 0} (has : K → ℕ → List Table → Type 0) (a : Dispatch) (sink : K) (d : DeskView) : Type 0 where
  pub first : a.origin ≡ None
  pub able : a.spent ≡ false
  pub shape : SameShape a.replica d.replica
  pub below : Below (replica_of a.replica) (replica_of d.replica)
  pub given : has sink d.processor a.tables

-- all is planned that the desk settles
abbrev pub HasPlanned : Dispatch → DeskView → Type 0
HasPlanned a d = a.tables ≡ plan None a.settings (replica_of d.replica)

-- the desk holds all that it held, and has published nothing
pub record HasLearned (old now : DeskView) : Type 0 where
  pub grown : GrownDesk old now
  pub next : now.next_number ≡ old.next_number

-- the workplace of the board's row k, whose desk is at its first number, and whose sink has no tables
pub record IsWorkplaceOf {R K : Type 0} (has : K → ℕ → List Table → Type 0) (b : BoardFrame) (k : ℕ) (w : Workplace R K) : Type 0 where
  pub desk : IsDeskOf w.desk b
  pub processor : w.desk.processor ≡ k
  pub first : w.desk.next_number ≡ 1
  pub empty : has w.sink k []

-- the workplace of each row, in order
pub record AreWorkplaces {R K : Type 0} (has : K → ℕ → List Table → Type 0) (b : BoardFrame) (ws : List (Workplace R K)) : Type 0 where
  pub count : length ws ≡ b.processors
  pub each : (k : ℕ) (w : Workplace R K) → slice_get ws k ≡ Some w → IsWorkplaceOf has b k w
