-- Logs, and the replica that they make.
use Rattle.std.specs.Prelude.{ℕ, zero, suc, ◌≡◌, Bool, IsTrue, nat_le, max, List, [], ◌∷◌, length, map, Option, Some, None, slice_get, Vec, ◌<◌, ◌≤◌, false}
use Rattle.std.specs.List.{list_all}
use Rattle.std.specs.declared.alloc.Global.{Global}
use Rattle.pfair_lattice.specs.Held.{Held}
use Rattle.pfair_lattice.specs.declared.join_map.Flat.TheVariants.{One}
use Rattle.pfair_entry.specs.Entry.{Logged}
use Rattle.pfair_replica.specs.Replica.{Replica, Contents, frontier, has_torn, ReplicaRows, replica_of}
use Rattle.pfair_table.specs.Table.{Settings}
use Rattle.pfair_table.specs.declared.script.TheConstants.Script.{LONGEST_LOG}
use Rattle.pfair_table.specs.declared.answer.RunFault.{RunFault}
use Rattle.pfair_table.specs.declared.answer.RunFault.TheVariants.{Memory, GateGaveUp, Astray, Stalled}
use Rattle.pfair_table.specs.Refinement.{Dispatch}

-- a run's settings, and the log of each processor
pub record LoggedRun : Type 0 where
  pub settings : Settings
  pub logs : List (List Logged)

-- no more entries than a log may have
abbrev pub is_short : List Logged → Bool
is_short log = nat_le (length log) LONGEST_LOG

-- one log for each processor, and none longer than a log may be
pub record IsLoggedRun (r : LoggedRun) : Type 0 where
  pub one_each : length r.logs ≡ r.settings.processors
  pub short : IsTrue (list_all is_short r.logs)

-- what some logs have in them
abbrev pub lists_of : List (Vec Logged Global) → List (List Logged)
lists_of logs = map (λ log. log.items) logs

-- the length of the longest log, at least 1: the numbers that a replica of them has room for
abbrev pub capacity_of : List (List Logged) → ℕ
capacity_of [] = 1
capacity_of (log ∷ logs) = max (length log) (capacity_of logs)

-- entry n of a log, numbered from 1
abbrev pub entry_of : List Logged → ℕ → Held Logged
entry_of [] n = None
entry_of (e ∷ log) zero = None
entry_of (e ∷ log) (suc zero) = Some (One e)
entry_of (e ∷ log) (suc (suc n)) = entry_of log (suc n)

abbrev pub row_of : Option (List Logged) → ℕ → Held Logged
row_of None n = None
row_of (Some log) n = entry_of log n

-- every entry at its number
abbrev pub contents_of : List (List Logged) → Contents
contents_of logs k n = row_of (slice_get logs k) n

-- the replica of a script: every entry of the logs, and nothing else
abbrev pub replica_of_logs : List (List Logged) → Replica
replica_of_logs logs = record { processors = length logs; capacity = capacity_of logs; at = contents_of logs }

-- the same with what some logs have, which are the first ones or begin with as many entries
abbrev pub held_of : List (List Logged) → List (List Logged) → Replica
held_of logs begun = record { processors = length logs; capacity = capacity_of logs; at = contents_of begun }

-- A script's run by slots.

-- why a script isn't run to its end: its logs settle too few slots
abbrev pub IsScriptFaultOf : LoggedRun → RunFault → Type 0
IsScriptFaultOf r (Stalled slot) = (slot ≡ frontier (replica_of_logs r.logs)) × (slot < r.settings.slots)
IsScriptFaultOf r Memory = Unit {0}
IsScriptFaultOf r GateGaveUp = ⊥
IsScriptFaultOf r Astray = ⊥

-- all slots can be planned of a replica that stands elsewhere
pub record IsBySlot (x : ReplicaRows) (d : Dispatch) : Type 0 where
  pub held_is : d.replica ≡ x
  pub whole : has_torn (replica_of x) ≡ false
  pub settled : d.settings.slots ≤ frontier (replica_of x)
