-- The tables, decisions and places of planned slots.
use Rattle.std.specs.Prelude.{ℕ, ◌≡◌, ◌+◌, ◌<◌, ◌≤◌, Vec, List, [], ◌∷◌, ◌++◌, drop, length, map}
use Rattle.std.specs.declared.alloc.Global.{Global}
use Rattle.pfair_replica.specs.Replica.{ReplicaRows, replica_of, numbers_below, said}
use Rattle.pfair_table.specs.declared.slot.Pick.{Pick}
use Rattle.pfair_table.specs.declared.slot.Decided.{Decided}
use Rattle.pfair_table.specs.declared.planned.PlannedSlot.{PlannedSlot}
use Rattle.pfair_table.specs.declared.settings.TheConstants.Settings.{MAX_SLOTS}
use Rattle.pfair_table.specs.Places.{places_in}
use Rattle.pfair_table.specs.Table.{Settings, Table, Origin, history, table, decisions}

-- the tables of slots 0 to n - 1 by the contents
abbrev pub tables_to : Origin → Settings → ReplicaRows → ℕ → List Table
tables_to o s x n = (history o s (said (replica_of x)) n).tables

-- and what is decided at their boundaries
abbrev pub decided_to : Origin → Settings → ReplicaRows → ℕ → List (List Decided)
decided_to o s x n = map (decisions o s (said (replica_of x))) (numbers_below n)

-- a run's settings, where it began, the table of each slot from slot 0 on, what was decided at its boundary, and below which slot
-- these are forgotten
pub record PlannedSlots : Type 0 where
  pub settings : Settings
  pub origin : Origin
  pub tables : List Table
  pub decided : List (List Decided)
  pub forgotten : ℕ

-- What is kept of the slots that are planned of a replica, from slot `first` on: none that isn't forgotten is missing, and the last
-- one is there in any case.
pub record AreKept (o : Origin) (s : Settings) (of : ReplicaRows) (first forgotten : ℕ) (slots : List PlannedSlot) : Type 0 where
  pub tables_are : map (λ p. p.plan.table.items) slots ≡ drop first (tables_to o s of (first + length slots))
  pub places_are : map (λ p. p.places.items) slots ≡ drop first (places_in o (tables_to o s of (first + length slots)))
  pub decided_are : map (λ p. p.plan.decided.items) slots ≡ drop first (decided_to o s of (first + length slots))
  pub forgets : (first ≤ forgotten) × (forgotten ≤ first + length slots)
  pub last : 0 < first → 0 < length slots
  pub few : first + length slots ≤ MAX_SLOTS

-- the next slot by the contents, by which all slots before are too
pub record IsNext (p : PlannedSlots) (x : ReplicaRows) (next : PlannedSlot) : Type 0 where
  pub tables_are : p.tables ≡ tables_to p.origin p.settings x (length p.tables)
  pub decided_are : p.decided ≡ decided_to p.origin p.settings x (length p.tables)
  pub table_is : next.plan.table.items ≡ table p.origin p.settings (said (replica_of x)) (length p.tables)
  pub decision_is : next.plan.decided.items ≡ decisions p.origin p.settings (said (replica_of x)) (length p.tables)
  pub places_are : places_in p.origin (p.tables ++ next.plan.table.items ∷ []) ≡ places_in p.origin p.tables ++ next.places.items ∷ []

-- with that
abbrev pub with_next : PlannedSlots → ReplicaRows → PlannedSlots
with_next p x =
    let n = length p.tables in
    record p {
      tables = p.tables ++ table p.origin p.settings (said (replica_of x)) n ∷ [];
      decided = p.decided ++ decisions p.origin p.settings (said (replica_of x)) n ∷ [];
    }

-- tables, slot by slot
abbrev pub as_tables : Vec (Vec Pick Global) Global → List Table
as_tables tables = map (λ (t : Vec Pick Global). t.items) tables.items

-- places, slot by slot
abbrev pub as_places : Vec (Vec ℕ Global) Global → List (List ℕ)
as_places places = map (λ (p : Vec ℕ Global). p.items) places.items

-- the last of a list, or d if it is empty
abbrev pub last_or : {A : Type 0} → A → List A → A
last_or d [] = d
last_or d (x ∷ xs) = last_or x xs
