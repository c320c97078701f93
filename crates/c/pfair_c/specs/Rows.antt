-- Rows, as C has them.
use Rattle.std.specs.Prelude.{ℕ, zero, suc, ◌+◌, ◌-◌, List, [], ◌∷◌, ◌++◌, length, map, drop, replicate, Option, slice_get, unwrap_or}
use Rattle.pfair_weight.specs.Window.{Share, release_of, deadline_of, b_bit_of, group_deadline_of}
use Rattle.pfair_entry.specs.Entry.{name_of}
use Rattle.pfair_replica.specs.Replica.{EntryKey}
use Rattle.pfair_admission.specs.Admission.{refusal_number}
use Rattle.pfair_admission.specs.declared.decision.Decision.{Decision}
use Rattle.pfair_admission.specs.declared.decision.Decision.TheVariants.{Admitted, Departing, Delayed, Refused}
use Rattle.pfair_table.specs.declared.slot.Pick.{Pick}
use Rattle.pfair_table.specs.declared.slot.Decided.{Decided}
use Rattle.pfair_table.specs.Table.{Origin, Table}
use Rattle.pfair_table.specs.Places.{places_in}
use Rattle.pfair_c.specs.declared.entry.PfairName.{PfairName}
use Rattle.pfair_c.specs.declared.table.PfairPick.{PfairPick}
use Rattle.pfair_c.specs.declared.held.PfairKey.{PfairKey}
use Rattle.pfair_c.specs.declared.quanta.PfairQuantum.{PfairQuantum}
use Rattle.pfair_c.specs.declared.decisions.PfairDecision.{PfairDecision}
use Rattle.pfair_c.specs.declared.window.PfairWindow.{PfairWindow}

-- a name: its bytes, zeros behind them up to 16, and how many they are
abbrev pub name_row : List ℕ → PfairName
name_row name = record { bytes = name ++ replicate (16 - length name) 0; length = length name }

-- a quantum
abbrev pub pick_row : Pick → PfairPick
pick_row p = record { name = name_row p.name; index = p.index }

-- the number of an outcome, and the slot that a departure frees, else 0
abbrev pub outcome_of : Decision → ℕ × ℕ
outcome_of Admitted = (0, 0)
outcome_of (Departing freed_at) = (1, freed_at)
outcome_of Delayed = (2, 0)
outcome_of (Refused refusal) = (refusal_number refusal, 0)

-- a processor and a number
abbrev pub key_row : EntryKey → PfairKey
key_row k = record { processor = k.0; number = k.1 }

-- some rows over the first of those that were there
abbrev pub written_over : {A : Type 0} → List A → List A → List A
written_over written rows = written ++ drop (length written) rows

-- the window of subtask i at an offset, by the formulas
abbrev pub window_row : Share → (i theta : ℕ) → PfairWindow
window_row w i theta = record { release = release_of w i theta; deadline = deadline_of w i theta; b_bit = b_bit_of w i; group_deadline = group_deadline_of w i theta }

-- the windows of so many subtasks, from one on
abbrev pub windows_of : Share → (theta first count : ℕ) → List PfairWindow
windows_of w theta first zero = []
windows_of w theta first (suc n) = window_row w first theta ∷ windows_of w theta (suc first) n

-- ---- the rows of several slots

-- what is planned of a slot
abbrev pub slot_of : {A : Type 0} → List (List A) → ℕ → List A
slot_of slots t = unwrap_or (slice_get slots t) []

-- the quantum of row k of a slot, with its place
abbrev pub quantum_row : (slot k : ℕ) → Pick → Option ℕ → PfairQuantum
quantum_row slot k p place = record { slot = slot; row = k; place = unwrap_or place 0; name = name_row p.name; index = p.index }

-- the quanta of a slot from row k on: row k has the k-th of the slot's places
abbrev pub quanta_in : (places : List ℕ) → (slot k : ℕ) → Table → List PfairQuantum
quanta_in places slot k [] = []
quanta_in places slot k (p ∷ more) = quantum_row slot k p (slice_get places k) ∷ quanta_in places slot (suc k) more

-- the quanta of slot t
abbrev pub quanta_at : Origin → List Table → ℕ → List PfairQuantum
quanta_at o tables t = quanta_in (slot_of (places_in o tables) t) t 0 (slot_of tables t)

-- the rows of so many slots, from one on
abbrev pub rows_of : {B : Type 0} → (ℕ → List B) → (from count : ℕ) → List B
rows_of rows_at from zero = []
rows_of rows_at from (suc n) = rows_of rows_at from n ++ rows_at (from + n)

-- the quanta of the slots `from` to `to` - 1
abbrev pub quanta_of : Origin → List Table → (from to : ℕ) → List PfairQuantum
quanta_of o tables from to = rows_of (quanta_at o tables) from (to - from)

-- a decision with its slot
abbrev pub decision_row : (slot : ℕ) → Decided → PfairDecision
decision_row slot d = record {
  slot = slot;
  name = name_row (name_of d.announcement);
  processor = d.proc;
  number = d.number;
  outcome = (outcome_of d.decision).0;
  freed_at = (outcome_of d.decision).1;
}

-- the decisions at the boundary of slot t
abbrev pub decisions_at : List (List Decided) → ℕ → List PfairDecision
decisions_at decided t = map (decision_row t) (slot_of decided t)

-- the decisions of the slots `from` to `to` - 1
abbrev pub decisions_of : List (List Decided) → (from to : ℕ) → List PfairDecision
decisions_of decided from to = rows_of (decisions_at decided) from (to - from)
