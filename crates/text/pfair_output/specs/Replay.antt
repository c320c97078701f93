-- What is written of the tables of a run.
use Rattle.std.specs.Prelude.{ℕ, suc, List, [], ◌∷◌, ◌++◌, map, min, None, codes, Option, Some, slice_get, unwrap_or}
use Rattle.pfair_replica.specs.Replica.{Replica, frontier, numbers_below, said}
use Rattle.pfair_table.specs.declared.slot.Decided.{Decided}
use Rattle.pfair_table.specs.Script.{LoggedRun, replica_of_logs}
use Rattle.pfair_table.specs.Table.{Settings, decisions, Table}
use Rattle.std.specs.Fmt.{decimal}
use Rattle.pfair_text.specs.Rows.{lines_text}
use Rattle.pfair_table.specs.declared.slot.Pick.{Pick}
use Rattle.pfair_table.specs.Places.{places_in}
use Rattle.pfair_entry.specs.Entry.{name_of}
use Rattle.pfair_admission.specs.Admission.{refusal_number}
use Rattle.pfair_admission.specs.declared.decision.Decision.{Decision}
use Rattle.pfair_admission.specs.declared.decision.Decision.TheVariants.{Admitted, Departing, Delayed, Refused}

-- Rows for one slot after another.

-- the rows of each of a list, which begins at a slot
abbrev pub slots_from : {A : Type 0} → (ℕ → A → List (List (List ℕ))) → ℕ → List A → List (List (List ℕ))
slots_from rows slot [] = []
slots_from rows slot (x ∷ xs) = rows slot x ++ slots_from rows (suc slot) xs

-- A script's run, slot by slot.

-- the decisions at the boundaries of the first slots
abbrev pub decided_below : Settings → Replica → ℕ → List (List Decided)
decided_below s x slots = map (decisions None s (said x)) (numbers_below slots)

-- the decisions at the boundaries of all slots of a script that its logs settle
abbrev pub decided_of : LoggedRun → List (List Decided)
decided_of r =
    let x = replica_of_logs r.logs in
    decided_below r.settings x (min (frontier x) r.settings.slots)

abbrev pub replay_header : List (List ℕ)
replay_header = codes "slot" ∷ codes "processor" ∷ codes "task" ∷ codes "index" ∷ []

-- the quantum of row k of a slot's table
abbrev pub pick_row : (slot k : ℕ) → Pick → List (List ℕ)
pick_row slot k p = decimal slot ∷ decimal k ∷ p.name ∷ decimal p.index ∷ []

-- the rows of a slot's table, from row k on
abbrev pub rows_from : (slot k : ℕ) → Table → List (List (List ℕ))
rows_from slot k [] = []
rows_from slot k (p ∷ more) = pick_row slot k p ∷ rows_from slot (suc k) more

-- the rows of a slot's table
abbrev pub table_rows : ℕ → Table → List (List (List ℕ))
table_rows slot table = rows_from slot 0 table

-- a header, and a row for each quantum: slots in order, and in each the rows of its table
abbrev pub replay_text : List Table → List ℕ
replay_text tables = lines_text (replay_header ∷ slots_from table_rows 0 tables)

-- ---- the same rows with places

abbrev pub placed_header : List (List ℕ)
placed_header = replay_header ++ codes "place" ∷ []

-- the place at the end of a row, if the row has one
abbrev pub place_field : Option ℕ → List (List ℕ)
place_field None = []
place_field (Some place) = decimal place ∷ []

-- the quantum of row k of a slot's table, and its place
abbrev pub placed_row : (slot k : ℕ) → Pick → Option ℕ → List (List ℕ)
placed_row slot k p place = pick_row slot k p ++ place_field place

-- the rows of a slot's table, from row k on: row k has the k-th of the slot's places
abbrev pub placed_rows_from : (places : List ℕ) → (slot k : ℕ) → Table → List (List (List ℕ))
placed_rows_from places slot k [] = []
placed_rows_from places slot k (p ∷ more) = placed_row slot k p (slice_get places k) ∷ placed_rows_from places slot (suc k) more

-- the places of a slot, if it has some
abbrev pub places_at : List (List ℕ) → ℕ → List ℕ
places_at places slot = unwrap_or (slice_get places slot) []

-- the rows of a slot's table
abbrev pub placed_table_rows : (places : List (List ℕ)) → ℕ → Table → List (List (List ℕ))
placed_table_rows places slot table = placed_rows_from (places_at places slot) slot 0 table

-- a header, and a row for each quantum, which ends with its place
abbrev pub placed_text : List Table → (places : List (List ℕ)) → List ℕ
placed_text tables places = lines_text (placed_header ∷ slots_from (placed_table_rows places) 0 tables)

-- the tables of a run with the places that they have, where a task that goes on running stays where it is
abbrev pub placed_replay_text : List Table → List ℕ
placed_replay_text tables = placed_text tables (places_in None tables)

-- What is written of the decisions of a run.

abbrev pub decisions_header : List (List ℕ)
decisions_header = codes "slot" ∷ codes "processor" ∷ codes "number" ∷ codes "task" ∷ codes "outcome" ∷ codes "value" ∷ []

-- what was decided
abbrev pub outcome_of : Decision → List ℕ
outcome_of Admitted = codes "admitted"
outcome_of (Departing freed_at) = codes "departing"
outcome_of Delayed = codes "delayed"
outcome_of (Refused why) = codes "refused"

-- the freeing slot, the number of the refusal, or nothing
abbrev pub value_of : Decision → List ℕ
value_of Admitted = codes "-"
value_of (Departing freed_at) = decimal freed_at
value_of Delayed = codes "-"
value_of (Refused why) = decimal (refusal_number why)

-- one announcement at the boundary of a slot
abbrev pub decision_row : ℕ → Decided → List (List ℕ)
decision_row slot d =
    decimal slot ∷ decimal d.proc ∷ decimal d.number ∷ name_of d.announcement ∷ outcome_of d.decision ∷ value_of d.decision ∷ []

-- the announcements of a slot, as they are decided
abbrev pub decided_rows : ℕ → List Decided → List (List (List ℕ))
decided_rows slot decided = map (decision_row slot) decided

-- a header, and a row for each announcement: slots in order, and in each as they are decided
abbrev pub decisions_text : List (List Decided) → List ℕ
decisions_text decided = lines_text (decisions_header ∷ slots_from decided_rows 0 decided)
