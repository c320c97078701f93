-- The rows of a state: where the run begins, each member with its late releases, what ran in the slot before, and the end.
use Rattle.std.specs.Prelude.{ℕ, ◌+◌, min, List, [], ◌∷◌, ◌++◌, length, map, Option, Some, None, codes}
use Rattle.std.specs.Fmt.{decimal}
use Rattle.std.specs.List.{flat_map}
use Rattle.pfair_text.specs.Rows.{lines_text}
use Rattle.pfair_entry_row.specs.Row.{dash, truth}
use Rattle.pfair_admission.specs.Member.{Member}
use Rattle.pfair_admission.specs.declared.delay.Delay.{Delay}
use Rattle.pfair_table.specs.declared.slot.Pick.{Pick}
use Rattle.pfair_table.specs.Table.{Carried, Table}

-- a row's fields
abbrev pub Row : Type 0
Row = List (List ℕ)

-- the form of these rows, the slot at which the run begins, counted over all runs, its processors and its frame
abbrev pub first_row : Carried → Row
first_row c = codes "state" ∷ codes "1" ∷ decimal c.slot ∷ decimal c.machine.processors ∷ decimal c.machine.frame ∷ []

abbrev pub slot_field : Option ℕ → List ℕ
slot_field None = dash
slot_field (Some slot) = decimal slot

-- a member: its weight, whether it may run early, its joining slot, the index of its next subtask, and its freeing slot if it is departing
abbrev pub member_row : Member → Row
member_row m =
    codes "member" ∷ m.name ∷ decimal m.weight.cost ∷ decimal m.weight.period ∷ truth m.early ∷ decimal m.joined ∷ decimal m.next ∷ slot_field m.freed_at ∷ []

-- a late release: from which subtask on, and by how many slots
abbrev pub late_row : List ℕ → Delay → Row
late_row name d = codes "late" ∷ name ∷ decimal d.index ∷ decimal d.by ∷ []

abbrev pub member_rows : Member → List Row
member_rows m = member_row m ∷ map (late_row m.name) m.delays

-- a quantum of the slot before the run, and the processor that had it
abbrev pub ran_row : Pick → ℕ → Row
ran_row p place = codes "ran" ∷ p.name ∷ decimal p.index ∷ decimal place ∷ []

abbrev pub ran_rows : Table → List ℕ → List Row
ran_rows (p ∷ table) (place ∷ places) = ran_row p place ∷ ran_rows table places
ran_rows _ _ = []

-- ---- a state

abbrev pub rows_before_end : Carried → List Row
rows_before_end c = first_row c ∷ (flat_map member_rows c.members ++ ran_rows c.table c.places)

-- the number of all rows, as far as 64 bits go, so that a part is not taken for the whole
abbrev pub end_row : ℕ → Row
end_row rows = codes "end" ∷ decimal (min rows 18446744073709551615) ∷ []

abbrev pub state_rows : Carried → List Row
state_rows c = let rows = rows_before_end c in rows ++ end_row (length rows + 1) ∷ []

abbrev pub state_text : Carried → List ℕ
state_text c = lines_text (state_rows c)
