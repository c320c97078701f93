-- What a state's rows say, and the states that are read back.
use Rattle.std.specs.Prelude.{ℕ, ◌+◌, ◌<◌, ◌^◌, min, ◌≡◌, Option, None, Some, List, [], ◌∷◌, ◌++◌, length, map, drop, slice_get, Result, MatchResult, IfSome, codes}
use Rattle.std.specs.Fmt.{decimal}
use Rattle.std.specs.List.{AllByRecursion, flat_map, join_with_byte}
use Rattle.pfair_weight.specs.Name.{IsTaskName}
use Rattle.pfair_weight.specs.Window.{IsWeight}
use Rattle.pfair_entry_row.specs.Row.{truth}
use Rattle.pfair_admission.specs.Member.{Member as MemberOf}
use Rattle.pfair_admission.specs.Admission.{Roster}
use Rattle.pfair_admission.specs.declared.delay.Delay.{Delay}
use Rattle.pfair_table.specs.Places.{AreLeftAt, IsState, ArePlacesOf, IsFit}
use Rattle.pfair_table.specs.Table.{Carried, Table}
use Rattle.pfair_table.specs.declared.slot.Pick.{Pick}
use Rattle.pfair_state.specs.Rows.{slot_field, state_text}
use Rattle.pfair_state.specs.declared.fault.ReadFault.{ReadFault}
use Rattle.pfair_state.specs.declared.fault.ReadFault.TheVariants.{Memory, NoRow, Refused}
use Rattle.pfair_state.specs.declared.rows.FirstRow.{FirstRow}
use Rattle.pfair_state.specs.declared.rows.LateRow.{LateRow}
use Rattle.pfair_state.specs.declared.rows.MemberRow.{MemberRow}
use Rattle.pfair_state.specs.declared.rows.Row.{Row}
use Rattle.pfair_state.specs.declared.rows.Row.TheVariants.{First, Member, Late, Ran, End}

-- ---- a row

abbrev pub first_fields : FirstRow → List (List ℕ)
first_fields f = decimal f.form ∷ decimal f.slot ∷ decimal f.processors ∷ decimal f.frame ∷ []

abbrev pub member_fields : MemberRow → List (List ℕ)
member_fields m =
    m.name ∷ decimal m.weight.cost ∷ decimal m.weight.period ∷ truth m.early ∷ decimal m.joined ∷ decimal m.next ∷ slot_field m.freed_at ∷ []

abbrev pub late_fields : LateRow → List (List ℕ)
late_fields l = l.name ∷ decimal l.index ∷ decimal l.by ∷ []

abbrev pub ran_fields : Pick → ℕ → List (List ℕ)
ran_fields p place = p.name ∷ decimal p.index ∷ decimal place ∷ []

abbrev pub fields_of : Row → List (List ℕ)
fields_of (First f) = codes "state" ∷ first_fields f
fields_of (Member m) = codes "member" ∷ member_fields m
fields_of (Late l) = codes "late" ∷ late_fields l
fields_of (Ran p place) = codes "ran" ∷ ran_fields p place
fields_of (End rows) = codes "end" ∷ decimal rows ∷ []

abbrev pub line_of : Row → List ℕ
line_of row = join_with_byte 44 (fields_of row)

-- its numbers are of 64 bits, processors and places of 8, its name is a task's, and its weight is one
abbrev pub IsSpelled : Row → Type 0
IsSpelled (First f) = (f.form < 2 ^ 64) × (f.slot < 2 ^ 64) × (f.processors < 2 ^ 8) × (f.frame < 2 ^ 64)
IsSpelled (Member m) =
    IsTaskName m.name × IsWeight m.weight.cost m.weight.period × (m.joined < 2 ^ 64) × (m.next < 2 ^ 64) × IfSome m.freed_at (λ slot. slot < 2 ^ 64)
IsSpelled (Late l) = IsTaskName l.name × (l.index < 2 ^ 64) × (l.by < 2 ^ 64)
IsSpelled (Ran p place) = IsTaskName p.name × (p.index < 2 ^ 64) × (place < 2 ^ 8)
IsSpelled (End rows) = rows < 2 ^ 64

abbrev pub AreSpelled : List Row → Type 0
AreSpelled rows = AllByRecursion IsSpelled rows

-- a quantum whose row is spelled at each place of a machine
abbrev pub IsSpelledQuantum : Pick → Type 0
IsSpelledQuantum p = IsTaskName p.name × (p.index < 2 ^ 64)

-- the member of a row, with the late releases behind it
abbrev pub member_of : MemberRow → List Delay → MemberOf
member_of m delays = record { name = m.name; weight = m.weight; early = m.early; joined = m.joined; next = m.next; freed_at = m.freed_at; delays = delays }

-- ---- the rows of a state

abbrev pub first_of : Carried → FirstRow
first_of c = record { form = 1; slot = c.slot; processors = c.machine.processors; frame = c.machine.frame }

abbrev pub first_said : Carried → Row
first_said c = First (first_of c)

abbrev pub row_of : MemberOf → MemberRow
row_of m = record { name = m.name; weight = m.weight; early = m.early; joined = m.joined; next = m.next; freed_at = m.freed_at }

abbrev pub own_said : MemberOf → Row
own_said m = Member (row_of m)

abbrev pub late_said : List ℕ → Delay → Row
late_said name d = Late (record { name = name; index = d.index; by = d.by })

abbrev pub member_said : MemberOf → List Row
member_said m = own_said m ∷ map (late_said m.name) m.delays

abbrev pub ran_said : Table → List ℕ → List Row
ran_said (p ∷ table) (place ∷ places) = Ran p place ∷ ran_said table places
ran_said _ _ = []

abbrev pub said_before_end : Carried → List Row
said_before_end c = first_said c ∷ (flat_map member_said c.members ++ ran_said c.table c.places)

abbrev pub said_of : Carried → List Row
said_of c = let rows = said_before_end c in rows ++ End (min (length rows + 1) 18446744073709551615) ∷ []

-- ---- what a row is, if there is one

abbrev pub as_member : Option Row → Option MemberRow
as_member (Some (Member m)) = Some m
as_member _ = None

abbrev pub as_late : Option Row → Option LateRow
as_late (Some (Late l)) = Some l
as_late _ = None

abbrev pub as_quantum : Option Row → Option (Pick × ℕ)
as_quantum (Some (Ran p place)) = Some (p, place)
as_quantum _ = None

-- neither of a member nor of a late release
abbrev pub IsBehindMembers : List Row → Type 0
IsBehindMembers rows = (as_member (slice_get rows 0) ≡ None) × (as_late (slice_get rows 0) ≡ None)

-- ---- a state

-- a state that is read back: a run can begin with it, and its rows are spelled
pub record IsWritable (c : Carried) : Type 0 where
  pub state : IsState c
  pub spelled : AreSpelled (said_of c)

-- Equal texts are of equal states.
abbrev pub StatesHaveOneText : Type 0
StatesHaveOneText = (c d : Carried) → IsWritable c → IsWritable d → state_text c ≡ state_text d → c ≡ d

-- ---- what is read of such rows

-- it is read, or an allocation failed
abbrev pub IsReadAs : {A : Type 0} → Result A ReadFault → (A → Type 0) → Type 0
IsReadAs r P = MatchResult r P (λ fault. fault ≡ Memory)

-- if from a place on there are late releases of a task, and no more of them behind, this holds of them
abbrev pub IfDelaysFrom : List Row → (from : ℕ) → (task : List ℕ) → (List Delay → Type 0) → Type 0
IfDelaysFrom rows from task P =
    (delays : List Delay) (behind : List Row) → drop from rows ≡ map (late_said task) delays ++ behind → as_late (slice_get behind 0) ≡ None → P delays

-- if behind the first row there are members that a run which ended before slot t can leave, and no more of them behind, this holds of them
-- and of what is behind
abbrev pub IfMembersBehindFirst : List Row → (t : ℕ) → Roster → (List MemberOf → List Row → Type 0) → Type 0
IfMembersBehindFirst rows t old P =
    (all : List MemberOf) (behind : List Row) → old.members ≡ [] → AreLeftAt t old.machine all → drop 1 rows ≡ flat_map member_said all ++ behind
    → IsBehindMembers behind → P all behind

-- if from a place on there are the quanta of a slot, and no more of them behind, this holds of them and of what is behind
abbrev pub IfQuantaFrom : List Row → (from : ℕ) → Carried → (Table → List ℕ → List Row → Type 0) → Type 0
IfQuantaFrom rows from old P =
    (table : Table) (places : List ℕ) (behind : List Row) → (old.table ≡ []) × (old.places ≡ []) → IsFit old.machine.processors table
    → ArePlacesOf old.machine.processors table places → drop from rows ≡ ran_said table places ++ behind → as_quantum (slice_get behind 0) ≡ None
    → P table places behind

-- The numbers of the faults of states.

abbrev pub read_fault_number : ReadFault → ℕ
read_fault_number (NoRow line) = 68
read_fault_number (Refused line why) = 69
read_fault_number Memory = 90
