-- Which processor runs each row of a table, where a task that goes on running stays where it is.
use Rattle.std.specs.Prelude.{ℕ, ◌≡◌, ◌≢◌, ◌≤◌, ◌<◌, Bool, not, ◌==◌, List, [], ◌∷◌, length, map, find, Option, Some, None, unwrap_or, if◌then◌else◌, ⊤, ◌+◌, ◌*◌, ◌%◌, fold, slice_get, slice_index, ◌&&◌, nat_lt, ◌++◌}
use Rattle.std.specs.List.{AllByRecursion, list_any}
use Rattle.pfair_weight.specs.Name.{NamesApart}
use Rattle.pfair_ready.specs.Queue.{NameValue as Name}
use Rattle.pfair_entry.specs.Entry.{name_eq}
use Rattle.pfair_replica.specs.Replica.{numbers_below}
use Rattle.pfair_table.specs.Table.{Table, Origin, Settings, Carried, machine, names_task}
use Rattle.std.specs.Int.{bit_at}
use Rattle.pfair_table.specs.declared.slot.Pick.{Pick}
use Rattle.pfair_admission.specs.declared.members.TheConstants.Members.{LAST_SLOT}
use Rattle.pfair_admission.specs.Admission.{Machine, Roster}
use Rattle.pfair_admission.specs.Laws.{AreInFrame, HaveRoom}
use Rattle.pfair_admission.specs.Member.{Member}
use Rattle.pfair_admission.specs.Carried.{IsLeftAt}
use Rattle.pfair_table.specs.declared.settings.TheConstants.Settings.{MAX_PROCESSORS, MAX_FRAME, MAX_SLOTS}

-- the place of a task in a table whose rows have these places
abbrev pub place_of : Table → List ℕ → Name → Option ℕ
place_of (p ∷ picks) (k ∷ places) name = if name_eq name p.name then Some k else place_of picks places name
place_of _ _ name = None

-- where each row stays: the place that its task had in the table before
abbrev pub kept_places : Table → List ℕ → Table → List (Option ℕ)
kept_places before places now = map (λ p. place_of before places p.name) now

-- the processors that the rows of a table keep
abbrev pub all_kept : List (Option ℕ) → List ℕ
all_kept [] = []
all_kept (None ∷ kept) = all_kept kept
all_kept (Some k ∷ kept) = k ∷ all_kept kept

abbrev pub is_used : List ℕ → ℕ → Bool
is_used used k = list_any (λ j. j == k) used

-- the least processor that is not in use: of as many as are in use one is free, or else the next one is
abbrev pub free_place : List ℕ → ℕ
free_place used = unwrap_or (find (λ k. not (is_used used k)) (numbers_below (length used))) (length used)

-- the other rows, in row order, each take the least processor that is not in use, which from then on is
abbrev pub filled : (used : List ℕ) → List (Option ℕ) → List ℕ
filled used [] = []
filled used (Some k ∷ kept) = k ∷ filled used kept
filled used (None ∷ kept) = let k = free_place used in k ∷ filled (k ∷ used) kept

-- the places of a table, if the table before it has those places: all that its rows keep is in use from the first row on
abbrev pub places_after : Table → List ℕ → Table → List ℕ
places_after before places now = let kept = kept_places before places now in filled (all_kept kept) kept

abbrev pub places_from : Table → List ℕ → List Table → List (List ℕ)
places_from before places [] = []
places_from before places (now ∷ tables) = let here = places_after before places now in here ∷ places_from now here tables

-- the table of the slot before a run, and its places
abbrev pub table_before : Origin → Table
table_before None = []
table_before (Some c) = c.table

abbrev pub places_before : Origin → List ℕ
places_before None = []
places_before (Some c) = c.places

-- the places of a run's tables
abbrev pub places_in : Origin → List Table → List (List ℕ)
places_in o tables = places_from (table_before o) (places_before o) tables

-- ---- what places have to be

-- no more rows than that, and each name once
abbrev pub IsFit : ℕ → Table → Type 0
IsFit processors rows = (length rows ≤ processors) × NamesApart (λ p. p.name) rows

-- no two are equal
abbrev pub AllDiffer : List ℕ → Type 0
AllDiffer [] = ⊤
AllDiffer (k ∷ places) = AllByRecursion (λ j. k ≢ j) places × AllDiffer places

-- one place for each row, each a processor, and no two equal
pub record ArePlacesOf (processors : ℕ) (rows : Table) (places : List ℕ) : Type 0 where
  pub one_each : length places ≡ length rows
  pub below : AllByRecursion (λ k. k < processors) places
  pub differ : AllDiffer places

-- Processors in use, as the bits of a number.

-- the bit of a processor is set if it is in use
abbrev pub AreInUse : ℕ → List ℕ → Type 0
AreInUse bits used = (k : ℕ) → k < 64 → bit_at bits k ≡ (if is_used used k then 1 else 0)

-- Rows of a table, found by what their names come to.

-- the bucket that a name falls into: a number below 256 that differs for most names
abbrev pub bucket : List ℕ → ℕ
bucket name = fold (λ so_far byte. ((so_far * 31) % 256 + byte) % 256) 0 name

-- for each bucket one more than a row whose name falls into it, or 0 if there is no such row
pub record AreBucketsOf (rows : Table) (ends : List ℕ) : Type 0 where
  pub within : (b : ℕ) → slice_index ends b ≤ length rows
  pub found : (r : ℕ) (p : Pick) → slice_get rows r ≡ Some p → slice_index ends (bucket p.name) ≢ 0

-- The limits of settings, and of what a run takes over.

pub record IsSettings (s : Settings) : Type 0 where
  pub processors : (0 < s.processors) × (s.processors ≤ MAX_PROCESSORS)
  pub frame : (0 < s.frame) × (s.frame ≤ MAX_FRAME)
  pub slots : (0 < s.slots) × (s.slots ≤ MAX_SLOTS)

-- members that a run which ended before slot t can leave: they have distinct names, the machine has room for them, and each can be left
pub record AreLeftAt (t : ℕ) (machine : Machine) (members : List Member) : Type 0 where
  pub named : NamesApart (λ m. m.name) members
  pub room : HaveRoom machine members
  pub in_frame : AreInFrame machine members
  pub left : AllByRecursion (IsLeftAt t) members

-- what a run takes over that begins at that slot with those members, behind a slot with that table and these places
abbrev pub taken_over : ℕ → Roster → Table → List ℕ → Carried
taken_over slot roster table places = record { slot = slot; machine = roster.machine; members = roster.members; table = table; places = places }

-- what some run can take over
pub record IsState (c : Carried) : Type 0 where
  pub processors : (0 < c.machine.processors) × (c.machine.processors ≤ MAX_PROCESSORS)
  pub frame : (0 < c.machine.frame) × (c.machine.frame ≤ MAX_FRAME)
  pub members : AreLeftAt c.slot c.machine c.members
  pub early : c.slot ≤ LAST_SLOT
  pub rows : IsFit c.machine.processors c.table
  pub places : ArePlacesOf c.machine.processors c.table c.places

-- that in which a first run begins: slot 0, without members
abbrev pub first_state : Settings → Carried
first_state s = record { slot = 0; machine = machine s; members = []; table = []; places = [] }

-- the settings of a run of so many slots that begins with it
abbrev pub settings_from : Carried → ℕ → Settings
settings_from c slots = record { processors = c.machine.processors; frame = c.machine.frame; slots = slots }

-- a row can stand behind those of the last table: each has a processor of its own, and neither its task nor its place has another row
abbrev pub can_add_row : Carried → Pick → ℕ → Bool
can_add_row c p place =
    nat_lt (length c.table) c.machine.processors && (nat_lt place c.machine.processors && (not (names_task p.name c.table) && not (is_used c.places place)))

abbrev pub with_row : Carried → Pick → ℕ → Carried
with_row c p place = record c { table = c.table ++ p ∷ []; places = c.places ++ place ∷ [] }

-- What a run of these settings can take over: members of its machine that a run before it can leave, early enough, and a table that a
-- slot can have, with its places.
pub record IsCarried (s : Settings) (c : Carried) : Type 0 where
  pub machine_is : c.machine ≡ machine s
  pub members : AreLeftAt c.slot c.machine c.members
  pub in_time : c.slot + s.slots ≤ LAST_SLOT
  pub rows : IsFit s.processors c.table
  pub places : ArePlacesOf s.processors c.table c.places

abbrev pub IsOrigin : Origin → Settings → Type 0
IsOrigin None s = ⊤
IsOrigin (Some c) s = IsCarried s c
