-- Which subtasks run in each slot, as far as a replica settles it.
use Rattle.std.specs.Prelude.{ℕ, List, zero, suc, ◌+◌, min, Bool, not, ◌&&◌, nat_le, [], ◌∷◌, ◌++◌, map, filter, count_by, drop, Option, Some, None}
use Rattle.pfair_order.specs.Order.{pd2_cmp}
use Rattle.pfair_order.specs.declared.Key.{Key}
use Rattle.pfair_table.specs.declared.slot.Pick.{Pick}
use Rattle.pfair_table.specs.declared.slot.Decided.{Decided}
use Rattle.std.specs.List.{list_any, zip}
use Rattle.pfair_ready.specs.Queue.{NameValue as Name}
use Rattle.pfair_entry.specs.Entry.{name_eq}
use Rattle.pfair_replica.specs.Replica.{Replica, said, frontier, numbers_below}
use Rattle.pfair_entry.specs.declared.entry.Said.{Said}
use Rattle.pfair_admission.specs.Admission.{Machine, member_named, announcements, boundary, boundary_decisions, ran}
use Rattle.pfair_admission.specs.Member.{Member, is_departing, eligible_from, next_key}
use Rattle.pfair_admission.specs.declared.decision.Decision.{Decision}
use Rattle.pfair_order.specs.Order as by

-- The first of some subtasks' keys in the PD2 order, by rank.

-- those that fewer than m of the keys go before, by how many do
abbrev pub first_by_rank : ℕ → List Key → List Key
first_by_rank = by.first_by_rank pd2_cmp

pub record Settings : Type 0 where
  pub processors : ℕ
  pub frame : ℕ
  pub slots : ℕ

abbrev pub machine : Settings → Machine
machine s = record { processors = s.processors; frame = s.frame }

-- a slot's quanta, in PD2 order
abbrev pub Table : Type 0
Table = List Pick

abbrev pub names_task : Name → Table → Bool
names_task name table = list_any (λ p. name_eq name p.name) table

-- ---- eligible subtasks

-- its next subtask may run in slot t
abbrev pub is_eligible : ℕ → Member → Bool
is_eligible t m = not (is_departing m) && nat_le (eligible_from m m.next) t

abbrev pub eligible : ℕ → List Member → List Key
eligible t members = map next_key (filter (is_eligible t) members)

abbrev pub index_of : Option Member → ℕ
index_of None = 0
index_of (Some m) = m.next

abbrev pub pick : List Member → Key → Pick
pick members k = record { name = k.name; index = index_of (member_named members k.name) }

-- ---- quanta

-- the members after each row of a table has run
abbrev pub all_ran : Table → List Member → List Member
all_ran [] members = members
all_ran (p ∷ picks) members = all_ran picks (ran p.name members)

-- the quanta that an incarnation has had, by the tables of all slots of a first run so far: those of its joining slot and after that name it
abbrev pub quanta : List Table → Member → ℕ
quanta tables m = count_by (names_task m.name) (drop m.joined tables)

abbrev pub next_index : List Table → Member → ℕ
next_index tables m = 1 + quanta tables m

abbrev pub counted_one : List Table → Member → Member
counted_one tables m = record m { next = next_index tables m }

abbrev pub counted : List Table → List Member → List Member
counted tables members = map (counted_one tables) members

-- ---- where a run begins

-- what a run takes over from the one before: the slot after that one's last, its machine and the members, and its last table with the places
pub record Carried : Type 0 where
  pub slot : ℕ
  pub machine : Machine
  pub members : List Member
  pub table : Table
  pub places : List ℕ

-- a first run takes over nothing
abbrev pub Origin : Type 0
Origin = Option Carried

-- slot t of the run, counted from the first slot of the first run
abbrev pub slot_of : Origin → ℕ → ℕ
slot_of None t = t
slot_of (Some c) t = c.slot + t

abbrev pub members_before : Origin → List Member
members_before None = []
members_before (Some c) = c.members

-- ---- slot after slot

-- what the slots so far have left: the members after the quanta of the last one, and the table of each slot
pub record History : Type 0 where
  pub members : List Member
  pub tables : List Table

-- the members after the boundary of slot t, if this was said
abbrev pub members_at : Settings → ℕ → List Said → History → List Member
members_at s t announced h = boundary (machine s) t h.members (announcements announced)

-- the keys of slot t's quanta: the first eligible subtasks in PD2 order, as many as there are processors
abbrev pub chosen : Settings → ℕ → List Member → List Key
chosen s t members = first_by_rank s.processors (eligible t members)

abbrev pub table_of : Settings → ℕ → List Member → Table
table_of s t members = map (pick members) (chosen s t members)

abbrev pub slot_after : Settings → ℕ → List Said → History → History
slot_after s t announced h =
    let members = members_at s t announced h in
    let rows = table_of s t members in
    record { members = all_ran rows members; tables = h.tables ++ rows ∷ [] }

abbrev pub with_decision : Said × Decision → Decided
with_decision p = record { proc = p.0.proc; number = p.0.number; announcement = p.0.announcement; decision = p.1 }

-- what was said, each with its decision
abbrev pub with_decisions : List Said → List Decision → List Decided
with_decisions announced ds = map with_decision (zip announced ds)

abbrev pub decided_at : Settings → ℕ → List Said → History → List Decided
decided_at s t announced h = with_decisions announced (boundary_decisions (machine s) t h.members (announcements announced))

-- what is said in each slot of a run
abbrev pub Story : Type 0
Story = ℕ → List Said

-- the slots before slot t of a run in which that is said
abbrev pub history : Origin → Settings → Story → ℕ → History
history o s story zero = record { members = members_before o; tables = [] }
history o s story (suc t) = slot_after s (slot_of o t) (story t) (history o s story t)

-- the members in its slot t
abbrev pub world : Origin → Settings → Story → ℕ → List Member
world o s story t = members_at s (slot_of o t) (story t) (history o s story t)

abbrev pub table : Origin → Settings → Story → ℕ → Table
table o s story t = table_of s (slot_of o t) (world o s story t)

-- what is decided at the boundary of its slot t, in order
abbrev pub decisions : Origin → Settings → Story → ℕ → List Decided
decisions o s story t = decided_at s (slot_of o t) (story t) (history o s story t)

-- ---- as far as a replica settles it

-- the slots below its frontier and the number of slots
abbrev pub settled_slots : Settings → Replica → List ℕ
settled_slots s x = numbers_below (min (frontier x) s.slots)

-- their tables
abbrev pub plan : Origin → Settings → Replica → List Table
plan o s x = map (table o s (said x)) (settled_slots s x)

-- what is decided at their boundaries
abbrev pub plan_decisions : Origin → Settings → Replica → List (List Decided)
plan_decisions o s x = map (decisions o s (said x)) (settled_slots s x)
