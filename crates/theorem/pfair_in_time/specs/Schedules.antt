-- Which tasks can be served: tables of any planner, and how many quanta they give.
use Rattle.std.specs.Prelude.{ℕ, ◌≡◌, ◌*◌, ◌%◌, ◌<◌, ◌≤◌, ◌↔◌, Bool, List, [], map, length, sum_by, count_by, None, ◌+◌, ◌/◌, Option, Some}
use Rattle.std.specs.List.{AllByRecursion}
use Rattle.pfair_weight.specs.Name.{NameValue as Name, NamesApart}
use Rattle.pfair_weight.specs.Window.{Share, IsWeight, units_of, deadline_of}
use Rattle.pfair_entry.specs.declared.entry.Announcement.{Announcement}
use Rattle.pfair_entry.specs.declared.entry.Announcement.TheVariants.{Arrive}
use Rattle.pfair_replica.specs.Laws.{Among}
use Rattle.pfair_replica.specs.Replica.{Replica, said, numbers_below}
use Rattle.pfair_admission.specs.declared.decision.Decision.TheVariants.{Admitted}
use Rattle.pfair_admission.specs.Admission.{announcements, member_named}
use Rattle.pfair_table.specs.declared.slot.Decided.{Decided}
use Rattle.pfair_table.specs.Table.{Settings, Table, names_task, table, decisions, world}
use Rattle.pfair_admission.specs.Member.{Member}
use Rattle.pfair_table.specs.declared.slot.Pick.{Pick}

-- ---- tasks that join at slot 0

pub record Arrival : Type 0 where
  pub name : Name
  pub weight : Share
  pub early : Bool

abbrev pub announced : Arrival → Announcement
announced a = Arrive a.name a.weight a.early

-- names that differ, and weights whose periods divide the frame
pub record AreArrivals (frame : ℕ) (arrivals : List Arrival) : Type 0 where
  pub names : NamesApart (λ a. a.name) arrivals
  pub weights : AllByRecursion (λ a. IsWeight a.weight.cost a.weight.period) arrivals
  pub periods : AllByRecursion (λ a. frame % a.weight.period ≡ 0) arrivals

-- these arrivals are said at slot 0, and nothing else ever
pub record SaysOnly (x : Replica) (arrivals : List Arrival) : Type 0 where
  pub first : announcements (said x 0) ≡ map announced arrivals
  pub later : (t : ℕ) → 0 < t → said x t ≡ []

-- what they want of a frame, in quanta
abbrev pub units_wanted : ℕ → List Arrival → ℕ
units_wanted frame arrivals = sum_by (λ a. units_of a.weight frame) arrivals

-- ---- served

-- the quanta that a task has had before time t, by these tables of the slots
abbrev pub quanta_before : (ℕ → Table) → Name → ℕ → ℕ
quanta_before tables name t = count_by (λ slot. names_task name (tables slot)) (numbers_below t)

-- by the deadline of each of its subtasks up to time t it has had a quantum for that one and for each before it
abbrev pub IsServed : (ℕ → Table) → ℕ → Arrival → Type 0
IsServed tables t a = (i : ℕ) → deadline_of a.weight i 0 ≤ t → i ≤ quanta_before tables a.name (deadline_of a.weight i 0)

-- by the deadline of one of them it has not
abbrev pub IsLate : (ℕ → Table) → ℕ → Arrival → Type 0
IsLate tables t a = (i : ℕ) × (deadline_of a.weight i 0 ≤ t) × (quanta_before tables a.name (deadline_of a.weight i 0) < i)

-- Served if there is room: if nothing is said but arrivals at slot 0, all are admitted exactly if they want no more than there
-- is, and then all are served for ever.
abbrev pub ServedWhereThereIsRoom : Type 0
ServedWhereThereIsRoom =
    (s : Settings) (x : Replica) (arrivals : List Arrival) → 0 < s.frame → AreArrivals s.frame arrivals → SaysOnly x arrivals
    → (AllByRecursion (λ (d : Decided). d.decision ≡ Admitted) (decisions None s (said x) 0) ↔ (units_wanted s.frame arrivals ≤ s.processors * s.frame))
    × (units_wanted s.frame arrivals ≤ s.processors * s.frame → (a : Arrival) → Among arrivals a → (t : ℕ) → IsServed (table None s (said x)) t a)

-- No one serves more: if arrivals want more than there is, by any tables with no more rows in a slot than there are processors some
-- task is late by the end of the frame.
abbrev pub NoneServesMore : Type 0
NoneServesMore =
    (processors frame : ℕ) (tables : ℕ → Table) (arrivals : List Arrival) → AreArrivals frame arrivals
    → ((t : ℕ) → t < frame → length (tables t) ≤ processors) → processors * frame < units_wanted frame arrivals
    → (a : Arrival) × Among arrivals a × IsLate tables frame a

-- A static schedule repeats: that of tasks which all arrive at slot 0 and never change.

-- h is a multiple of each member's period
abbrev pub IsCommonMultiple : ℕ → List Member → Type 0
IsCommonMultiple h members = (m : Member) → Among members m → h % m.weight.period ≡ 0

-- the quanta of a member in h slots
abbrev pub quanta_in : ℕ → Option Member → ℕ
quanta_in h None = 0
quanta_in h (Some m) = units_of m.weight h

-- a row h slots later: that of the same task, for the subtask that is as many quanta later as the task has in h slots
abbrev pub later_row : ℕ → List Member → Pick → Pick
later_row h members p = record p { index = p.index + quanta_in h (member_named members p.name) }

-- Tables repeat: if nothing is said but arrivals at slot 0, and h is a common multiple of the periods of those that are admitted.
abbrev pub TablesRepeat : Type 0
TablesRepeat =
    (s : Settings) (x : Replica) (arrivals : List Arrival) (h : ℕ) → 0 < s.frame → SaysOnly x arrivals → AllByRecursion (λ a. IsWeight a.weight.cost a.weight.period) arrivals
    → IsCommonMultiple h (world None s (said x) 0) → (t : ℕ) → table None s (said x) (t + h) ≡ map (later_row h (world None s (said x) 0)) (table None s (said x) t)

-- So the first h tables give those of all slots.
abbrev pub RepeatsByPeriods : Type 0
RepeatsByPeriods =
    (s : Settings) (x : Replica) (arrivals : List Arrival) (h : ℕ) → 0 < s.frame → SaysOnly x arrivals → AllByRecursion (λ a. IsWeight a.weight.cost a.weight.period) arrivals
    → IsCommonMultiple h (world None s (said x) 0) → (t : ℕ) → table None s (said x) t ≡ map (later_row (t / h * h) (world None s (said x) 0)) (table None s (said x) (t % h))
