-- Entries before they are checked, and the first rule that refuses one: of names, of weights, of entries.
use Rattle.std.specs.Prelude.{ℕ, suc, ◌==◌, nat_lt, if◌then◌else◌, Bool, List, [], ◌∷◌, length, Option, None, Some, option_map, option_and_then, Result, Ok, Err, IfSome}
use Rattle.std.specs.Option.{option_or, option_map_or}
use Rattle.pfair_weight.specs.Name.{may_stand, IsTaskName, name_fault_number}
use Rattle.pfair_weight.specs.Window.{weight_fault_number}
use Rattle.pfair_weight.specs.declared.name.NameFault.{NameFault}
use Rattle.pfair_weight.specs.declared.name.NameFault.TheVariants as name
use Rattle.pfair_weight.specs.declared.weight.TheConstants.Weight.{MAX_PERIOD}
use Rattle.pfair_weight.specs.declared.weight.WeightFault.{WeightFault}
use Rattle.pfair_weight.specs.declared.weight.WeightFault.TheVariants as weight
use Rattle.pfair_entry.specs.Entry.{Logged, IsEntry, IsWeighed, entry_fault, entry_fault_number, name_of}
use Rattle.pfair_entry.specs.declared.entry.Announcement.{Announcement}
use Rattle.pfair_entry.specs.declared.entry.Announcement.TheVariants as said
use Rattle.pfair_entry.specs.declared.notice.Change.{Change}
use Rattle.pfair_entry.specs.declared.notice.Change.TheVariants.{Arrive, Depart, Late}
use Rattle.pfair_entry.specs.declared.notice.Notice.{Notice}
use Rattle.pfair_entry.specs.declared.notice.NoticeFault.{NoticeFault}
use Rattle.pfair_entry.specs.declared.notice.NoticeFault.TheVariants.{LogFull, Name, Weight, Entry}

-- ---- an entry before it is checked: with any name and any numbers

abbrev pub announced : List ℕ → Change → Announcement
announced name (Arrive cost period early) = said.Arrive name (record { cost = cost; period = period }) early
announced name Depart = said.Depart name
announced name (Late index by) = said.Late name index by

-- what a notice announces, with its stamp
abbrev pub noticed : Notice → ℕ × Announcement
noticed n = (n.at, announced n.name.now n.change)

abbrev pub unchecked : ℕ → Option Notice → Logged
unchecked floor notice = record { floor = floor; said = option_map noticed notice }

-- ---- what the rules allow

abbrev pub IsNamed : Announcement → Type 0
IsNamed a = IsTaskName (name_of a)

-- a task's name and a weight, if something is announced
abbrev pub IsWellSaid : Option (ℕ × Announcement) → Type 0
IsWellSaid said = IfSome said (λ s. IsNamed s.1 × IsWeighed s.1)

-- an entry that a log may have: beside name and weight, floor, stamp and announcement are within their limits
pub record IsLoggable (e : Logged) : Type 0 where
  pub well_said : IsWellSaid e.said
  pub entry : IsEntry e

-- ---- the first fault of a name and of a weight

-- the first place where an item fails the test of items at places, of items of which the first is at this place
abbrev pub first_failing : (ℕ → ℕ → Bool) → ℕ → List ℕ → Option ℕ
first_failing test place [] = None
first_failing test place (item ∷ items) = if test place item then first_failing test (suc place) items else Some place

abbrev pub name_fault : List ℕ → Option NameFault
name_fault bytes =
    if length bytes == 0 then Some name.Empty
    else (if nat_lt 16 (length bytes) then Some name.TooLong else option_map name.BadByte (first_failing may_stand 0 bytes))

abbrev pub weight_fault : ℕ → ℕ → Option WeightFault
weight_fault cost period =
    if cost == 0 then Some weight.ZeroCost
    else (if nat_lt period cost then Some weight.CostOverPeriod else (if nat_lt MAX_PERIOD period then Some weight.PeriodTooLong else None))

-- ---- the first of them all

abbrev pub share_fault : Announcement → Option WeightFault
share_fault (said.Arrive name share early) = weight_fault share.cost share.period
share_fault (said.Depart name) = None
share_fault (said.Late name index by) = None

-- first the name, then the weight
abbrev pub announced_fault : Announcement → Option NoticeFault
announced_fault a = option_or (option_map Name (name_fault (name_of a))) (option_map Weight (share_fault a))

-- and then the entry
abbrev pub refusal : Logged → Option NoticeFault
refusal e = option_or (option_and_then (λ s. announced_fault s.1) e.said) (option_map Entry (entry_fault e))

-- the entry, if no rule refuses it
abbrev pub checked : Logged → Result Logged NoticeFault
checked e = option_map_or Err (refusal e) (Ok e)

-- under which number a refusal is reported
abbrev pub notice_fault_number : NoticeFault → ℕ
notice_fault_number LogFull = 12
notice_fault_number (Name f) = name_fault_number f
notice_fault_number (Weight f) = weight_fault_number f
notice_fault_number (Entry f) = entry_fault_number f
