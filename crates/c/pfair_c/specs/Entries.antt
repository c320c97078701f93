-- Entries, as C has them: what C means by one, and what is wrong with one by which C means nothing.
use Rattle.std.specs.Prelude.{ℕ, zero, suc, ◌≡◌, ◌≤◌, ◌<◌, ◌⊎◌, List, take, nat_eq, Option, option_map, Err, [], if◌then◌else◌}
use Rattle.std.specs.Result.{result_map_both}
use Rattle.std.specs.declared.option.Option.TheVariants.{None, Some}
use Rattle.pfair_entry.specs.Entry.{Logged}
use Rattle.pfair_entry.specs.Notice.{announced, checked, notice_fault_number, IsLoggable}
use Rattle.pfair_entry.specs.declared.notice.Change.{Change}
use Rattle.pfair_entry.specs.declared.notice.Change.TheVariants as change
use Rattle.pfair_c.specs.declared.entry.PfairName.{PfairName}
use Rattle.pfair_c.specs.declared.entry.PfairEntry.{PfairEntry}
use Rattle.pfair_entry.specs.declared.entry.Announcement.{Announcement}
use Rattle.pfair_entry.specs.declared.entry.Announcement.TheVariants.{Arrive, Depart, Late}
use Rattle.pfair_c.specs.Rows.{name_row}

-- the bytes of a name
abbrev pub spelled : PfairName → List ℕ
spelled name = take name.length name.bytes

-- what is announced by an entry of this kind
abbrev pub change_as : ℕ → PfairEntry → Option Change
change_as zero e = None
change_as (suc zero) e = Some (change.Arrive e.cost e.period (nat_eq e.early 1))
change_as (suc (suc zero)) e = Some change.Depart
change_as (suc (suc (suc n))) e = Some (change.Late e.index e.by)

abbrev pub change_of : PfairEntry → Option Change
change_of e = change_as e.kind e

-- the entry that C means, if it means one
abbrev pub logged_of : PfairEntry → Logged
logged_of e = record { floor = e.floor; said = option_map (λ c. (e.at, announced (spelled e.name) c)) (change_of e) }

-- ---- what is meant

-- one of the kinds, and of an arrival that it is early or isn't
abbrev pub IsInRange : PfairEntry → Type 0
IsInRange e = (e.kind ≤ 3) × (e.kind ≡ 1 → e.early ≤ 1)

-- all bytes of the name are there, if the kind has one
abbrev pub IsWhole : PfairEntry → Type 0
IsWhole e = 1 ≤ e.kind → e.name.length ≤ 16

-- C means an entry
abbrev pub IsMeant : PfairEntry → Type 0
IsMeant e = IsInRange e × IsWhole e × IsLoggable (logged_of e)

-- ---- what is wrong, by its number: the first that applies

abbrev pub IsEntryFault : PfairEntry → ℕ → Type 0
IsEntryFault e n =
    (((n ≡ 100) × (IsInRange e → ⊥)) ⊎ ((n ≡ 2) × IsInRange e × (1 ≤ e.kind) × (16 < e.name.length)))
    ⊎ (IsInRange e × IsWhole e × (result_map_both (λ e. e) notice_fault_number (checked (logged_of e)) ≡ Err n))

-- ---- entries that are given out

-- an entry that announces this, or nothing, with zeros if its kind has no such field
abbrev pub announced_row : (floor at : ℕ) → Announcement → PfairEntry
announced_row floor at (Arrive name weight early) =
    record { floor = floor; kind = 1; at = at; name = name_row name; cost = weight.cost; period = weight.period; early = if early then 1 else 0; index = 0; by = 0 }
announced_row floor at (Depart name) =
    record { floor = floor; kind = 2; at = at; name = name_row name; cost = 0; period = 0; early = 0; index = 0; by = 0 }
announced_row floor at (Late name index by) =
    record { floor = floor; kind = 3; at = at; name = name_row name; cost = 0; period = 0; early = 0; index = index; by = by }

abbrev pub said_row : ℕ → Option (ℕ × Announcement) → PfairEntry
said_row floor None = record { floor = floor; kind = 0; at = 0; name = name_row []; cost = 0; period = 0; early = 0; index = 0; by = 0 }
said_row floor (Some s) = announced_row floor s.0 s.1

-- an entry as C has it
abbrev pub entry_row : Logged → PfairEntry
entry_row e = said_row e.floor e.said
