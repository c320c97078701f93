-- What the run after a run begins with.
use Rattle.std.specs.Prelude.{ℕ, suc, ◌≡◌, ◌≤◌, ◌<◌, ◌+◌, ◌-◌, ◌*◌, nat_lt, List, map, Option, Some, if◌then◌else◌, true, false, length, slice_get}
use Rattle.std.specs.List.{AllByRecursion}
use Rattle.pfair_weight.specs.Name.{NamesApart}
use Rattle.pfair_weight.specs.Window.{IsWeight}
use Rattle.pfair_order.specs.declared.Key.{Key}
use Rattle.pfair_entry.specs.Entry.{IsWeighed}
use Rattle.pfair_admission.specs.Member.{Member, lag_at, next_key}
use Rattle.pfair_admission.specs.Admission.{announcements, member_named, present, Roster}
use Rattle.pfair_admission.specs.Carried.{jobs_done, carried, taken_off, all_raised, CanBeCarried, IsFirstLeft}
use Rattle.pfair_table.specs.declared.slot.Pick.{Pick}
use Rattle.pfair_table.specs.Table.{Settings, Carried, Origin, Story, Table, History, machine, slot_of, members_before, history, world, table, decisions}
use Rattle.pfair_table.specs.Places.{table_before, places_before, places_in}
use Rattle.pfair_table.specs.Planned.{last_or}
use Rattle.pfair_replica.specs.Replica.{replica_of, Agree, has_torn, said, torn_keys}
use Rattle.pfair_admission.specs.declared.members.TheConstants.Members.{LAST_SLOT}
use Rattle.pfair_table.specs.declared.answer.NextRunFault.{NextRunFault}
use Rattle.pfair_table.specs.declared.answer.NextRunFault.TheVariants.{Torn, Spent, Unfinished, PastLastSlot, CannotCarry, Memory}
use Rattle.pfair_table.specs.Events.{Course, begin_at}
use Rattle.pfair_table.specs.Refinement.{Dispatch, members_after}

-- A run and the next one, beside one long run in which all is said that is said in both.

-- each announced arrival says a weight, as the type of weights guarantees
abbrev pub IsWeighedStory : Story → Type 0
IsWeighedStory story = (t : ℕ) → AllByRecursion IsWeighed (announcements (story t))

-- a member that has joined before a slot, and so has the job of its last subtask that ran
pub record HasBegun (slot : ℕ) (m : Member) : Type 0 where
  pub weighed : IsWeight m.weight.cost m.weight.period
  pub first : 1 ≤ m.next
  pub joined : m.joined + jobs_done m * m.weight.period < slot

-- where a run can begin: as a first run does, or with members that have joined, each name once
pub record IsBegun (o : Origin) : Type 0 where
  pub named : NamesApart (λ m. m.name) (members_before o)
  pub begun : AllByRecursion (HasBegun (slot_of o 0)) (members_before o)

-- the last table of some slots, and its places
abbrev pub last_table : Origin → History → Table
last_table o h = last_or (table_before o) h.tables

abbrev pub last_places : Origin → History → List ℕ
last_places o h = last_or (places_before o) (places_in o h.tables)

-- what a next run takes over from the first n slots of a run
abbrev pub left_over : Origin → Settings → Story → ℕ → Carried
left_over o s story n =
    let h = history o s story n in
    record { slot = slot_of o n; machine = machine s; members = map carried h.members; table = last_table o h; places = last_places o h }

-- what is said in the long run: what is said in its first n slots, and then what is said in the next run, with the indexes of the long run
abbrev pub both_stories : Origin → Settings → Story → ℕ → Story → Story
both_stories o s first n second t =
    let left = left_over o s first n in
    if nat_lt t n then first t
    else all_raised (history o s first n).members left.slot (machine s) (left.slot + (t - n))
    (present (left.slot + (t - n)) (history (Some left) s second (t - n)).members) (second (t - n))

-- a table of the next run with the indexes of the long run
abbrev pub raised_rows : List Member → ℕ → List Member → Table → Table
raised_rows left begin members rows = map (λ (p : Pick). record p { index = p.index + taken_off left begin (member_named members p.name) }) rows

-- what of a member is the same wherever its subtasks are counted from: the key of its next subtask, and its freeing slot
abbrev pub key_and_freeing : Member → Key × Option ℕ
key_and_freeing m = (next_key m, m.freed_at)

-- Slot t of the next run is slot n + t of the long run: it has the same table, but that indexes are lower by the subtasks of the jobs that
-- were taken off, the same decisions and the same places; before and after its quanta the members stand as they do there, and after
-- them they have the same lags.
pub record IsSlotOf (o : Origin) (s : Settings) (first : Story) (n : ℕ) (second : Story) (t : ℕ) : Type 0 where
  pub members : map key_and_freeing (world (Some (left_over o s first n)) s second t) ≡ map key_and_freeing (world o s (both_stories o s first n second) (n + t))
  pub rows : raised_rows (history o s first n).members (slot_of o n) (world (Some (left_over o s first n)) s second t) (table (Some (left_over o s first n)) s second t)
      ≡ table o s (both_stories o s first n second) (n + t)
  pub lags : map (lag_at (slot_of o (suc (n + t)))) (history (Some (left_over o s first n)) s second (suc t)).members ≡ map (lag_at (slot_of o (suc (n + t)))) (history o s (both_stories o s first n second) (suc (n + t))).members
  pub left : map key_and_freeing (history (Some (left_over o s first n)) s second (suc t)).members ≡ map key_and_freeing (history o s (both_stories o s first n second) (suc (n + t))).members
  pub decided : map (λ d. d.decision) (decisions (Some (left_over o s first n)) s second t) ≡ map (λ d. d.decision) (decisions o s (both_stories o s first n second) (n + t))
  pub places : last_places (Some (left_over o s first n)) (history (Some (left_over o s first n)) s second (suc t)) ≡ last_places o (history o s (both_stories o s first n second) (suc (n + t)))

-- So runs go on as one: whatever is said in them, each slot of a next run is one of the long run; and a next run can be followed by another.
pub record RunsGoOn : Type 0 where
  pub slots : (o : Origin) (s : Settings) (first second : Story) (n t : ℕ) → IsBegun o → IsWeighedStory first → IsWeighedStory second → IsSlotOf o s first n second t
  pub again : (o : Origin) (s : Settings) (first : Story) (n : ℕ) → IsBegun o → IsWeighedStory first → IsBegun (Some (left_over o s first n))

-- nothing is torn or spent, and all slots are planned
pub record IsFinished (d : Dispatch) : Type 0 where
  pub whole : has_torn (replica_of d.replica) ≡ false
  pub able : d.spent ≡ false
  pub all : d.settings.slots ≤ length d.tables

-- the members after the last slot
abbrev pub members_left : Dispatch → List Member
members_left d = members_after d.origin d.settings (replica_of d.replica) d.settings.slots

-- the slot after the last, counted from the first slot of the first run
abbrev pub end_of : Dispatch → ℕ
end_of d = slot_of d.origin d.settings.slots

-- what the run after this one takes over
abbrev pub left_by : Dispatch → Carried
left_by d = left_over d.origin d.settings (said (replica_of d.replica)) d.settings.slots

-- the next run at its start: with that taken over, it holds nothing and has planned nothing
abbrev pub start_after : Dispatch → Course
start_after d = begin_at (Some (left_by d)) d.settings d.replica.capacity

-- a run of so many slots can follow: this one is finished, the next ends early enough, and each member left can be carried
pub record CanBeFollowed (d : Dispatch) (slots : ℕ) : Type 0 where
  pub finished : IsFinished d
  pub within : end_of d + slots ≤ LAST_SLOT
  pub able : AllByRecursion CanBeCarried (members_left d)

-- the members that it begins with
pub record AreCarriedOf (d : Dispatch) (roster : Roster) : Type 0 where
  pub machine_is : roster.machine ≡ machine d.settings
  pub members_are : roster.members ≡ map carried (members_left d)

-- why no run of so many slots begins after this one, by the first cause that applies
abbrev pub IsNextRunFault : Dispatch → ℕ → NextRunFault → Type 0
IsNextRunFault d slots (Torn proc number) = (has_torn (replica_of d.replica) ≡ true) × (slice_get (torn_keys (replica_of d.replica)) 0 ≡ Some (proc, number))
IsNextRunFault d slots Spent = (has_torn (replica_of d.replica) ≡ false) × (d.spent ≡ true)
IsNextRunFault d slots Unfinished = (has_torn (replica_of d.replica) ≡ false) × (d.spent ≡ false) × (length d.tables < d.settings.slots)
IsNextRunFault d slots PastLastSlot = IsFinished d × (LAST_SLOT < end_of d + slots)
IsNextRunFault d slots (CannotCarry name) = IsFinished d × (end_of d + slots ≤ LAST_SLOT) × IsFirstLeft (members_left d) name
IsNextRunFault d slots Memory = CanBeFollowed d slots

-- why no run of so many slots begins with that state
abbrev pub IsResumeFault : Carried → ℕ → NextRunFault → Type 0
IsResumeFault c slots PastLastSlot = LAST_SLOT < c.slot + slots
IsResumeFault c slots Memory = c.slot + slots ≤ LAST_SLOT
IsResumeFault c slots f = ⊥

-- If settings and contents agree, and where the runs began, finished runs leave the same.
abbrev pub LeaveAlike : Dispatch → Dispatch → Type 0
LeaveAlike c d = c.settings ≡ d.settings → c.origin ≡ d.origin → Agree (replica_of c.replica) (replica_of d.replica) → IsFinished c → IsFinished d → left_by c ≡ left_by d
