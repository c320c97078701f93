-- Members that a run begins with: carried from the run before, or restored one by one.
use Rattle.std.specs.Prelude.{ℕ, ◌≡◌, ◌≤◌, ◌+◌, ◌-◌, ◌*◌, ◌/◌, nat_lt, nat_le, List, [], ◌∷◌, ◌++◌, map, sum_by, filter, slice_get, take, Option, Some, None, if◌then◌else◌, ◌<◌, ◌==◌, ◌||◌, ◌&&◌, Bool, true, false, ⊤}
use Rattle.std.specs.List.{AllByRecursion, list_all}
use Rattle.pfair_entry.specs.declared.entry.Announcement.{Announcement}
use Rattle.pfair_entry.specs.declared.entry.Announcement.TheVariants.{Late}
use Rattle.pfair_entry.specs.declared.entry.TheConstants.Entry.{LAST_INDEX}
use Rattle.pfair_entry.specs.declared.entry.Said.{Said}
use Rattle.pfair_admission.specs.declared.members.TheConstants.Members.{LAST_SLOT}
use Rattle.pfair_admission.specs.declared.delay.Delay.{Delay}
use Rattle.pfair_admission.specs.Member.{Member, last_offset}
use Rattle.pfair_admission.specs.Admission.{Machine, member_named, decided, arrival, is_freed, IsNotBefore}
use Rattle.pfair_weight.specs.Window.{IsWeight}
use Rattle.pfair_admission.specs.declared.decision.Decision.TheVariants.{Admitted, Refused}
use Rattle.pfair_admission.specs.declared.member_state.MemberState.{MemberState}
use Rattle.pfair_admission.specs.declared.member_state.RestoreFault.{RestoreFault}
use Rattle.pfair_admission.specs.declared.member_state.RestoreFault.TheVariants.{NotAdmitted, NotLeft, Memory}

-- A member that is carried into a next run: whole jobs that are over are counted no more.

-- the whole jobs before the job of the last subtask that ran
abbrev pub jobs_done : Member → ℕ
jobs_done m = (m.next - 2) / m.weight.cost

-- their subtasks
abbrev pub subtasks_done : Member → ℕ
subtasks_done m = jobs_done m * m.weight.cost

-- ---- delays

-- those of subtasks that ran, and those of the next subtask and of later ones
abbrev pub passed_delays : ℕ → List Delay → List Delay
passed_delays next delays = filter (λ d. nat_lt d.index next) delays

abbrev pub coming_delays : ℕ → List Delay → List Delay
coming_delays next delays = filter (λ d. nat_le next d.index) delays

-- one delay of subtask 1 in place of some
abbrev pub as_one : List Delay → List Delay
as_one [] = []
as_one (d ∷ more) = record { index = 1; by = sum_by (λ d. d.by) (d ∷ more) } ∷ []

abbrev pub lowered : ℕ → Delay → Delay
lowered subtasks d = record d { index = d.index - subtasks }

-- the delays if subtask `next` is the next one, and subtasks are counted from so many later
abbrev pub delays_from : ℕ → ℕ → List Delay → List Delay
delays_from next subtasks delays = as_one (passed_delays next delays) ++ map (lowered subtasks) (coming_delays next delays)

abbrev pub carried_delays : Member → List Delay
carried_delays m = delays_from m.next (subtasks_done m) m.delays

-- ---- members

-- a member that joined as many periods later as it has jobs done
abbrev pub carried : Member → Member
carried m = record m { joined = m.joined + jobs_done m * m.weight.period; delays = carried_delays m; next = m.next - subtasks_done m }

-- it can be the member of a next run: a run has indexes for a whole job of it, and its offsets leave room for delays
pub record CanBeCarried (m : Member) : Type 0 where
  pub cost : (1 ≤ m.weight.cost) × (m.weight.cost ≤ LAST_INDEX)
  pub offset : last_offset (carried m) ≤ LAST_SLOT

-- the first of the members that can't be carried has that name
pub record IsFirstLeft (members : List Member) (name : List ℕ) : Type 0 where
  pub place : ℕ
  pub member : Member
  pub at : slice_get members place ≡ Some member
  pub named : member.name ≡ name
  pub left : CanBeCarried member → ⊥
  pub before : AllByRecursion CanBeCarried (take place members)

-- ---- a next run beside one long run

-- the subtasks that were taken off a next run's member, if those are the members before it was carried: it was if it joined before the run began
abbrev pub subtasks_of : Option Member → ℕ
subtasks_of None = 0
subtasks_of (Some m) = subtasks_done m

abbrev pub taken_off : List Member → ℕ → Option Member → ℕ
taken_off left begin None = 0
taken_off left begin (Some m) = if nat_lt m.joined begin then subtasks_of (member_named left m.name) else 0

-- what is announced to the next run's members, as it would be to those of the long run
abbrev pub raised : List Member → ℕ → List Member → Announcement → Announcement
raised left begin members (Late name index by) = Late name (index + taken_off left begin (member_named members name)) by
raised left begin members a = a

-- all that is said in slot t, one after the other
abbrev pub all_raised : List Member → ℕ → Machine → ℕ → List Member → List Said → List Said
all_raised left begin machine t members [] = []
all_raised left begin machine t members (a ∷ more) =
    record a { announcement = raised left begin members a.announcement } ∷ all_raised left begin machine t (decided machine t members a.announcement) more

-- Members that a run begins with, where they are restored one by one.

abbrev pub member_in : MemberState → Member
member_in s = record { name = s.name; weight = s.weight; early = s.early; joined = s.joined; delays = s.delays.items; next = s.next; freed_at = s.freed_at }

-- what a run that ended before slot t can leave: a member with a weight and no whole job to take off, that had joined and isn't freed before t
pub record IsLeftAt (t : ℕ) (m : Member) : Type 0 where
  pub weighed : IsWeight m.weight.cost m.weight.period
  pub able : CanBeCarried m
  pub again : carried m ≡ m
  pub first : 1 ≤ m.next
  pub joined : m.joined < t
  pub freed_at : IsNotBefore (Some t) m.freed_at

-- it can be restored behind these members: its name and its weight are admitted beside them
pub record CanBeRestored (machine : Machine) (t : ℕ) (members : List Member) (m : Member) : Type 0 where
  pub admitted : arrival machine members m.name m.weight ≡ Admitted
  pub left : IsLeftAt t m

-- why it can't
abbrev pub IsRestoreFault : Machine → ℕ → List Member → Member → RestoreFault → Type 0
IsRestoreFault machine t members m (NotAdmitted refusal) = arrival machine members m.name m.weight ≡ Refused refusal
IsRestoreFault machine t members m NotLeft = IsLeftAt t m → ⊥
IsRestoreFault machine t members m Memory = ⊤

-- ---- the same, as a test

-- the delays that have passed are one of subtask 1, ahead of those to come
abbrev pub is_summed_up : ℕ → List Delay → Bool
is_summed_up next [] = true
is_summed_up next (d ∷ more) = (d.index == 1 || nat_le next d.index) && list_all (λ d. nat_le next d.index) more

abbrev pub is_left_at : ℕ → Member → Bool
is_left_at t m =
    if nat_lt LAST_INDEX m.weight.cost || (nat_lt m.next 1 || nat_lt (m.weight.cost + 1) m.next) then false
    else if nat_le t m.joined || is_freed (t - 1) m.freed_at then false
    else is_summed_up m.next m.delays && nat_le (last_offset m) LAST_SLOT
