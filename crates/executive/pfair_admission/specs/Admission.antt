-- Who is a member, and what is decided at the boundary of a slot.
use Rattle.std.specs.Prelude.{ℕ, ◌||◌, ◌+◌, ◌*◌, ◌%◌, Bool, false, not, nat_lt, nat_le, ◌==◌, List, [], ◌∷◌, ◌++◌, map, filter, find, sum_by, Option, Some, None, is_some, if◌then◌else◌, min, ◌≡◌, ◌≤◌, ⊤, length, take}
use Rattle.pfair_weight.specs.Window.{Share, units_of, release_of}
use Rattle.pfair_entry.specs.Entry.{name_eq}
use Rattle.pfair_entry.specs.declared.entry.Announcement.{Announcement}
use Rattle.pfair_entry.specs.declared.entry.Announcement.TheVariants.{Arrive, Depart, Late}
use Rattle.pfair_entry.specs.declared.entry.Said.{Said}
use Rattle.pfair_admission.specs.declared.decision.Decision.{Decision}
use Rattle.pfair_admission.specs.declared.decision.Decision.TheVariants.{Admitted, Departing, Delayed, Refused}
use Rattle.pfair_admission.specs.declared.members.Quantum.{Quantum}
use Rattle.pfair_admission.specs.declared.decision.Refusal.TheVariants.{NameTaken, PeriodOutsideFrame, NoRoom, NoSuchTask, AlreadyDeparting, AlreadyReleased}
use Rattle.pfair_admission.specs.Member.{Member, theta, is_departing, freeing_slot, eligible_from, next_key, last_offset}
use Rattle.std.specs.List.{AllByRecursion}
use Rattle.pfair_weight.specs.declared.window.TheConstants.{MAX_OFFSET}
use Rattle.pfair_entry.specs.declared.entry.TheConstants.Entry.{LONGEST_DELAY}
use Rattle.pfair_admission.specs.declared.members.TheConstants.Members.{LAST_SLOT}
use Rattle.pfair_admission.specs.declared.decision.Refusal.{Refusal}

-- the processors, and the slots of a frame, that weights are shares of
pub record Machine : Type 0 where
  pub processors : ℕ
  pub frame : ℕ

abbrev pub is_named : List ℕ → Member → Bool
is_named name m = name_eq name m.name

abbrev pub member_named : List Member → List ℕ → Option Member
member_named members name = find (is_named name) members

-- the units of all members as they are
abbrev pub claimed : ℕ → List Member → ℕ
claimed frame members = sum_by (λ m. units_of m.weight frame) members

-- ---- decisions, each the first that applies

abbrev pub arrival : Machine → List Member → List ℕ → Share → Decision
arrival machine members name w =
    if is_some (member_named members name) then Refused NameTaken
    else if not (machine.frame % w.period == 0) then Refused PeriodOutsideFrame
    else if nat_lt (machine.processors * machine.frame) (claimed machine.frame members + units_of w machine.frame) then Refused NoRoom
    else Admitted

abbrev pub departure : ℕ → Option Member → Decision
departure t None = Refused NoSuchTask
departure t (Some m) = if is_departing m then Refused AlreadyDeparting else Departing (freeing_slot m t)

abbrev pub late_release : ℕ → Option Member → ℕ → Decision
late_release t None index = Refused NoSuchTask
late_release t (Some m) index =
    if is_departing m then Refused AlreadyDeparting
    else if nat_lt (release_of m.weight index (theta m index)) t || nat_lt index m.next then Refused AlreadyReleased
    else Delayed

-- the decision on an announcement that is stamped t
abbrev pub decision : Machine → ℕ → List Member → Announcement → Decision
decision machine t members (Arrive name w early) = arrival machine members name w
decision machine t members (Depart name) = departure t (member_named members name)
decision machine t members (Late name index by) = late_release t (member_named members name) index

-- ---- what a decision does

abbrev pub newcomer : ℕ → List ℕ → Share → Bool → Member
newcomer t name w early = record { name = name; weight = w; early = early; joined = t; delays = []; next = 1; freed_at = None }

abbrev pub with_freeing : ℕ → Member → Member
with_freeing slot m = record m { freed_at = Some slot }

abbrev pub with_delay : ℕ → ℕ → Member → Member
with_delay index by m = record m { delays = m.delays ++ record { index = index; by = by } ∷ [] }

-- the member of that name, changed
abbrev pub change : List ℕ → (Member → Member) → List Member → List Member
change name f members = map (λ m. if is_named name m then f m else m) members

-- what a decision does. A refused announcement changes nothing
abbrev pub effect : ℕ → List Member → Announcement → Decision → List Member
effect t members (Arrive name w early) Admitted = members ++ newcomer t name w early ∷ []
effect t members (Depart name) (Departing slot) = change name (with_freeing slot) members
effect t members (Late name index by) Delayed = change name (with_delay index by) members
effect t members _ _ = members

-- ---- the boundary of slot t

abbrev pub is_freed : ℕ → Option ℕ → Bool
is_freed t None = false
is_freed t (Some slot) = nat_le slot t

-- those whose freeing slot is at most t are gone
abbrev pub present : ℕ → List Member → List Member
present t members = filter (λ m. not (is_freed t m.freed_at)) members

-- the members after an announcement is decided
abbrev pub decided : Machine → ℕ → List Member → Announcement → List Member
decided machine t members a = present t (effect t members a (decision machine t members a))

abbrev pub all_decided : Machine → ℕ → List Member → List Announcement → List Member
all_decided machine t members [] = members
all_decided machine t members (a ∷ more) = all_decided machine t (decided machine t members a) more

abbrev pub all_decisions : Machine → ℕ → List Member → List Announcement → List Decision
all_decisions machine t members [] = []
all_decisions machine t members (a ∷ more) =
    decision machine t members a ∷ all_decisions machine t (decided machine t members a) more

-- first those that are freed go, and then the announcements are decided one by one
abbrev pub boundary : Machine → ℕ → List Member → List Announcement → List Member
boundary machine t members announced = all_decided machine t (present t members) announced

abbrev pub boundary_decisions : Machine → ℕ → List Member → List Announcement → List Decision
boundary_decisions machine t members announced = all_decisions machine t (present t members) announced

-- what was announced, in order
abbrev pub announcements : List Said → List Announcement
announcements announced = map (λ (a : Said). a.announcement) announced

-- ---- a quantum

-- a member, unless it is departing
abbrev pub running : Option Member → Option Member
running None = None
running (Some m) = if is_departing m then None else Some m

abbrev pub with_quantum : Member → Member
with_quantum m = record m { next = m.next + 1 }

-- a quantum, wherever its member stands
abbrev pub seatless : Quantum → Quantum
seatless q = record q { seat = 0 }

-- the quantum of its next subtask, and what comes after it
abbrev pub quantum_of : Member → Quantum
quantum_of m = record { index = m.next; seat = 0; next_from = eligible_from m (m.next + 1); next_key = next_key (with_quantum m) }

-- the members after the named one has had a quantum
abbrev pub ran : List ℕ → List Member → List Member
ran name members = change name with_quantum members

-- The members, with the machine that they share.

pub record Membership : Type 0 where
  pub machine : Machine
  pub members : List Member

-- A member after what is decided on it.

-- after the decision on its departure
abbrev pub after_departure : Decision → Member → Member
after_departure (Departing slot) m = with_freeing slot m
after_departure _ m = m

-- after the decision on its late release
abbrev pub after_late_release : ℕ → ℕ → Decision → Member → Member
after_late_release index by Delayed m = with_delay index by m
after_late_release index by _ m = m

-- after a slot in which it is to have a quantum
abbrev pub after_quantum : Member → Member
after_quantum m = if is_departing m then m else with_quantum m

-- Members that go, and when the first of them goes.

-- the earlier of two slots, if there are any
abbrev pub earlier_of : Option ℕ → Option ℕ → Option ℕ
earlier_of None right = right
earlier_of (Some a) None = Some a
earlier_of (Some a) (Some b) = Some (min a b)

-- no freeing slot is before the first
abbrev pub IsNotBefore : Option ℕ → Option ℕ → Type 0
IsNotBefore first None = ⊤
IsNotBefore None (Some slot) = ⊥
IsNotBefore (Some first) (Some slot) = first ≤ slot

-- no member is freed before the first freeing slot, and none at all if there is none
abbrev pub NoneFreedBefore : Option ℕ → List Member → Type 0
NoneFreedBefore first members = AllByRecursion (λ m. IsNotBefore first m.freed_at) members

-- who is freed at slot t is gone
abbrev pub NoneFreed : ℕ → List Member → Type 0
NoneFreed t members = AllByRecursion (λ m. is_freed t m.freed_at ≡ false) members

-- What a contract sees of the members.

pub record Roster : Type 0 where
  pub machine : Machine
  pub members : List Member  -- in the order of admission
  pub heard : ℕ  -- how many announcements, over all boundaries
  pub last_slot : Option ℕ  -- of the last boundary

-- the boundary of slot t: who is freed is gone, the announcements are decided one by one, and all count as heard
abbrev pub after_boundary : ℕ → List Said → Roster → Roster
after_boundary t announced r = record {
  machine = r.machine;
  members = boundary r.machine t r.members (announcements announced);
  heard = r.heard + length announced;
  last_slot = Some t;
}

-- the same of a boundary that an allocation failed in: only some beginning of the announcements is decided
abbrev pub IsCutShort : ℕ → List Said → Roster → Roster → Type 0
IsCutShort t announced old new =
    (k : ℕ) × (new ≡ record (after_boundary t announced old) { members = boundary old.machine t old.members (take k (announcements announced)) })

-- after so many announcements no member's offsets are past what as many of the longest delays make of the last slot
abbrev pub EachBounded : ℕ → List Member → Type 0
EachBounded heard members = AllByRecursion (λ m. last_offset m ≤ LAST_SLOT + LONGEST_DELAY * heard) members

-- each member has room for one delay more
abbrev pub EachHasRoom : List Member → Type 0
EachHasRoom members = AllByRecursion (λ m. last_offset m + LONGEST_DELAY ≤ MAX_OFFSET) members

-- Under which number each refusal is reported.

abbrev pub refusal_number : Refusal → ℕ
refusal_number NameTaken = 20
refusal_number PeriodOutsideFrame = 21
refusal_number NoRoom = 22
refusal_number NoSuchTask = 23
refusal_number AlreadyDeparting = 24
refusal_number AlreadyReleased = 25
