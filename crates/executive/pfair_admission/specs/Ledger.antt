-- What the ledger of members keeps.
use Rattle.std.specs.Prelude.{ℕ, ◌≡◌, ◌≤◌, ◌<◌, ◌+◌, ◌-◌, ◌*◌, ◌^◌, Bool, true, not, nat_eq, List, filter, slice_get, Option, Some, None, is_some, Result, IfOk, OnOk, OnErr, length}
use Rattle.std.specs.List.{AllByRecursion, IsDistinct}
use Rattle.std.specs.Map.{keys_of, values_of, lookup}
use Rattle.pfair_weight.specs.Name.{NameValue, name_eq}
use Rattle.pfair_weight.specs.Window.{Share, units_of}
use Rattle.pfair_entry.specs.declared.entry.Announcement.{Announcement}
use Rattle.pfair_admission.specs.declared.decision.Decision.{Decision}
use Rattle.pfair_admission.specs.Member.{Member}
use Rattle.pfair_admission.specs.Admission.{all_decided, all_decisions, arrival, claimed, decided, decision, is_freed, is_named, member_named, present, NoneFreedBefore, EachBounded, Membership, Roster}
use Rattle.pfair_admission.specs.declared.members.TheConstants.Members.{MAX_PROCESSORS, MAX_FRAME, MAX_HEARD}
use Rattle.pfair_admission.specs.declared.ledger.Ledger.{Ledger}
use Rattle.std.specs.Option.{ForNone}
use Rattle.pfair_admission.specs.declared.members.Members.TheInside.{Inside}

-- the members, in the order of admission, with those that are gone
abbrev pub listed : Ledger → List Member
listed a = values_of a.members.entries

-- whether the member isn't freed by slot t
abbrev pub is_there : ℕ → Member → Bool
is_there t m = not (is_freed t m.freed_at)

-- the machine and its members at the boundary of slot t
abbrev pub membership : ℕ → Ledger → Membership
membership t a = record { machine = record { processors = a.processors; frame = a.frame }; members = present t (listed a) }

-- the machine and all its members
abbrev pub whole : Ledger → Membership
whole a = record { machine = record { processors = a.processors; frame = a.frame }; members = listed a }

-- ---- decisions

abbrev pub decision_on : ℕ → Announcement → Membership → Decision
decision_on t announcement s = decision s.machine t s.members announcement

abbrev pub after : ℕ → Announcement → Membership → Membership
after t announcement s = record s { members = decided s.machine t s.members announcement }

abbrev pub decisions_on : ℕ → List Announcement → Membership → List Decision
decisions_on t announced s = all_decisions s.machine t s.members announced

abbrev pub after_all : ℕ → List Announcement → Membership → Membership
after_all t announced s = record s { members = all_decided s.machine t s.members announced }

-- an announcement is decided, or an allocation failed and nothing has changed
pub record IsDecided {E : Type 0} (t : ℕ) (announcement : Announcement) (old new : Membership) (result : Result Decision E) : Type 0 where
  pub decision : IfOk result (λ d. d ≡ decision_on t announcement old)
  pub members : OnOk result (new ≡ after t announcement old)
  pub err : OnErr result (new ≡ old)

-- the decision on an arrival, whoever the members are, if they claim what is claimed and none of them has its name
abbrev pub IsArrivalByWeight : Ledger → Share → Decision → Type 0
IsArrivalByWeight a weight d =
    (members : List Member) (name : NameValue) → member_named members name ≡ None → claimed a.frame members ≡ a.claim → d ≡ arrival (whole a).machine members name weight

-- ---- names and numbers

-- the members, by the number of their admission
abbrev pub Numbered : Type 0
Numbered = List (ℕ × Member)

abbrev pub has_number : ℕ → Numbered → Bool
has_number number members = is_some (lookup (nat_eq number) members)

-- the number is that of a member of that name
pub record IsNumberOf (members : Numbered) (name : NameValue) (number : ℕ) : Type 0 where
  pub member : Member
  pub at : lookup (nat_eq number) members ≡ Some member
  pub named : member.name ≡ name

-- the name leads to the member, if that counts
abbrev pub IsNamedIn : (Member → Bool) → List (NameValue × ℕ) → ℕ × Member → Type 0
IsNamedIn counts names e = counts e.1 ≡ true → lookup (name_eq e.1.name) names ≡ Some e.0

-- each name leads to a member of that name, and to each member that counts leads its name
pub record IsRegister (counts : Member → Bool) (admitted : ℕ) (members : Numbered) (names : List (NameValue × ℕ)) : Type 0 where
  pub numbered : AllByRecursion (λ e. e.0 < admitted) members
  pub unique : IsDistinct nat_eq (keys_of members)
  pub named : AllByRecursion (λ e. IsNumberOf members e.0 e.1) names
  pub found : AllByRecursion (IsNamedIn counts names) members

abbrev pub HasRegister : (Member → Bool) → Ledger → Type 0
HasRegister counts a = IsRegister counts a.admitted a.members.entries a.names.entries

-- at the place is a member of that name, and no other one that counts has the name
pub record IsOnly (counts : Member → Bool) (name : NameValue) (members : List Member) (place : ℕ) (m : Member) : Type 0 where
  pub at : slice_get members place ≡ Some m
  pub named : is_named name m ≡ true
  pub only : (other : ℕ) (x : Member) → slice_get members other ≡ Some x → counts x ≡ true → is_named name x ≡ true → other ≡ place

-- where the latest member of that name is
abbrev pub IsFound : (Member → Bool) → NameValue → List Member → Option ℕ → Type 0
IsFound counts name members None = member_named (filter counts members) name ≡ None
IsFound counts name members (Some place) = (m : Member) × IsOnly counts name members place m

-- and it counts
abbrev pub IsPlace : (Member → Bool) → NameValue → List Member → ℕ → Type 0
IsPlace counts name members place = (m : Member) × IsOnly counts name members place m × (counts m ≡ true)

-- the members that count and their units
pub record IsLedger (counts : Member → Bool) (a : Ledger) : Type 0 where
  pub register : HasRegister counts a
  pub few_processors : a.processors ≤ MAX_PROCESSORS
  pub short_frame : a.frame ≤ MAX_FRAME
  pub room : a.claim ≤ a.processors * a.frame
  pub total : a.claim ≡ claimed a.frame (filter counts (listed a))
  pub first : NoneFreedBefore a.first_freeing (listed a)

-- the member can be added: nobody who counts has its name, and there is room for its units
pub record CanJoin (counts : Member → Bool) (a : Ledger) (m : Member) : Type 0 where
  pub kept : IsLedger counts a
  pub numbers : a.admitted + 1 < 2 ^ 64
  pub counted : counts m ≡ true
  pub free : member_named (filter counts (listed a)) m.name ≡ None
  pub room : a.claim + units_of m.weight a.frame ≤ a.processors * a.frame

-- before those that are gone by slot t are dropped: the claim is that of all, or without theirs
pub record IsUnswept (t : ℕ) (a : Ledger) : Type 0 where
  pub register : HasRegister (is_there t) a
  pub few_processors : a.processors ≤ MAX_PROCESSORS
  pub short_frame : a.frame ≤ MAX_FRAME
  pub room : a.claim ≤ a.processors * a.frame
  pub least : claimed a.frame (present t (listed a)) ≤ a.claim
  pub most : a.claim ≤ claimed a.frame (listed a)
  pub first : NoneFreedBefore a.first_freeing (listed a)

-- ---- hearing

-- n announcements can be decided at slot t
pub record CanDecide (t n : ℕ) (a : Ledger) : Type 0 where
  pub kept : IsLedger (is_there t) a
  pub few : n ≤ MAX_HEARD
  pub numbers : a.admitted + n < 2 ^ 64
  pub bounded : EachBounded (MAX_HEARD - n) (present t (listed a))

-- what n announcements leave, whether or not all of them are decided
pub record HasDecided (t n : ℕ) (old new : Ledger) : Type 0 where
  pub kept : IsLedger (is_there t) new
  pub admitted : new.admitted ≤ old.admitted + n
  pub bounded : (heard : ℕ) → EachBounded heard (present t (listed old)) → EachBounded (heard + n) (present t (listed new))

-- What the members keep.

abbrev pub roster_of : Inside → Roster
roster_of a = record {
  machine = record { processors = a.ledger.processors; frame = a.ledger.frame };
  members = listed a.ledger;
  heard = a.heard;
  last_slot = a.last_slot;
}

pub record IsKept (a : Inside) : Type 0 where
  pub few_heard : a.heard ≤ MAX_HEARD
  pub admitted : a.ledger.admitted ≤ 2 ^ 63 + a.heard  -- a run begins with no more members than a map can have
  pub begun : ForNone a.last_slot (a.ledger.admitted ≡ length (listed a.ledger))  -- before the first boundary nobody is gone
  pub bounded : EachBounded a.heard (listed a.ledger)
  pub kept : IsLedger (λ _. true) a.ledger
