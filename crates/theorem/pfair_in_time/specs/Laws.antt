-- The laws of members over boundaries.
use Rattle.std.specs.Prelude.{ℕ, ◌≡◌, ◌-◌, ◌%◌, ◌<◌, ◌≤◌, ◌⊎◌, true, Some, List}
use Rattle.pfair_weight.specs.Window.{IsWeight, release_of}
use Rattle.pfair_admission.specs.Member.{Member, theta, is_departing, busy_until}
use Rattle.pfair_weight.specs.Name.{NamesApart}
use Rattle.pfair_entry.specs.declared.entry.Announcement.{Announcement}
use Rattle.pfair_entry.specs.Entry.{IsWeighed}
use Rattle.pfair_replica.specs.Laws.{Among}
use Rattle.pfair_admission.specs.Admission.{Machine, boundary}

-- What becomes of a member at a boundary.

-- n is m after what is decided at slot t: offsets never fall, those of subtasks that ran or are released before t stay, and who is
-- departing stays as it is
pub record Descends (t : ℕ) (m n : Member) : Type 0 where
  pub name : n.name ≡ m.name
  pub weight : n.weight ≡ m.weight
  pub early : n.early ≡ m.early
  pub joined : n.joined ≡ m.joined
  pub next : n.next ≡ m.next
  pub rises : (i : ℕ) → theta m i ≤ theta n i
  pub stays : (i : ℕ) → (i < m.next) ⊎ (release_of m.weight i (theta m i) < t) → theta n i ≡ theta m i
  pub departing : is_departing m ≡ true → n ≡ m

-- it has a weight whose period divides the frame, and if it is departing its claim is held until it is freed
pub record IsSound (frame : ℕ) (m : Member) : Type 0 where
  pub weight : IsWeight m.weight.cost m.weight.period
  pub period : frame % m.weight.period ≡ 0
  pub claim : (slot : ℕ) → m.freed_at ≡ Some slot → (m.next ≡ 1) ⊎ (busy_until m (m.next - 1) ≤ slot)

-- it has joined at slot t, and not run yet
pub record IsNew (t : ℕ) (m : Member) : Type 0 where
  pub joined : m.joined ≡ t
  pub next : m.next ≡ 1

abbrev pub AllSound : ℕ → List Member → Type 0
AllSound frame members = (m : Member) → Among members m → IsSound frame m

abbrev pub AllHaveWeights : List Announcement → Type 0
AllHaveWeights announced = (a : Announcement) → Among announced a → IsWeighed a

-- what is left of a member is freed by slot t
pub record IsFreed (t : ℕ) (frame : ℕ) (m n : Member) : Type 0 where
  pub descends : Descends t m n
  pub sound : IsSound frame n
  pub slot : ℕ
  pub freed : n.freed_at ≡ Some slot
  pub by_now : slot ≤ t

pub record BoundariesKeepMembers : Type 0 where
  pub sound : (machine : Machine) (t : ℕ) (members : List Member) (announced : List Announcement) → NamesApart (λ m. m.name) members → AllSound machine.frame members → AllHaveWeights announced
      → AllSound machine.frame (boundary machine t members announced)
  pub from : (machine : Machine) (t : ℕ) (members : List Member) (announced : List Announcement) → NamesApart (λ m. m.name) members → AllSound machine.frame members → AllHaveWeights announced
      → (n : Member) → Among (boundary machine t members announced) n → ((m : Member) × Among members m × Descends t m n) ⊎ IsNew t n
  pub to : (machine : Machine) (t : ℕ) (members : List Member) (announced : List Announcement) → NamesApart (λ m. m.name) members → AllSound machine.frame members → AllHaveWeights announced
      → (m : Member) → Among members m → ((n : Member) × Among (boundary machine t members announced) n × Descends t m n) ⊎ ((n : Member) × IsFreed t machine.frame m n)
