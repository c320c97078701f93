-- The plan of one slot, and what it takes for granted.
use Rattle.std.specs.Prelude.{ℕ, ◌≡◌, ◌≤◌, ◌<◌, List, [], sum_by, length, take, flat_map, Some, slice_get, map, Bool, false, Option, None, if◌then◌else◌}
use Rattle.pfair_entry.specs.Entry.{Logged, name_eq, name_of}
use Rattle.pfair_entry.specs.declared.entry.Said.{Said}
use Rattle.pfair_replica.specs.Counters.{said_at}
use Rattle.pfair_replica.specs.Replica.{Replica, IsReplica, Untorn, sound_beginning, said_in, ReplicaRows, replica_of, said}
use Rattle.pfair_table.specs.declared.planner.Reading.{Reading}
use Rattle.pfair_table.specs.declared.planner.Readings.{Readings}
use Rattle.pfair_admission.specs.Admission.{boundary, Roster, member_named}
use Rattle.pfair_admission.specs.Member.{Member, is_departing, eligible_from, next_key}
use Rattle.pfair_table.specs.declared.script.TheConstants.Script.{LONGEST_LOG}
use Rattle.pfair_table.specs.declared.slot.SlotPlan.{SlotPlan}
use Rattle.pfair_table.specs.Events.{IsOf}
use Rattle.pfair_table.specs.Places.{IsOrigin, IsSettings}
use Rattle.pfair_table.specs.Table.{first_by_rank, Settings, Origin, Table, eligible, pick, table, decisions}
use Rattle.std.specs.Option.{ForSome}
use Rattle.std.specs.List.{list_any}
use Rattle.pfair_weight.specs.Name.{NamesApart}
use Rattle.pfair_weight.specs.declared.window.TheConstants.{MAX_INDEX}
use Rattle.pfair_ready.specs.Queue.{NameValue as Name, Queue}
use Rattle.pfair_order.specs.declared.Key.{Key}
use Rattle.pfair_ready.specs.declared.Seated.{Seated}
use Rattle.std.specs.FinMap as finmap

-- What the sound beginnings say, as far as they were read.

-- so many entries of the sound beginning of processor k were read, and this is what they say
pub record IsReadingOf (k : ℕ) (beginning : List Logged) (reading : Reading) : Type 0 where
  pub within : reading.count ≤ length beginning
  pub says : (t : ℕ) → said_at reading.agenda t ≡ said_in t k 1 (take reading.count beginning)

-- one for each processor; while nothing is torn, of its sound beginning
pub record AreReadingsOf (x : Replica) (readings : List Reading) : Type 0 where
  pub one_each : length readings ≡ x.processors
  pub each : IsReplica x → Untorn x → (k : ℕ) (reading : Reading) → slice_get readings k ≡ Some reading → IsReadingOf k (sound_beginning x k) reading

-- each was read to its end
abbrev pub AreWhole : Replica → List Reading → Type 0
AreWhole x readings = (k : ℕ) (reading : Reading) → slice_get readings k ≡ Some reading → reading.count ≡ length (sound_beginning x k)

-- how many entries were read
abbrev pub entries_read : List Reading → ℕ
entries_read readings = sum_by (λ (r : Reading). r.count) readings

-- nothing was read for a slot after the last one
abbrev pub AreSilentAfter : ℕ → List Reading → Type 0
AreSilentAfter last readings = (k : ℕ) (reading : Reading) (t : ℕ) → slice_get readings k ≡ Some reading → last < t → said_at reading.agenda t ≡ []

-- readings of one replica: as many as were counted were read, and nothing for a slot after the last
pub record AreReadFrom (x : Replica) (readings : Readings) : Type 0 where
  pub are : AreReadingsOf x readings.by_processor.items
  pub counted : readings.read ≤ entries_read readings.by_processor.items
  pub silent : AreSilentAfter readings.last readings.by_processor.items

-- what the readings say at a slot, one after another
abbrev pub said_by_all : List Reading → ℕ → List Said
said_by_all readings t = flat_map (λ (r : Reading). said_at r.agenda t) readings

-- The first n slots of a run can be planned by the contents: nothing is torn.
pub record CanBePlanned (o : Origin) (s : Settings) (x : ReplicaRows) (n : ℕ) : Type 0 where
  pub began : IsOrigin o s
  pub is_of : IsOf s (replica_of x)
  pub whole : Untorn (replica_of x)
  pub room : x.capacity ≤ LONGEST_LOG
  pub within : n ≤ s.slots

-- the table and the decisions of slot n
pub record IsPlanOfSlot (o : Origin) (s : Settings) (x : ReplicaRows) (n : ℕ) (plan : SlotPlan) : Type 0 where
  pub table_is : plan.table.items ≡ table o s (said (replica_of x)) n
  pub decided_is : plan.decided.items ≡ decisions o s (said (replica_of x)) n
  pub limits : IsSettings s

abbrev pub rows_at : (processors slot : ℕ) → List Member → Table
rows_at processors slot members = map (pick members) (first_by_rank processors (eligible slot members))

-- What a ready structure holds of the members: the next subtask of each that isn't departing.

-- the slot from which the next subtask may run, and its key
abbrev pub queued : Option Member → Option (ℕ × Key)
queued None = None
queued (Some m) = if is_departing m then None else Some (eligible_from m m.next, next_key m)

abbrev pub IsQueue : List Member → Queue → Type 0
IsQueue members waiting = (name : Name) → finmap.get waiting name ≡ queued (member_named members name)

-- members and a ready structure before the boundary of a slot
pub record IsSteady (slot : ℕ) (roster : Roster) (now : ℕ) (waiting : Queue) : Type 0 where
  pub named : NamesApart (λ m. m.name) roster.members
  pub queue : IsQueue roster.members waiting
  pub by_now : now ≤ slot
  pub order : ForSome roster.last_slot (λ last. last ≤ slot)

-- ---- in the middle of a slot

-- the keys that were selected
abbrev pub keys_of : List Seated → List Key
keys_of first = map (λ (s : Seated). s.key) first

-- some announcement is about the task
abbrev pub is_said : Name → List Said → Bool
is_said name announced = list_any (λ a. name_eq name (name_of a.announcement)) announced

-- some member has the name
abbrev pub is_of_some : Name → List Member → Bool
is_of_some name members = list_any (λ m. name_eq name m.name) members

-- some key is of the task
abbrev pub has_key_of : Name → List Key → Bool
has_key_of name keys = list_any (λ k. name_eq name k.name) keys

-- the contents of every name that nothing was said about
abbrev pub IsQueueBut : List Said → List Member → Queue → Type 0
IsQueueBut announced members waiting =
    (name : Name) → is_said name announced ≡ false → finmap.get waiting name ≡ queued (member_named members name)

-- the contents of every name but those of the members that are left to notify of
abbrev pub IsQueueBesides : List Member → List Member → Queue → Type 0
IsQueueBesides left members waiting =
    (name : Name) → is_of_some name left ≡ false → finmap.get waiting name ≡ queued (member_named members name)

-- the same without the keys that were taken out
abbrev pub IsQueueWithout : List Key → List Member → Queue → Type 0
IsQueueWithout keys members waiting =
    (name : Name) → finmap.get waiting name ≡ (if has_key_of name keys then None else queued (member_named members name))

-- only the named task's entry is anew
abbrev pub IsNotifiedOf : Name → List Member → (before after : Queue) → Type 0
IsNotifiedOf notified members before after =
    (name : Name) → finmap.get after name ≡ (if name_eq name notified then queued (member_named members notified) else finmap.get before name)

-- a member with the key's name may run, and isn't at the last index of windows
abbrev pub MayRun : List Member → Key → Type 0
MayRun members k = (m : Member) × (member_named members k.name ≡ Some m) × (is_departing m ≡ false) × (m.next < MAX_INDEX)
