-- Replicas, and how far each processor has committed itself.
use Rattle.std.specs.Prelude.{ℕ, zero, suc, ◌≡◌, ◌≢◌, ◌+◌, ◌≤◌, ◌<◌, min, Bool, true, false, nat_lt, nat_le, ◌==◌, List, [], ◌∷◌, ◌++◌, map, filter, find, length, drop, flat_map, fold, sum_by, is_none, IsSome, Option, Some, None, if◌then◌else◌, ◌⊎◌, ◌↔◌, slice_get, AllPairs, ◌&&◌, IsSomeAnd}
use Rattle.std.specs.List.{list_any, Contains}
use Rattle.pfair_lattice.specs.declared.join_map.Flat.{Flat}
use Rattle.pfair_lattice.specs.declared.join_map.Flat.TheVariants.{One, Torn}
use Rattle.pfair_lattice.specs.Held.{Held, held_join, HeldBelow}
use Rattle.pfair_entry.specs.declared.entry.Announcement.{Announcement}
use Rattle.pfair_entry.specs.declared.entry.Said.{Said}
use Rattle.pfair_entry.specs.Entry.{Logged, IsEntry, entry_eq}
use Rattle.std.specs.Ordering.{nat_cmp}
use Rattle.std.specs.Option.{option_and_then}
use Rattle.pfair_lattice.specs.Entries.{get, IsOrdered}
use Rattle.pfair_entry.specs.declared.entry.TheConstants.{MAX_PROCESSORS}
use Rattle.pfair_entry.specs.declared.writer.TheConstants.Writer.{LONGEST_LOG}

-- Keys of entries.

-- the processor whose log it is, and the entry's number there
abbrev pub EntryKey : Type 0
EntryKey = ℕ × ℕ

-- the contents, by processor and number
abbrev pub Contents : Type 0
Contents = ℕ → ℕ → Held Logged

-- a replica of so many processors, whose logs have numbers from 1 to the capacity
pub record Replica : Type 0 where
  pub processors : ℕ
  pub capacity : ℕ
  pub at : Contents

-- nothing but entries of the replica's own processors and numbers, each stamped at or after its floor
pub record IsReplica (x : Replica) : Type 0 where
  pub in_range : (k n : ℕ) (c : Flat Logged) → x.at k n ≡ Some c → (k < x.processors) × (0 < n) × (n ≤ x.capacity)
  pub stamped : (k n : ℕ) (e : Logged) → x.at k n ≡ Some (One e) → IsEntry e

-- ---- the order of replicas, and their join

abbrev pub Below : Replica → Replica → Type 0
Below x y = (k n : ℕ) → HeldBelow (x.at k n) (y.at k n)

abbrev pub contents_join : Contents → Contents → Contents
contents_join x y k n = held_join entry_eq (x k n) (y k n)

abbrev pub join : Replica → Replica → Replica
join x y = record x { at = contents_join x.at y.at }

abbrev pub nothing_held : Contents
nothing_held k n = None

-- the entry at that key, and nothing else
abbrev pub only : ℕ → ℕ → Logged → Contents
only j m e k n = if k == j then (if n == m then Some (One e) else None) else None

-- x joined with that entry at that key
abbrev pub with_entry : Replica → ℕ → ℕ → Logged → Replica
with_entry x k n e = record x { at = contents_join x.at (only k n e) }

-- a replica that holds nothing
abbrev pub empty_replica : ℕ → ℕ → Replica
empty_replica processors capacity = record { processors = processors; capacity = capacity; at = nothing_held }

abbrev pub Untorn : Replica → Type 0
Untorn x = (k n : ℕ) → x.at k n ≢ Some Torn

-- no number has two contents
abbrev pub Agree : Replica → Replica → Type 0
Agree x y = Untorn (join x y)

-- ---- marks and the frontier

-- the entry that goes on a run whose last floor is `floor`: one entry, whose own floor isn't lower
abbrev pub goes_on : Held Logged → ℕ → Option Logged
goes_on (Some (One e)) floor = if nat_le floor e.floor then Some e else None
goes_on (Some Torn) floor = None
goes_on None floor = None

-- such an entry and what follows it, or nothing
abbrev pub run_on : Option Logged → (ℕ → List Logged) → List Logged
run_on None rest = []
run_on (Some e) rest = e ∷ rest e.floor

-- the longest run of a row's entries from number n on, at most `left` of them, none torn, whose floors never fall
abbrev pub run_from : (ℕ → Held Logged) → (left n floor : ℕ) → List Logged
run_from row zero n floor = []
run_from row (suc left) n floor = run_on (goes_on (row n) floor) (run_from row left (suc n))

-- the longest run of entries 1..n of a processor, none torn, whose floors never fall
abbrev pub sound_beginning : Replica → ℕ → List Logged
sound_beginning x k = run_from (x.at k) x.capacity 1 0

-- the floor of the last entry, or else `floor`
abbrev pub last_floor : ℕ → List Logged → ℕ
last_floor floor [] = floor
last_floor floor (e ∷ es) = last_floor e.floor es

abbrev pub mark : Replica → ℕ → ℕ
mark x k = last_floor 0 (sound_beginning x k)

-- 0, 1, and so on, n numbers
abbrev pub numbers_below : ℕ → List ℕ
numbers_below zero = []
numbers_below (suc n) = numbers_below n ++ n ∷ []

-- the least mark over all processors
abbrev pub frontier : Replica → ℕ
frontier x = fold min (mark x 0) (map (mark x) (numbers_below x.processors))

-- how many entries all sound beginnings have
abbrev pub sound_total : Replica → ℕ
sound_total x = sum_by (λ k. length (sound_beginning x k)) (numbers_below x.processors)

-- ---- the announcements at a slot

-- entry n of processor k, if it is stamped t
abbrev pub said_by : (t k n : ℕ) → Option (ℕ × Announcement) → List Said
said_by t k n None = []
said_by t k n (Some s) = if s.0 == t then record { proc = k; number = n; announcement = s.1 } ∷ [] else []

-- in a run of processor k that begins at number n
abbrev pub said_in : (t k n : ℕ) → List Logged → List Said
said_in t k n [] = []
said_in t k n (e ∷ es) = said_by t k n e.said ++ said_in t k (suc n) es

-- in the sound beginning of processor k behind the first `from` entries
abbrev pub said_behind : Replica → (t k from : ℕ) → List Said
said_behind x t k from = said_in t k (from + 1) (drop from (sound_beginning x k))

-- the announcements stamped t in the sound beginnings, by processor and number
abbrev pub said : Replica → ℕ → List Said
said x t = flat_map (λ k. said_in t k 1 (sound_beginning x k)) (numbers_below x.processors)

-- ---- faults

-- a key of the replica that is torn
abbrev pub is_torn : Held Logged → Bool
is_torn (Some Torn) = true
is_torn _ = false

abbrev pub has_torn : Replica → Bool
has_torn x = list_any (λ k. list_any (λ n. is_torn (x.at k (suc n))) (numbers_below x.capacity)) (numbers_below x.processors)

abbrev pub entry_key : ℕ → ℕ → EntryKey
entry_key k n = (k, n)

-- the numbers of a row of that capacity
abbrev pub numbers_to : ℕ → List ℕ
numbers_to capacity = map suc (numbers_below capacity)

-- the torn keys of processor k up to that number
abbrev pub torn_to : Replica → (k number : ℕ) → List EntryKey
torn_to x k number = map (entry_key k) (filter (λ n. is_torn (x.at k n)) (numbers_to number))

-- the torn keys of processor k, in order
abbrev pub torn_in : Replica → ℕ → List EntryKey
torn_in x k = torn_to x k x.capacity

-- every torn key, in order
abbrev pub torn_keys : Replica → List EntryKey
torn_keys x = flat_map (torn_in x) (numbers_below x.processors)

-- entry n of processor k, if it is one entry whose floor is lower than the mark
abbrev pub fallen_at : (k n mark : ℕ) → Held Logged → List EntryKey
fallen_at k n mark (Some (One e)) = if nat_lt e.floor mark then entry_key k n ∷ [] else []
fallen_at k n mark _ = []

-- the entry right after the sound beginning of processor k, if it is one entry with a lower floor
abbrev pub fallen_in : Replica → ℕ → List EntryKey
fallen_in x k = fallen_at k (length (sound_beginning x k) + 1) (mark x k) (x.at k (length (sound_beginning x k) + 1))

-- the same of each processor
abbrev pub fallen_keys : Replica → List EntryKey
fallen_keys x = flat_map (fallen_in x) (numbers_below x.processors)

-- the least number of a row that is not held
abbrev pub missing : Replica → ℕ → Option ℕ
missing x k = find (λ n. is_none (x.at k n)) (numbers_to x.capacity)

-- the number is the least of the log that is not held, or every number of the log is held
abbrev pub IsLeastMissing : Replica → ℕ → Option ℕ → Type 0
IsLeastMissing x k None = (n : ℕ) → 1 ≤ n → n ≤ x.capacity → IsSome (x.at k n)
IsLeastMissing x k (Some n) = (1 ≤ n) × (n ≤ x.capacity) × (x.at k n ≡ None) × ((j : ℕ) → 1 ≤ j → j < n → IsSome (x.at k j))

-- The announcements at a slot, and in which order the lists of a replica stand.

-- an entry of a sound beginning, at the place of that number, announces it with stamp t
abbrev pub IsSaidAt : Replica → ℕ → Said → Type 0
IsSaidAt x t s = (s.proc < x.processors) × ((i : ℕ) × (e : Logged) × (s.number ≡ i + 1) × (slice_get (sound_beginning x s.proc) i ≡ Some e) × (e.said ≡ Some (t, s.announcement)))

-- the first key comes before the second: by processors, and then by numbers
abbrev pub ComesBefore : EntryKey → EntryKey → Type 0
ComesBefore a b = (a.0 < b.0) ⊎ ((a.0 ≡ b.0) × (a.1 < b.1))

abbrev pub key_of : Said → EntryKey
key_of s = (s.proc, s.number)

-- the announcements at a slot are those of the sound beginnings with that stamp, by processors and numbers, as torn and fallen keys are
pub record IsSaid : Type 0 where
  pub members : (x : Replica) (t : ℕ) (s : Said) → Contains (said x t) s ↔ IsSaidAt x t s
  pub order : (x : Replica) (t : ℕ) → AllPairs (λ a b. ComesBefore (key_of a) (key_of b)) (said x t)
  pub torn_order : (x : Replica) → AllPairs ComesBefore (torn_keys x)
  pub fallen_order : (x : Replica) → AllPairs ComesBefore (fallen_keys x)

-- The contents after an entry or a replica was offered, taken or not.

-- (k, n) names an entry of one of the logs
abbrev pub has_key : Replica → ℕ → ℕ → Bool
has_key x k n = nat_lt k x.processors && (nat_lt 0 n && nat_le n x.capacity)

-- as many processors, and logs as large
abbrev pub has_shape : Replica → Replica → Bool
has_shape x y = x.processors == y.processors && x.capacity == y.capacity

-- after an entry was offered for a key: the join with it, or x itself if the key is refused
abbrev pub taken : Replica → ℕ → ℕ → Logged → Replica
taken x k n e = if has_key x k n then with_entry x k n e else x

-- after a replica was offered: the join with it, or x itself if its shape is refused
abbrev pub absorbed : Replica → Replica → Replica
absorbed x y = if has_shape x y then join x y else x

-- What a replica keeps: for each processor a row of entries by their numbers.

-- what a row holds, by number
abbrev pub Row : Type 0
Row = List (ℕ × Flat Logged)

-- a replica as a contract sees it
pub record ReplicaRows : Type 0 where
  pub processors : ℕ
  pub capacity : ℕ
  pub rows : List (ℕ × Row)

-- what these rows hold, by processor and number
abbrev pub held_in : List (ℕ × Row) → Contents
held_in rows k n = option_and_then (λ row. get nat_cmp row n) (get nat_cmp rows k)

-- the contents, by processor and number
abbrev pub held : ReplicaRows → Contents
held x = held_in x.rows

-- the replica that the definitions speak of
abbrev pub replica_of : ReplicaRows → Replica
replica_of x = record { processors = x.processors; capacity = x.capacity; at = held x }

-- so many processors and so large logs there can be
pub record IsShape (processors capacity : ℕ) : Type 0 where
  pub some_processor : 1 ≤ processors
  pub processors_in_range : processors ≤ MAX_PROCESSORS
  pub some_number : 1 ≤ capacity
  pub capacity_in_range : capacity ≤ LONGEST_LOG

-- the rows below m are there, and no others, each with its numbers in order
pub record IsFull (m : ℕ) (rows : List (ℕ × Row)) : Type 0 where
  pub ordered : IsOrdered nat_cmp rows
  pub there : (k : ℕ) → k < m → IsSomeAnd (get nat_cmp rows k) (IsOrdered nat_cmp)
  pub beyond : (k : ℕ) → m ≤ k → get nat_cmp rows k ≡ None

-- what every replica keeps
pub record IsReplicaRows (x : ReplicaRows) : Type 0 where
  pub shape : IsShape x.processors x.capacity
  pub full : IsFull x.processors x.rows
  pub entries : IsReplica (replica_of x)

-- rows that hold nothing
pub record AreEmptyRows (m : ℕ) (rows : List (ℕ × Row)) : Type 0 where
  pub ordered : IsOrdered nat_cmp rows
  pub there : (k : ℕ) → k < m → get nat_cmp rows k ≡ Some []
  pub beyond : (k : ℕ) → m ≤ k → get nat_cmp rows k ≡ None

-- as many processors, and logs as large
abbrev pub SameShape : ReplicaRows → ReplicaRows → Type 0
SameShape x y = (x.processors ≡ y.processors) × (x.capacity ≡ y.capacity)

-- replicas that hold the same are one
abbrev pub IsKnownByHeld : Type 0
IsKnownByHeld = (x y : ReplicaRows) → IsReplicaRows x → IsReplicaRows y → replica_of x ≡ replica_of y → x ≡ y
