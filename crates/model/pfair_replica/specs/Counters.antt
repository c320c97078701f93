-- What a replica keeps beside its rows: how far each sound beginning goes, and the first torn key.
use Rattle.std.specs.Prelude.{ℕ, List, [], ◌∷◌, Option, Some, None, ◌≡◌, ◌++◌, ◌≢◌, ◌<◌, ◌≤◌, ◌+◌, ◌⊎◌, min, fold, sum_by, length, slice_get, IsSomeAnd}
use Rattle.pfair_entry.specs.declared.entry.Said.{Said}
use Rattle.pfair_replica.specs.BySlot.{listed_at}
use Rattle.pfair_replica.specs.declared.agenda.Agenda.{Agenda}
use Rattle.pfair_lattice.specs.declared.join_map.Flat.TheVariants.{Torn}
use Rattle.pfair_lattice.specs.Held.{Held, HeldBelow}
use Rattle.pfair_entry.specs.Entry.{Logged}
use Rattle.pfair_replica.specs.declared.rows.Beginning.{Beginning}
use Rattle.pfair_replica.specs.Replica.{EntryKey, Contents, run_from, last_floor, ReplicaRows, IsReplicaRows, held}
use Rattle.pfair_replica.specs.Laws.{IsRun}

-- The announcements at each slot.

-- the announcements at slot t
abbrev pub said_at : Agenda → ℕ → List Said
said_at agenda t = listed_at agenda.lists t

-- behind what was listed before stands a beginning of what comes
abbrev pub IsPartOf : (before now coming : List Said) → Type 0
IsPartOf before now coming = (came : List Said) × (rest : List Said) × (now ≡ before ++ came) × (came ++ rest ≡ coming)

-- how far the longest run of a row goes, at most so many entries
abbrev pub beginning_in : ℕ → (ℕ → Held Logged) → Beginning
beginning_in capacity row = record { count = length (run_from row capacity 1 0); mark = last_floor 0 (run_from row capacity 1 0) }

-- the first of these marks, or 0
abbrev pub first_mark : List Beginning → ℕ
first_mark [] = 0
first_mark (b ∷ bs) = b.mark

-- the least mark of these, or 0 if there is none
abbrev pub least_mark : List Beginning → ℕ
least_mark bs = fold (λ least b. min least b.mark) (first_mark bs) bs

-- how many entries these have
abbrev pub total_count : List Beginning → ℕ
total_count bs = sum_by (λ b. b.count) bs

-- so many entries of a row from number 1 on are a run with that last floor
pub record IsPart (row : ℕ → Held Logged) (part : Beginning) : Type 0 where
  pub entries : List Logged
  pub run : IsRun row 1 0 entries
  pub count : length entries ≡ part.count
  pub mark : last_floor 0 entries ≡ part.mark

-- the entries before that number are a run, and there is none before number 1
pub record IsRunBefore (row : ℕ → Held Logged) (number : ℕ) : Type 0 where
  pub entries : List Logged
  pub run : IsRun row 1 0 entries
  pub count : length entries + 1 ≡ number
  pub zero : row 0 ≡ None

-- something came at that number of a row: the part still stands, or the number is torn and the entries before it are a run
pub record IsLeftAt (row : ℕ → Held Logged) (number : ℕ) (part : Beginning) : Type 0 where
  pub stands : (number ≤ part.count → row number ≢ Some Torn) → IsPart row part
  pub before : number ≤ part.count → IsRunBefore row number

-- the key is (k, n) or comes before it
abbrev pub ComesFirst : EntryKey → ℕ → ℕ → Type 0
ComesFirst key k n = (key.0 < k) ⊎ ((key.0 ≡ k) × (key.1 ≤ n))

-- the first of the keys of which P holds, or None if it holds of none
abbrev pub IsFirst : (ℕ → ℕ → Type 0) → Option EntryKey → Type 0
IsFirst P None = (k n : ℕ) → P k n → ⊥
IsFirst P (Some key) = P key.0 key.1 × ((k n : ℕ) → P k n → ComesFirst key k n)

abbrev pub IsTornAt : Contents → ℕ → ℕ → Type 0
IsTornAt at k n = at k n ≡ Some Torn

-- the first torn key of processor k
abbrev pub IsFirstTornIn : Contents → ℕ → Option EntryKey → Type 0
IsFirstTornIn at k = IsFirst (λ j n. (j ≡ k) × IsTornAt at j n)

-- of two keys, if there are so many, that which comes first
pub record IsEarlier (first other result : Option EntryKey) : Type 0 where
  pub either : (result ≡ first) ⊎ (result ≡ other)
  pub before_first : (f : EntryKey) → first ≡ Some f → IsSomeAnd result (λ key. ComesFirst key f.0 f.1)
  pub before_other : (f : EntryKey) → other ≡ Some f → IsSomeAnd result (λ key. ComesFirst key f.0 f.1)

-- the counters of the contents
pub record AreCounters (capacity : ℕ) (at : Contents) (sound : List Beginning) (first : Option EntryKey) : Type 0 where
  pub beginnings : (k : ℕ) (b : Beginning) → slice_get sound k ≡ Some b → b ≡ beginning_in capacity (at k)
  pub torn : IsFirst (IsTornAt at) first

-- these were the counters of what was held before something came at that key
pub record WereBefore (capacity p i : ℕ) (now : Contents) (sound : List Beginning) (first : Option EntryKey) : Type 0 where
  pub old : Contents
  pub counters : AreCounters capacity old sound first
  pub elsewhere : (k n : ℕ) → ((k ≡ p) × (n ≡ i) → ⊥) → now k n ≡ old k n
  pub below : (k n : ℕ) → HeldBelow (old k n) (now k n)
  pub number : 1 ≤ i
  pub zero : now p 0 ≡ None

-- these were the counters of what was held before the other came in, or a part of it
pub record WereApart (capacity : ℕ) (other now : Contents) (sound : List Beginning) (first : Option EntryKey) : Type 0 where
  pub old : Contents
  pub counters : AreCounters capacity old sound first
  pub same : (k : ℕ) → ((n : ℕ) → other k n ≡ None) → (n : ℕ) → now k n ≡ old k n
  pub below : (k n : ℕ) → HeldBelow (old k n) (now k n)
  pub within : (k n : ℕ) → IsTornAt now k n → (k < length sound) × (1 ≤ n) × (n ≤ capacity)

-- what every replica keeps: its rows, and their counters
pub record IsKept (x : ReplicaRows) (sound : List Beginning) (first : Option EntryKey) : Type 0 where
  pub rows : IsReplicaRows x
  pub so_many : length sound ≡ x.processors
  pub counters : AreCounters x.capacity (held x) sound first
