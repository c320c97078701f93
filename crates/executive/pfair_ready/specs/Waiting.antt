-- What waits under names, as a map of entries has it.
use Rattle.std.specs.Prelude.{ℕ, List, All, Contains, ◌≡◌, Bool, false, ◌&&◌, nat_eq, nat_le, Option, Some, None, [], ◌∷◌, slice_get, ◌+◌, ◌%◌, ◌≤◌, ◌<◌, ◌⊎◌, Vec, map, find}
use Rattle.std.specs.declared.cmp.Ordering.{Ordering}
use Rattle.std.specs.BinaryHeap.{IsHeap, KeepsHeap, heap_items}
use Rattle.std.specs.Ordering.{nat_cmp, ordering_then}
use Rattle.pfair_order.specs.declared.Key.{Key}
use Rattle.pfair_order.specs.Order.{tie_group_of, pd2_cmp}
use Rattle.pfair_weight.specs.Name.{IsTaskName, IsNumber, number_of}
use Rattle.pfair_ready.specs.declared.heap.Turn.{Turn}
use Rattle.std.specs.Option.{option_map, option_map_or}
use Rattle.pfair_ready.specs.declared.waiting.Entry.{Entry}
use Rattle.pfair_ready.specs.declared.waiting.HeldKey.{HeldKey}
use Rattle.pfair_ready.specs.Queue.{NameValue, Queue, name_eq}
use Rattle.std.specs.declared.alloc.Global.{Global}
use Rattle.std.specs.declared.cmp.Reverse.{Reverse}
use Rattle.pfair_ready.specs.declared.calendar.Calendar.{Calendar}
use Rattle.pfair_ready.specs.declared.calendar.Date.{Date}
use Rattle.pfair_ready.specs.declared.plain.PlainEntry.{PlainEntry}
use Rattle.std.specs.FinMap as finmap

-- Turns: what the order looks at in released keys, each with a hint where the key's name stands.

-- the turn of a key
abbrev pub turn_of : Key → ℕ → Turn
turn_of k hint = record { d = record { 0 = k.d }; b = k.b; group = tie_group_of k; hint = hint; name = record { 0 = number_of k.name } }

-- the first turn is the greatest
abbrev pub turn_cmp : Turn → Turn → Ordering
turn_cmp t u =
    ordering_then (nat_cmp u.d.0 t.d.0)
    (ordering_then (nat_cmp t.b u.b)
    (ordering_then (nat_cmp t.group u.group)
    (nat_cmp u.name.0 t.name.0)))

-- turns in a heap
pub record AreTurns (turns : List Turn) : Type 0 where
  pub order : IsHeap turn_cmp turns
  pub numbered : All (λ t. IsNumber t.name.0) turns

-- a heap of turns loses none
pub record KeepsTurns (turns turns' : List Turn) : Type 0 where
  pub kept : (t : Turn) → Contains turns t → Contains turns' t
  pub sound : AreTurns turns → AreTurns turns'

-- a key has a turn
pub record HasTurn (turns : List Turn) (k : Key) : Type 0 where
  pub hint : ℕ
  pub there : Contains turns (turn_of k hint)
  pub named : IsTaskName k.name

-- names, each with what waits under it, if something does
abbrev pub Entries : Type 0
Entries = List (NameValue × Entry)

-- an entry of one name, if something waits under it, before the others
abbrev pub with_entry : NameValue → Option (ℕ × Key) → List (NameValue × (ℕ × Key)) → List (NameValue × (ℕ × Key))
with_entry name None es = es
with_entry name (Some v) es = (name, v) ∷ es

-- the key that waits under a name
abbrev pub key_under : NameValue → HeldKey → Key
key_under name h = record { d = h.d; b = h.b; group = h.group; name = name }

-- with its release
abbrev pub held_under : NameValue → Option HeldKey → Option (ℕ × Key)
held_under name = option_map (λ h. (h.release, key_under name h))

-- the names under which something waits, with that
abbrev pub live : Entries → List (NameValue × (ℕ × Key))
live [] = []
live (e ∷ es) = with_entry e.0 (held_under e.0 e.1.held) (live es)

abbrev pub queue_in : Entries → Queue
queue_in es = finmap.from_entries (live es)

-- the name's entry is at the index
abbrev pub IsEntryOf : Entries → NameValue → ℕ → Type 0
IsEntryOf es name i = (entry : Entry) × (slice_get es i ≡ Some (name, entry))

-- the key waits under the name
abbrev pub IsKeyIn : Queue → NameValue → Key → Type 0
IsKeyIn held name k = (r : ℕ) × (finmap.get held name ≡ Some (r, k))

-- whether a turn of the key's name is the key's
abbrev pub is_turn_of : Key → Turn → Bool
is_turn_of k t = nat_eq k.d t.d.0 && (nat_eq k.b t.b && nat_eq (tie_group_of k) t.group)

-- whether a turn is that of the contents of its name, and these released by the slot
abbrev pub is_due : Turn → ℕ → Option (ℕ × Key) → Bool
is_due turn slot held = option_map_or (λ e. nat_le e.0 slot && is_turn_of e.1 turn) held false

-- When the keys that wait are released, and what moves from there to the turns.

-- the earlier date first
abbrev pub date_cmp : Date → Date → Ordering
date_cmp a b = ordering_then (nat_cmp a.release b.release) (ordering_then (nat_cmp a.hint b.hint) (pd2_cmp a.key b.key))

abbrev pub later_cmp : Reverse Date → Reverse Date → Ordering
later_cmp a b = date_cmp b.0 a.0

-- the dates in the list of a near slot
abbrev pub in_bucket : Option (Vec Date Global) → List Date
in_bucket None = []
in_bucket (Some bucket) = bucket.items

abbrev pub under : List (Vec Date Global) → ℕ → List Date
under near slot = in_bucket (slice_get near (slot % 64))

-- a date is among the near ones, which are those of 64 slots
pub record IsNear (turned : ℕ) (near : List (Vec Date Global)) (date : Date) : Type 0 where
  pub after : turned < date.release
  pub within : date.release ≤ turned + 64
  pub there : Contains (under near date.release) date

-- or among the far ones
abbrev pub IsAmong : List (Reverse Date) → Date → Type 0
IsAmong far date = Contains far (record { 0 = date })

-- a date is in the calendar
abbrev pub IsNoted : Calendar → Date → Type 0
IsNoted c date = IsNear c.turned c.near.items date ⊎ IsAmong (heap_items c.far) date

-- a calendar loses nothing
pub record Keeps (c c' : Calendar) : Type 0 where
  pub noted : (d : Date) → IsNoted c d → IsNoted c' d
  pub turned : c'.turned ≡ c.turned
  pub order : KeepsHeap later_cmp (heap_items c.far) (heap_items c'.far)

-- what moved to the turns, which lose nothing: a date that was in one place, and isn't in another, has come, and its key has a turn
pub record Moves (slot : ℕ) (Was Is : Date → Type 0) (turns turns' : List Turn) : Type 0 where
  pub keeps : KeepsTurns turns turns'
  pub moved : (d : Date) → Was d → Is d ⊎ ((d.release ≤ slot) × HasTurn turns' d.key)

-- each key stands under its own name, and is in the calendar at its release, or released and has a turn
pub record IsCovered (now : ℕ) (held : Queue) (dates : Calendar) (turns : List Turn) : Type 0 where
  pub named : (q : NameValue) (r : ℕ) (k : Key) → finmap.get held q ≡ Some (r, k) → k.name ≡ q
  pub turned : dates.turned ≤ now
  pub order : IsHeap later_cmp (heap_items dates.far)
  pub sound : AreTurns turns
  pub covered : (q : NameValue) (r : ℕ) (k : Key) → finmap.get held q ≡ Some (r, k) → ((hint : ℕ) × IsNoted dates (record { release = r; hint = hint; key = k })) ⊎ ((r ≤ now) × HasTurn turns k)

-- What a list of waiting keys holds.

-- under each key's name its release and the key
abbrev pub queue_of : List PlainEntry → Queue
queue_of ws = finmap.from_entries (map (λ w. (w.key.name, (w.release, w.key))) ws)

-- the release and the key of the first with the name
abbrev pub first_named : NameValue → List PlainEntry → Option (ℕ × Key)
first_named name ws = option_map (λ w. (w.release, w.key)) (find (λ w. name_eq w.key.name name) ws)
