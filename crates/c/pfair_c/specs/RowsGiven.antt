-- What the calls give that write rows of an open dispatcher.
use Rattle.std.specs.Prelude.{ℕ, ◌≡◌, ◌≤◌, ◌<◌, Bool, true, false, ◌&&◌, ◌||◌, nat_eq, nat_le, nat_lt, min, if◌then◌else◌, List, length, map, slice_get, Option, ◌+◌, ◌-◌, take, ℤ, pos, neg_ℤ, ◌^◌, unwrap_or, ◌≢◌, ◌⊎◌, ◌++◌, []}
use Rattle.std.specs.declared.option.Option.TheVariants.{None, Some}
use Rattle.std.specs.Option.{option_map}
use Rattle.pfair_table.specs.Places.{places_in}
use Rattle.pfair_c.specs.declared.table.PfairPick.{PfairPick}
use Rattle.pfair_c.specs.declared.quanta.PfairQuantum.{PfairQuantum}
use Rattle.pfair_c.specs.declared.decisions.PfairDecision.{PfairDecision}
use Rattle.pfair_c.specs.Rows.{written_over, pick_row, quanta_of, decisions_of, name_row, rows_of, key_row}
use Rattle.pfair_c.specs.declared.lags.PfairLag.{PfairLag}
use Rattle.pfair_admission.specs.Member.{Member, theta, is_departing, lag_at}
use Rattle.pfair_table.specs.Refinement.{Dispatch, AreMembersOf, members_after}
use Rattle.pfair_c.specs.declared.answer.TheConstants.{DONE, MEMORY, NO_ROOM, NOT_PLANNED, SPENT, NO_SUCH_NUMBER, NO_SUCH_PROCESSOR}
use Rattle.pfair_c.specs.declared.members.PfairMember.{PfairMember}
use Rattle.pfair_weight.specs.Name.{NameValue}
use Rattle.pfair_lag.specs.Book.{Tally, Book, lag_of}
use Rattle.pfair_output.specs.Lags.{all_slots_booked, first_book}
use Rattle.std.specs.Int.{int_max, int_min}
use Rattle.pfair_replica.specs.Replica.{replica_of, has_torn, EntryKey, ReplicaRows, held, mark, missing, sound_beginning, torn_keys, fallen_keys}
use Rattle.pfair_table.specs.Table.{slot_of}
use Rattle.pfair_lattice.specs.declared.join_map.Flat.TheVariants.{One, Torn}
use Rattle.pfair_lattice.specs.Held.{Held}
use Rattle.pfair_entry.specs.Entry.{Logged}
use Rattle.pfair_c.specs.Entries.{entry_row}
use Rattle.pfair_c.specs.declared.entry.PfairEntry.{PfairEntry}
use Rattle.pfair_c.specs.Answers.{IsGivenIf}
use Rattle.pfair_c.specs.declared.held.PfairKey.{PfairKey}
use Rattle.pfair_c.specs.declared.held.PfairSettings.{PfairSettings}

-- the rows of a planned slot: none if it is forgotten
abbrev pub readable_at : {A : Type 0} → (forgotten : ℕ) → List A → ℕ → Option A
readable_at forgotten slots slot = if nat_lt slot forgotten then None else slice_get slots slot

-- the slots `from` to `to` - 1 are planned, and none of them is forgotten
abbrev pub are_readable : (forgotten planned from to : ℕ) → Bool
are_readable forgotten planned from to = nat_le to planned && (nat_le to from || nat_le forgotten from)

-- the slots `from` to `to` - 1 are planned, and no slot is forgotten, unless these are none
abbrev pub are_counted : (forgotten planned from to : ℕ) → Bool
are_counted forgotten planned from to = nat_le to planned && (nat_le to from || nat_eq forgotten 0)

-- NOT_PLANNED if nothing is given, NO_ROOM if there is room for fewer rows
abbrev pub rows_answer : {A : Type 0} → Option (List A) → ℕ → ℕ
rows_answer None room = NOT_PLANNED
rows_answer (Some planned) room = if nat_le (length planned) room then DONE else NO_ROOM

-- how many rows are given
abbrev pub rows_count : {A : Type 0} → Option (List A) → ℕ → ℕ
rows_count None count = count
rows_count (Some planned) count = length planned

-- how many, as far as 64 bits can say it
abbrev pub rows_counted : {A : Type 0} → Option (List A) → ℕ → ℕ
rows_counted None count = count
rows_counted (Some planned) count = min (length planned) 18446744073709551615

-- the rows over the first of those that were there, if these are enough
abbrev pub rows_laid : {B : Type 0} → Option (List B) → List B → List B
rows_laid None rows = rows
rows_laid (Some laid) rows = if nat_le (length laid) (length rows) then written_over laid rows else rows

-- the answer, and the count and the rows before and after, are those of a call that gives these rows, or nothing
abbrev pub AreGiven : {B : Type 0} → (counted : Option (List B) → ℕ → ℕ) → (given : Dispatch → Option (List B)) → Dispatch
    → (answer : ℕ) → (old new : ℕ × List B) → Type 0
AreGiven counted given d answer old new =
    (answer ≡ rows_answer (given d) (length old.1)) × (new.0 ≡ counted (given d) old.0) × (new.1 ≡ rows_laid (given d) old.1)

-- the table of a planned slot, and its places
abbrev pub table_of : (slot : ℕ) → Dispatch → Option (List PfairPick)
table_of slot d = option_map (map pick_row) (readable_at d.forgotten d.tables slot)

abbrev pub places_at : (slot : ℕ) → Dispatch → Option (List ℕ)
places_at slot d = readable_at d.forgotten (places_in d.origin d.tables) slot

-- the quanta of the slots `from` to `to` - 1, if all of these are planned, and none is forgotten
abbrev pub quanta_between : (from to : ℕ) → Dispatch → Option (List PfairQuantum)
quanta_between from to d = if are_readable d.forgotten (length d.tables) from to then Some (quanta_of d.origin d.tables from to) else None

-- the decisions of the slots `from` to `to` - 1, if all of these are planned, and none is forgotten
abbrev pub decisions_between : (from to : ℕ) → Dispatch → Option (List PfairDecision)
decisions_between from to d = if are_readable d.forgotten (length d.decided) from to then Some (decisions_of d.decided from to) else None

-- the lag of a task of a book at its time
abbrev pub lag_row : ℕ → NameValue × Tally → PfairLag
lag_row time e = record { time = time; name = name_row e.0; numerator = (lag_of e.1).0; period = (lag_of e.1).1 }

-- the lags of a book, in order of entering
abbrev pub book_rows : Book → List PfairLag
book_rows book = map (lag_row book.time) book.entered

-- a book that was notified of the first t slots of a dispatcher, and of no others
abbrev pub book_after : Dispatch → ℕ → Book
book_after d t = all_slots_booked (first_book d.origin) (take t d.decided) (take t d.tables)

-- the lags after slot t
abbrev pub lags_at : Dispatch → ℕ → List PfairLag
lags_at d t = book_rows (book_after d (t + 1))

-- the lags after each of the slots `from` to `to` - 1
abbrev pub lags_of : Dispatch → (from to : ℕ) → List PfairLag
lags_of d from to = rows_of (lags_at d) from (to - from)

-- the lags after each of the slots `from` to `to` - 1, if these are planned, and no slot is forgotten: they count from
-- the run's slot 0 on
abbrev pub lags_between : (from to : ℕ) → Dispatch → Option (List PfairLag)
lags_between from to d = if are_counted d.forgotten (length d.tables) from to then Some (lags_of d from to) else None

-- the lags are given; or an allocation failed as they were counted
pub record AreLagsGiven (from to : ℕ) (d : Dispatch) (answer : ℕ) (old new : ℕ × List PfairLag) : Type 0 where
  pub given : (answer ≡ MEMORY → ⊥) → AreGiven rows_counted (lags_between from to) d answer old new
  pub memory : answer ≡ MEMORY → (from < to) × (to ≤ length d.tables) × (d.forgotten ≡ 0) × (new ≡ old)

-- the slot that is planned next, counted from the first slot of the first run
abbrev pub time_of : Dispatch → ℕ
time_of d = slot_of d.origin (length d.tables)

-- as far as 64 bits hold it
abbrev pub within_64_bits : ℤ → ℤ
within_64_bits x = int_max (neg_ℤ (pos (2 ^ 63))) (int_min x (pos (2 ^ 63 - 1)))

-- a member, with the offset of its next subtask; the slot that its departure frees, or 0 if it isn't departing; its lag at this time
abbrev pub member_row : ℕ → Member → PfairMember
member_row time m = record {
  name = name_row m.name;
  cost = m.weight.cost;
  period = m.weight.period;
  early = if m.early then 1 else 0;
  joined = m.joined;
  next = m.next;
  theta = theta m m.next;
  is_departing = if is_departing m then 1 else 0;
  freed_at = unwrap_or m.freed_at 0;
  lag = within_64_bits (lag_at time m);
}

-- the members after the slots that are planned: if nothing that is held is torn, those of the contents
pub record AreMembersNow (d : Dispatch) (members : List Member) : Type 0 where
  pub are_members : AreMembersOf d members
  pub of_held : has_torn (replica_of d.replica) ≡ false → members ≡ members_after d.origin d.settings (replica_of d.replica) (length d.tables)

-- the members after the planned slots are given, if the dispatcher isn't spent
pub record AreMembersGiven (d : Dispatch) (answer : ℕ) (old new : ℕ × List PfairMember) : Type 0 where
  pub spent : d.spent ≡ true → (answer ≡ SPENT) × (new ≡ old)
  pub given : d.spent ≡ false → (members : List Member) × AreMembersNow d members × AreGiven rows_count (λ _. Some (map (member_row (time_of d)) members)) d answer old new

-- What the calls answer that say what a dispatcher holds.

-- the answer of a call on the log of a processor: 13 if there is no such processor
abbrev pub log_answer : ReplicaRows → ℕ → ℕ
log_answer x k = if nat_lt k x.processors then DONE else NO_SUCH_PROCESSOR

-- the answer of a call on a key: 13 if there is no such processor, 14 if no log has such a number
abbrev pub key_answer : ReplicaRows → (k n : ℕ) → ℕ
key_answer x k n = if nat_lt k x.processors then (if nat_le 1 n && nat_le n x.capacity then DONE else NO_SUCH_NUMBER) else NO_SUCH_PROCESSOR

-- ---- entries

-- the contents at a key: 0 nothing, 1 an entry, which is written over what stood there, 2 torn
abbrev pub held_row : Held Logged → PfairEntry → ℕ × PfairEntry
held_row None entry = (0, entry)
held_row (Some (One e)) entry = (1, entry_row e)
held_row (Some Torn) entry = (2, entry)

-- the contents at a key are given, or why there is no such key
abbrev pub IsHeldGiven : (k n : ℕ) → Dispatch → (answer : ℕ) → (old new : ℕ × PfairEntry) → Type 0
IsHeldGiven k n = IsGivenIf (λ d. key_answer d.replica k n) (λ d old. held_row (held d.replica k n) old.1)

-- ---- logs

-- the mark of a processor, and how many entries its sound beginning has
abbrev pub IsMarkGiven : (k : ℕ) → Dispatch → (answer : ℕ) → (old new : ℕ × ℕ) → Type 0
IsMarkGiven k = IsGivenIf (λ d. log_answer d.replica k) (λ d _. (mark (replica_of d.replica) k, length (sound_beginning (replica_of d.replica) k)))

-- the least number of its log at which nothing is held, or 0
abbrev pub IsMissingGiven : (k : ℕ) → Dispatch → (answer old new : ℕ) → Type 0
IsMissingGiven k = IsGivenIf (λ d. log_answer d.replica k) (λ d _. unwrap_or (missing (replica_of d.replica) k) 0)

-- every torn key, and then every entry that ends a sound beginning by its floor
abbrev pub faulty_keys : Dispatch → List EntryKey
faulty_keys d = torn_keys (replica_of d.replica) ++ fallen_keys (replica_of d.replica)

-- these keys are given, and how many are torn and fallen; or an allocation failed, and there is such a key
pub record AreFaultsGiven (d : Dispatch) (answer : ℕ) (old new : ℕ × ℕ × List PfairKey) : Type 0 where
  pub memory : answer ≡ MEMORY → (new ≡ old) × ((torn_keys (replica_of d.replica) ≢ []) ⊎ (fallen_keys (replica_of d.replica) ≢ []))
  pub counts : (answer ≡ MEMORY → ⊥) → (new.0 ≡ length (torn_keys (replica_of d.replica))) × (new.1 ≡ length (fallen_keys (replica_of d.replica)))
  pub keys : (answer ≡ MEMORY → ⊥) → (answer ≡ rows_answer (Some (faulty_keys d)) (length old.2)) × (new.2 ≡ rows_laid (Some (map key_row (faulty_keys d))) old.2)

-- ---- settings

abbrev pub settings_row : Dispatch → PfairSettings
settings_row d =
    record {
      processors = d.settings.processors;
      frame = d.settings.frame;
      slots = d.settings.slots;
      capacity = d.replica.capacity;
    }
