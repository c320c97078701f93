-- What a follower is seen as, and what its calls leave.
use Rattle.std.specs.Prelude.{ℕ, ◌≡◌, ◌≤◌, IfSome, List, Option, length, max, take, drop, ◌+◌, ◌≢◌, ◌<◌, ◌⊎◌, IsTrue, true, false, ◌&&◌, nat_lt, nat_le, is_none, [], Some, None, slice_get, if◌then◌else◌}
use Rattle.pfair_lag.specs.Book.{Book}
use Rattle.pfair_table.specs.declared.slot.Decided.{Decided}
use Rattle.pfair_table.specs.Refinement.{Dispatch, IsWholePlan}
use Rattle.pfair_table.specs.Table.{Origin, Table, Settings}
use Rattle.pfair_table.specs.Places.{places_in}
use Rattle.pfair_output.specs.Replay.{slots_from, placed_header, placed_table_rows, replay_header, table_rows, decided_rows, decisions_header}
use Rattle.pfair_text.specs.Rows.{lines_text}
use Rattle.pfair_output.specs.Lags.{lags_header, all_slots_booked, first_book, rows_booked}
use Rattle.pfair_feed.specs.declared.output.Output.{Output}
use Rattle.pfair_feed.specs.declared.output.Output.TheVariants.{Tables, PlacedTables, Decisions, Lags}
use Rattle.std.specs.Io.KnownBytes.{Appends}
use Rattle.pfair_entry.specs.Entry.{Logged}
use Rattle.pfair_replica.specs.Replica.{held, replica_of, taken, Replica, Agree, has_torn, mark, sound_beginning, torn_keys}
use Rattle.pfair_replica.specs.Faults.{IsKeyOf}
use Rattle.pfair_table.specs.declared.answer.PlanFault.{PlanFault}
use Rattle.pfair_table.specs.Events.{is_plannable, IsPrefixOf}
use Rattle.pfair_file.specs.declared.program_fault.ProgramFault.{ProgramFault}
use Rattle.pfair_file.specs.declared.program_fault.ProgramFault.TheVariants.{NoSuchProcessor, NumberOutOfRange, Torn, Spent, WriteFailed, Memory}
use Rattle.pfair_table.specs.declared.answer.PlanFault.TheVariants as plan

-- The rows of what was planned, from a slot on.

abbrev pub header_of : Output → List (List ℕ)
header_of Tables = replay_header
header_of PlacedTables = placed_header
header_of Decisions = decisions_header
header_of Lags = lags_header

-- the book of lags after the first slots of a run that begins there
abbrev pub book_before : Origin → ℕ → List Table → List (List Decided) → Book
book_before o slot tables decided = all_slots_booked (first_book o) (take slot decided) (take slot tables)

-- the rows of the slots that are planned of a run that begins there, from a slot on
abbrev pub rows_in : Origin → Output → ℕ → List Table → List (List Decided) → List (List (List ℕ))
rows_in o Tables slot tables decided = slots_from table_rows slot (drop slot tables)
rows_in o PlacedTables slot tables decided = slots_from (placed_table_rows (places_in o tables)) slot (drop slot tables)
rows_in o Decisions slot tables decided = slots_from decided_rows slot (drop slot decided)
rows_in o Lags slot tables decided = rows_booked (book_before o slot tables decided) (drop slot decided) (drop slot tables)

-- the text of the rows of what a dispatcher has planned, from a slot on
abbrev pub rows_text : Dispatch → Output → ℕ → List ℕ
rows_text d output slot = lines_text (rows_in d.origin output slot d.tables d.decided)

-- Of slots whose rows are written none is asked again, but for lags, which count from slot 0 on.
abbrev pub KeepsUnwritten : Output → (forgotten unwritten : ℕ) → Type 0
KeepsUnwritten output forgotten unwritten = (forgotten ≤ unwritten) × (output ≡ Lags → forgotten ≡ 0)

-- a book that was notified of some of the slots before one
pub record IsBookOf (o : Origin) (slot : ℕ) (tables : List Table) (decided : List (List Decided)) (book : Book) : Type 0 where
  pub early : book.time ≤ slot
  pub there : book.time ≤ length tables
  pub booked_is : book ≡ book_before o book.time tables decided

-- such a book, if there is one
abbrev pub IsBookIfAny : Origin → ℕ → List Table → List (List Decided) → Option Book → Type 0
IsBookIfAny o slot tables decided book = IfSome book (IsBookOf o slot tables decided)

-- a book that was notified of no slots but those that are written once all that is planned is
abbrev pub IsWholeBook : Dispatch → ℕ → Option Book → Type 0
IsWholeBook d slot book = IsBookIfAny d.origin (max slot (length d.tables)) d.tables d.decided book

-- a follower, as a contract sees it: what it writes, its dispatcher, and the first slot whose rows are still to be written
pub record Follow : Type 0 where
  pub output : Output
  pub dispatch : Dispatch
  pub unwritten : ℕ

-- the text of what is planned afterwards and was not written before
abbrev pub news : Follow → Follow → List ℕ
news before after = lines_text (rows_in after.dispatch.origin before.output before.unwritten after.dispatch.tables after.dispatch.decided)

-- all slots of the run are planned
abbrev pub IsPlannedOut : Follow → Type 0
IsPlannedOut f = f.dispatch.settings.slots ≤ length f.dispatch.tables

-- ---- plans

-- more is planned of the same, and what was planned stands
pub record IsGrown (before after : Dispatch) : Type 0 where
  pub settings_are : after.settings ≡ before.settings
  pub origin_is : after.origin ≡ before.origin
  pub held_are : after.replica ≡ before.replica
  pub tables_go_on : IsPrefixOf before.tables after.tables
  pub decided_go_on : IsPrefixOf before.decided after.decided

-- why no more was planned, and what stands then
abbrev pub IsEndOfPlans : Dispatch → Dispatch → PlanFault → Type 0
IsEndOfPlans before after (plan.Torn proc number) = (has_torn (replica_of before.replica) ≡ true) × (slice_get (torn_keys (replica_of before.replica)) 0 ≡ Some (proc, number)) × (after ≡ before)
IsEndOfPlans before after plan.Spent = (has_torn (replica_of before.replica) ≡ false) × (before.spent ≡ true) × (after ≡ before)
IsEndOfPlans before after plan.Memory =
    (has_torn (replica_of before.replica) ≡ false) × (before.spent ≡ false) × (after.spent ≡ true) × IsTrue (is_plannable after.settings (replica_of after.replica) (length after.tables))

-- ---- one entry

-- the same run goes on: more may be planned of it, and none of the slots that lags count is forgotten
pub record IsSameRun (before after : Follow) : Type 0 where
  pub output_is : after.output ≡ before.output
  pub grown : IsGrown (record before.dispatch { replica = after.dispatch.replica }) after.dispatch
  pub counted : after.output ≡ Lags → after.dispatch.forgotten ≡ 0

-- nothing held is torn, and no plan had failed before
abbrev pub IsAble : (before after : Follow) → Type 0
IsAble before after = (has_torn (replica_of after.dispatch.replica) ≡ false) × (before.dispatch.spent ≡ false)

-- an entry was taken: all that is settled is planned and written, and it is forgotten unless lags count it
pub record HasFollowed (before after : Follow) (k n : ℕ) (old new : Option (List ℕ)) : Type 0 where
  pub key : IsKeyOf before.dispatch.replica k n
  pub able : IsAble before after
  pub unspent : after.dispatch.spent ≡ false
  pub whole : IsWholePlan after.dispatch
  pub unwritten_is : after.unwritten ≡ max before.unwritten (length after.dispatch.tables)
  pub forgotten_is : (after.output ≡ Lags → ⊥) → after.dispatch.forgotten ≡ length after.dispatch.tables
  pub written : Appends old new (news before after)

-- ---- faults at an entry

-- nothing has changed but the contents
abbrev pub IsOnlyTaken : (before after : Follow) → Type 0
IsOnlyTaken before after = after ≡ record before { dispatch = record before.dispatch { replica = after.dispatch.replica } }

-- the next slot is settled, and its plan has failed
abbrev pub IsStuck : Dispatch → Type 0
IsStuck d = (d.spent ≡ true) × IsTrue (is_plannable d.settings (replica_of d.replica) (length d.tables))

-- all that is settled is planned, and the book was not notified of all of it
abbrev pub AreDue : (before after : Follow) → Type 0
AreDue before after = (after.dispatch.spent ≡ false) × IsWholePlan after.dispatch × (before.unwritten < length after.dispatch.tables)

-- Why a follower stops at an entry, and what it is then. An allocation fails for the entry, and nothing has changed; or, if nothing held is torn
-- and the dispatcher wasn't spent, in the plan of a slot, or for rows that are due. No other fault of the programs comes.
abbrev pub IsStopOf : (before after : Follow) → (k n : ℕ) → Logged → ProgramFault → Type 0
IsStopOf f g k n e NoSuchProcessor = (f.dispatch.replica.processors ≤ k) × (g ≡ f)
IsStopOf f g k n e NumberOutOfRange = (k < f.dispatch.replica.processors) × ((n ≡ 0) ⊎ (f.dispatch.replica.capacity < n)) × (g ≡ f)
IsStopOf f g k n e (Torn proc number) = IsKeyOf f.dispatch.replica k n × (slice_get (torn_keys (replica_of g.dispatch.replica)) 0 ≡ Some (proc, number)) × IsOnlyTaken f g
IsStopOf f g k n e Spent = IsKeyOf f.dispatch.replica k n × (has_torn (replica_of g.dispatch.replica) ≡ false) × (f.dispatch.spent ≡ true) × IsOnlyTaken f g
IsStopOf f g k n e WriteFailed = IsKeyOf f.dispatch.replica k n × IsAble f g × AreDue f g × (news f g ≢ [])
IsStopOf f g k n e Memory =
    IsKeyOf f.dispatch.replica k n
    × (((held f.dispatch.replica k n ≡ None) × (g ≡ f))
    ⊎ ((replica_of g.dispatch.replica ≡ taken (replica_of f.dispatch.replica) k n e) × IsAble f g × (IsStuck g.dispatch ⊎ AreDue f g)))
IsStopOf f g k n e fault = ⊥

-- ---- what would settle more

-- the number right behind the sound beginning of one of the logs, if it doesn't settle all slots, nothing is held there and there is room
abbrev pub missing_of : Settings → Replica → ℕ → Option ℕ
missing_of s x k =
    let number = length (sound_beginning x k) + 1 in
    if nat_lt k x.processors && (nat_lt (mark x k) s.slots && (nat_le number x.capacity && is_none (x.at k number))) then Some number else None

-- ---- two followers

-- If settings, beginnings, outputs and contents agree, the rows of what one has planned, from any slot on, begin those of the other.
abbrev pub HaveWrittenAlike : Follow → Follow → Type 0
HaveWrittenAlike f g =
    f.output ≡ g.output → f.dispatch.settings ≡ g.dispatch.settings → f.dispatch.origin ≡ g.dispatch.origin → Agree (replica_of f.dispatch.replica) (replica_of g.dispatch.replica) → (slot : ℕ)
    → IsPrefixOf (rows_in f.dispatch.origin f.output slot f.dispatch.tables f.dispatch.decided) (rows_in g.dispatch.origin g.output slot g.dispatch.tables g.dispatch.decided)
    ⊎ IsPrefixOf (rows_in g.dispatch.origin g.output slot g.dispatch.tables g.dispatch.decided) (rows_in f.dispatch.origin f.output slot f.dispatch.tables f.dispatch.decided)
