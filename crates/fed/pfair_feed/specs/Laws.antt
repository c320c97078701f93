-- What a whole input comes to.
use Rattle.std.specs.Prelude.{ℕ, suc, List, [], ◌∷◌, ◌≡◌, ◌++◌, None, length, max, ◌≢◌, ◌≤◌, ◌<◌, ◌⊎◌, map, ◌↔◌, Option}
use Rattle.pfair_text.specs.Rows.{lines_text, line}
use Rattle.pfair_entry.specs.Entry.{Logged}
use Rattle.pfair_entry_row.specs.Row.{entry_fields, entry_row, IsEntryAt}
use Rattle.pfair_output.specs.Replay.{slots_from, placed_replay_text, replay_text, decisions_text}
use Rattle.pfair_replica.specs.Replica.{replica_of, Replica, frontier, said, Agree, empty_replica}
use Rattle.pfair_table.specs.declared.slot.Decided.{Decided}
use Rattle.pfair_table.specs.Table.{Origin, Settings, Table, plan, plan_decisions, decisions}
use Rattle.pfair_table.specs.Refinement.{Dispatch, IsWholePlan, course_of}
use Rattle.pfair_output.specs.Lags.{lags_text}
use Rattle.pfair_feed.specs.declared.output.Output.{Output}
use Rattle.pfair_feed.specs.declared.output.Output.TheVariants.{Tables, PlacedTables, Decisions, Lags}
use Rattle.pfair_feed.specs.Follow.{header_of, rows_in, Follow, news}
use Rattle.std.specs.List.{AllByRecursion}
use Rattle.pfair_entry.specs.Notice.{IsLoggable}
use Rattle.pfair_replica.specs.Laws.{Among}
use Rattle.pfair_table.specs.declared.settings.TheConstants.Settings.{MAX_PROCESSORS}
use Rattle.pfair_table.specs.Events.{begin_at, IsPrefixOf}
use Rattle.pfair_table.specs.Script.{IsLoggedRun, LoggedRun, replica_of_logs, capacity_of}
use Rattle.std.specs.Io.KnownBytes.{Appends}
use Rattle.pfair_feed.specs.Feeding.{AreFedBytes, AreLines, AreTakenFrom}

-- The entries of some logs, as rows.

-- the entries of one processor's log, from a number on
abbrev pub numbered_from : (processor number : ℕ) → List Logged → List (List (List ℕ))
numbered_from processor number [] = []
numbered_from processor number (e ∷ log) = entry_fields processor number e ∷ numbered_from processor (suc number) log

-- the entries of one processor's log
abbrev pub log_rows : ℕ → List Logged → List (List (List ℕ))
log_rows processor log = numbered_from processor 1 log

-- a row for each entry: the logs in order, and in each its entries by their numbers
abbrev pub entries_text : List (List Logged) → List ℕ
entries_text logs = lines_text (slots_from log_rows 0 logs)

-- What holds of rows that are written slot after slot.

-- Wherever a run begins: the rows of slots and of more behind them, from a slot on, are those of the slots, and then those of the rest.
abbrev pub RowsGoOn : Type 0
RowsGoOn =
    (o : Origin) (output : Output) (slot : ℕ) (tables more : List Table) (decided rest : List (List Decided)) → length tables ≡ length decided
    → rows_in o output slot (tables ++ more) (decided ++ rest)
    ≡ rows_in o output slot tables decided ++ rows_in o output (max slot (length tables)) (tables ++ more) (decided ++ rest)

-- the text that is written at once of the contents
abbrev pub text_of : Output → Settings → Replica → List ℕ
text_of Tables s x = replay_text (plan None s x)
text_of PlacedTables s x = placed_replay_text (plan None s x)
text_of Decisions s x = decisions_text (plan_decisions None s x)
text_of Lags s x = lags_text s x

-- The header and the rows of a first run's whole plan are that text.
abbrev pub WholeRows : Type 0
WholeRows =
    (output : Output) (d : Dispatch) → d.origin ≡ None → IsWholePlan d
    → lines_text (header_of output ∷ rows_in None output 0 d.tables d.decided) ≡ text_of output d.settings (replica_of d.replica)

-- The entries of a script, lines that have their rows, and what holds the script's schedule.

-- ---- entries

-- an entry behind its processor and its number
abbrev pub Placed : Type 0
Placed = ℕ × ℕ × Logged

abbrev pub row_of : Placed → List ℕ
row_of e = entry_row e.0 e.1 e.2

abbrev pub IsPlaced : Placed → Type 0
IsPlaced e = IsEntryAt e.0 e.1 e.2

-- the entries of one processor's log, from a number on
abbrev pub placed_from : (processor number : ℕ) → List Logged → List Placed
placed_from processor number [] = []
placed_from processor number (e ∷ log) = (processor, number, e) ∷ placed_from processor (suc number) log

-- the entries of logs, the first of which is that of a processor
abbrev pub placed_in : ℕ → List (List Logged) → List Placed
placed_in processor [] = []
placed_in processor (log ∷ logs) = placed_from processor 1 log ++ placed_in (suc processor) logs

-- the rows of the entries of all logs, that of processor 0 first
abbrev pub rows_of : List (List Logged) → List (List ℕ)
rows_of logs = map row_of (placed_in 0 logs)

-- What each script keeps: a log for each processor, none longer than a log may be, of entries that a log may have.
pub record IsScript (run : LoggedRun) : Type 0 where
  pub logged : IsLoggedRun run
  pub few : run.settings.processors ≤ MAX_PROCESSORS
  pub loggable : AllByRecursion (λ log. AllByRecursion IsLoggable log) run.logs

-- ---- lines

-- each of the first ones is one of the second ones
abbrev pub AreAmong : {A : Type 0} → List A → List A → Type 0
AreAmong xs ys = AllByRecursion (λ x. Among ys x) xs

abbrev pub IsNoRow : List ℕ → Type 0
IsNoRow line = (processor number : ℕ) (e : Logged) → IsEntryAt processor number e → line ≢ entry_row processor number e

-- the row of an entry at a key that isn't one of so many logs with room for so many entries
pub record IsRowElsewhere (processors capacity : ℕ) (line : List ℕ) : Type 0 where
  pub processor : ℕ
  pub number : ℕ
  pub entry : Logged
  pub is_entry : IsEntryAt processor number entry
  pub row_is : line ≡ entry_row processor number entry
  pub elsewhere : (processors ≤ processor) ⊎ ((number ≡ 0) ⊎ (capacity < number))

-- a line that such logs take nothing from, as the question and each row that is refused
abbrev pub BringsNothing : (processors capacity : ℕ) → List ℕ → Type 0
BringsNothing processors capacity line = IsNoRow line ⊎ IsRowElsewhere processors capacity line

-- The lines have all of these rows, in whatever order and however often each, and beside them only what brings nothing.
pub record HaveTheRows (processors capacity : ℕ) (rows lines : List (List ℕ)) : Type 0 where
  pub each : AllByRecursion (λ line. Among rows line ⊎ BringsNothing processors capacity line) lines
  pub all : AreAmong rows lines

-- ---- schedules

-- a replica of the logs of a script, with room for so many entries in each
abbrev pub replica_with_room : ℕ → LoggedRun → Replica
replica_with_room capacity run = record (replica_of_logs run.logs) { capacity = capacity }

-- the contents settle as many slots as the script's own replica, and have its tables, its decisions and each of its texts
pub record HasScheduleOf (run : LoggedRun) (replica : Replica) : Type 0 where
  pub frontier_is : frontier replica ≡ frontier (replica_of_logs run.logs)
  pub plan_is : plan None run.settings replica ≡ plan None run.settings (replica_of_logs run.logs)
  pub decisions_are : (slot : ℕ) → decisions None run.settings (said replica) slot ≡ decisions None run.settings (said (replica_of_logs run.logs)) slot
  pub texts_are : (output : Output) → text_of output run.settings replica ≡ text_of output run.settings (replica_of_logs run.logs)

-- ---- followers

-- a follower of a run that begins there, which holds nothing, with room for so many entries in each log, and has planned nothing
pub record IsBegun (o : Origin) (settings : Settings) (capacity : ℕ) (f : Follow) : Type 0 where
  pub settings_are : f.dispatch.settings ≡ settings
  pub course_is : course_of f.dispatch ≡ begin_at o settings capacity

-- The rows of the same entries, in whatever order and however often they come, leave the same.
abbrev pub OrderIsNothing : Type 0
OrderIsNothing =
    (processors capacity : ℕ) (es fs : List Placed) (y z : Replica) → AllByRecursion IsPlaced es → AllByRecursion IsPlaced fs → AreAmong es fs → AreAmong fs es
    → AreTakenFrom (map row_of es) (empty_replica processors capacity) y → AreTakenFrom (map row_of fs) (empty_replica processors capacity) z → y ≡ z

-- The header, and what a first run's follower has written that had written nothing before, are the text that is written at once of what it holds.
abbrev pub WholeText : Type 0
WholeText =
    (bytes rest : List ℕ) (f g : Follow) (old new : Option (List ℕ)) → f.dispatch.origin ≡ None → f.unwritten ≡ 0 → AreFedBytes bytes f g old new rest
    → line (header_of g.output) ++ news f g ≡ text_of g.output g.dispatch.settings (replica_of g.dispatch.replica)

-- Bytes are lines, and then the beginning of one, in one way.
abbrev pub LinesAreOne : Type 0
LinesAreOne =
    (bytes : List ℕ) (lines lines' : List (List ℕ)) (rest rest' : List ℕ) → AreLines bytes lines rest → AreLines bytes lines' rest' → (lines ≡ lines') × (rest ≡ rest')

-- The text of a script's entries is a line for each, its row, and nothing behind the last. What these lines bring to logs that hold nothing,
-- with room for them, is each entry at its number, and nothing else.
abbrev pub EntriesAreTheirRows : Type 0
EntriesAreTheirRows =
    (run : LoggedRun) → IsScript run
    → AreLines (entries_text run.logs) (rows_of run.logs) []
    × ((capacity : ℕ) (replica : Replica) → capacity_of run.logs ≤ capacity
    → AreTakenFrom (rows_of run.logs) (empty_replica run.settings.processors capacity) replica ↔ (replica ≡ replica_with_room capacity run))

-- Lines that have these rows, in whatever order and however often each, and with whatever between them that brings nothing, leave a replica
-- that holds the script, and has its schedule.
abbrev pub EntriesGiveTheirSchedule : Type 0
EntriesGiveTheirSchedule =
    (run : LoggedRun) (capacity : ℕ) (lines : List (List ℕ)) (replica : Replica) → IsScript run → capacity_of run.logs ≤ capacity
    → HaveTheRows run.settings.processors capacity (rows_of run.logs) lines → AreTakenFrom lines (empty_replica run.settings.processors capacity) replica
    → (replica ≡ replica_with_room capacity run) × HasScheduleOf run replica

-- A follower that was new, and had written the header and nothing else, has written the whole text of the script's schedule once it was fed
-- bytes whose lines have these rows.
abbrev pub FedEntriesGiveTheirText : Type 0
FedEntriesGiveTheirText =
    (run : LoggedRun) (capacity : ℕ) (bytes rest : List ℕ) (lines : List (List ℕ)) (f g : Follow) (before begun after : Option (List ℕ))
    → IsScript run → capacity_of run.logs ≤ capacity → IsBegun None run.settings capacity f → f.unwritten ≡ 0 → AreLines bytes lines rest
    → HaveTheRows run.settings.processors capacity (rows_of run.logs) lines → Appends before begun (line (header_of f.output)) → AreFedBytes bytes f g begun after rest
    → Appends before after (text_of f.output run.settings (replica_of_logs run.logs)) × HasScheduleOf run (replica_of g.dispatch.replica)

-- Of two followers that were new, of equal settings and outputs, whose runs begin alike, and that write slots from the same one on: if what
-- they were fed agrees, what one has written begins with what the other has, or the other way round.
abbrev pub RunsWriteAlike : Type 0
RunsWriteAlike =
    (o : Origin) (settings : Settings) (capacity capacity' : ℕ) (bytes bytes' rest rest' : List ℕ) (f g f' g' : Follow) (old new old' new' : Option (List ℕ))
    → IsBegun o settings capacity f → IsBegun o settings capacity' f' → f.output ≡ f'.output → f.unwritten ≡ f'.unwritten
    → AreFedBytes bytes f g old new rest → AreFedBytes bytes' f' g' old' new' rest' → Agree (replica_of g.dispatch.replica) (replica_of g'.dispatch.replica)
    → IsPrefixOf (news f g) (news f' g') ⊎ IsPrefixOf (news f' g') (news f g)
