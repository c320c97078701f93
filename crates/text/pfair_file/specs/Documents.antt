-- What a file's bytes say.
use Rattle.std.specs.Prelude.{ℕ, ◌+◌, nat_le, if◌then◌else◌, List, [], ◌∷◌, ◌++◌, Option, Some, Result, Ok, Err, length, ok_or, option_map, option_and_then, slice_index_or, slice_set, ◌-◌, true, None, map, nat_lt, replicate, slice_get, ◌≡◌, ◌<◌, ◌==◌, ◌↔◌, IfSome}
use Rattle.toml.specs.Data.{Items, Members, as_table, item, no_items, Data, as_array, get_member}
use Rattle.pfair_entry.specs.Entry.{Logged}
use Rattle.pfair_entry.specs.declared.notice.NoticeFault.{NoticeFault}
use Rattle.pfair_entry.specs.declared.notice.NoticeFault.TheVariants.{LogFull}
use Rattle.pfair_entry.specs.Kinds.{and_then}
use Rattle.pfair_file.specs.Tables.{Made, made_at}
use Rattle.pfair_file.specs.declared.fault.FileFault.{FileFault}
use Rattle.pfair_file.specs.declared.tables.TheConstants.{MOST_ENTRIES}
use Rattle.std.specs.Option.{option_map_or}
use Rattle.std.specs.Str.{is_utf8}
use Rattle.toml.specs.Parse.{parse_document}
use Rattle.pfair_table.specs.Script.{LoggedRun, replica_of_logs}
use Rattle.pfair_table.specs.Table.{Settings}
use Rattle.pfair_file.specs.Keys.{key_of, settings_of, version_of}
use Rattle.pfair_file.specs.declared.fault.FileFault.TheVariants.{NotToml, WrongKind}
use Rattle.pfair_replica.specs.Replica.{frontier}
use Rattle.pfair_file.specs.declared.program_fault.ProgramFault.{ProgramFault}
use Rattle.pfair_file.specs.declared.program_fault.ProgramFault.TheVariants.{Stalled, File, FileTooLong, ReadFailed, Memory}
use Rattle.pfair_file.specs.declared.field.Field.TheVariants as field
use Rattle.pfair_file.specs.declared.fault.FileFault.TheVariants as fault

-- The entries of a file, table by table.

-- the logs, by processor
abbrev pub Logs : Type 0
Logs = List (List Logged)

-- the log of a processor with one more entry, or why it has none
abbrev pub with_next : ℕ → List Logged → Result Logged NoticeFault → Result (List Logged) FileFault
with_next processor log (Ok entry) = Ok (log ++ entry ∷ [])
with_next processor log (Err cause) = Err (fault.Entry processor (length log + 1) cause)

-- the log of a processor after a table that makes this entry: a file leaves room for the closing one
abbrev pub longer_log : ℕ → List Logged → Result Logged NoticeFault → Result (List Logged) FileFault
longer_log processor log made = with_next processor log (if nat_le MOST_ENTRIES (length log) then Err LogFull else made)

-- the logs after a table that makes this
abbrev pub logs_after : Logs → Made → Result Logs FileFault
logs_after logs made =
    and_then (λ log. Ok (slice_set logs made.processor log)) (longer_log made.processor (slice_index_or logs made.processor []) made.entry)

-- the logs after the table at this place
abbrev pub with_entry : ℕ → ℕ → Logs → Members → Result Logs FileFault
with_entry version place logs table = and_then (λ made. logs_after logs made) (made_at version (length logs) place table)

-- the logs with the entries of tables, the first of which is at this place
abbrev pub with_entries : ℕ → ℕ → Logs → List Members → Result Logs FileFault
with_entries version place logs [] = Ok logs
with_entries version place logs (table ∷ tables) = and_then (λ more. with_entries version (place + 1) more tables) (with_entry version place logs table)

-- the members of an array, if all are tables
abbrev pub tables_of : Items → Option (List Members)
tables_of no_items = Some []
tables_of (item d ds) = option_and_then (λ t. option_map (λ ts. t ∷ ts) (tables_of ds)) (as_table d)

-- the logs with the entries of an array
abbrev pub with_items : ℕ → Logs → Items → Result Logs FileFault
with_items version logs items = and_then (λ tables. with_entries version 1 logs tables) (ok_or (tables_of items) (fault.WrongKind 0 field.Entries))

-- the table that the bytes are the text of
abbrev pub document : List ℕ → Option Members
document bytes = if is_utf8 bytes then parse_document bytes else None

-- an empty log for each processor
abbrev pub empty_logs : ℕ → Logs
empty_logs processors = replicate processors []

-- the logs with the entries of the key `entry`, which may be missing
abbrev pub entries_in : ℕ → Logs → Option Data → Result Logs FileFault
entries_in version logs None = Ok logs
entries_in version logs (Some d) = and_then (λ items. with_items version logs items) (ok_or (as_array d) (WrongKind 0 field.Entries))

abbrev pub entries_at : ℕ → Logs → Members → Result Logs FileFault
entries_at version logs table = entries_in version logs (get_member (key_of field.Entries) table)

-- a log with the entry that closes it, if it has no entry or its last floor is below the number of slots
abbrev pub closed : ℕ → List Logged → List Logged
closed slots log =
    let is_open = option_map_or (λ e. nat_lt e.floor slots) (slice_get log (length log - 1)) true in
    if is_open then log ++ (record { floor = slots; said = None }) ∷ [] else log

abbrev pub close_all : ℕ → Logs → Logs
close_all slots logs = map (closed slots) logs

-- the logs of a file of this version, for a run that is set so
abbrev pub logs_at : ℕ → Settings → Members → Result Logs FileFault
logs_at version settings table = and_then (λ logs. Ok (close_all settings.slots logs)) (entries_at version (empty_logs settings.processors) table)

-- what a file says, or its first fault
abbrev pub script_of_file : List ℕ → Result LoggedRun FileFault
script_of_file bytes =
    and_then (λ table.
    and_then (λ version.
    and_then (λ settings.
    and_then (λ logs. Ok (record { settings = settings; logs = logs }))
    (logs_at version settings table))
    (settings_of table))
    (version_of table))
    (ok_or (document bytes) NotToml)

-- The log of a processor, told by the tables that name it.

abbrev pub entry_list : Result Logged NoticeFault → List Logged
entry_list (Ok entry) = entry ∷ []
entry_list (Err fault) = []

-- the entry of a table, if the table names this processor
abbrev pub entry_for : ℕ → Result Made FileFault → List Logged
entry_for processor (Ok made) = if made.processor == processor then entry_list made.entry else []
entry_for processor (Err fault) = []

-- the entries of the tables that name this processor, in file order, the first table of all being at this place
abbrev pub entries_for : ℕ → ℕ → ℕ → ℕ → List Members → List Logged
entries_for version processors processor place [] = []
entries_for version processors processor place (table ∷ tables) =
    entry_for processor (made_at version processors place table) ++ entries_for version processors processor (place + 1) tables

-- if no table has a fault, each log has the entries of the tables that name its processor, in file order, and nothing else
abbrev pub LogsAreInFileOrder : Type 0
LogsAreInFileOrder =
    (version processors : ℕ) (tables : List Members) (logs : Logs) → with_entries version 1 (empty_logs processors) tables ≡ Ok logs
    → (processor : ℕ) → processor < processors → slice_index_or logs processor [] ≡ entries_for version processors processor 1 tables

-- The first table of a file that has a fault.

-- one of the tables has this fault, and those before it, the first of which is at this place, have none
pub record IsOfFirstTable (version place : ℕ) (logs : Logs) (tables : List Members) (f : FileFault) : Type 0 where
  pub before : List Members
  pub table : Members
  pub after : List Members
  pub more : Logs
  pub tables_are : tables ≡ before ++ table ∷ after
  pub no_fault_before : with_entries version place logs before ≡ Ok more
  pub fault : with_entry version (place + length before) more table ≡ Err f

-- the tables have a fault exactly if one of them has it after tables without one
abbrev pub FirstTableIsAtFault : Type 0
FirstTableIsAtFault =
    (version place : ℕ) (logs : Logs) (tables : List Members) (f : FileFault)
    → (with_entries version place logs tables ≡ Err f) ↔ IsOfFirstTable version place logs tables f

-- Why a task file has no schedule.

-- the bytes are those of a script whose logs settle only the slots below this one, which is one of its slots
abbrev pub IsStalledAt : List ℕ → ℕ → Type 0
IsStalledAt bytes slot = (run : LoggedRun) × (script_of_file bytes ≡ Ok run) × (slot ≡ frontier (replica_of_logs run.logs)) × (slot < run.settings.slots)

-- why a file has no schedule, by the bytes that its reader has to give, if they are known; no other fault says so
abbrev pub IsRefusalOf : Option (List ℕ) → ProgramFault → Type 0
IsRefusalOf given (File fault) = IfSome given (λ bytes. script_of_file bytes ≡ Err fault)
IsRefusalOf given (Stalled slot) = IfSome given (λ bytes. IsStalledAt bytes slot)
IsRefusalOf given FileTooLong = Unit {0}
IsRefusalOf given ReadFailed = Unit {0}
IsRefusalOf given Memory = Unit {0}
IsRefusalOf given _ = ⊥
