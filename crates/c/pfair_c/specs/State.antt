-- The state in which a run began, as C has it, and a run that begins with one.
use Rattle.std.specs.Prelude.{ℕ, ◌≡◌, ◌+◌, ◌≤◌, ◌<◌, ◌⊎◌, true, false, List, length, Some, unwrap_or, [], None, Ok, Err}
use Rattle.pfair_state.specs.Reading.{IsWritable, read_fault_number}
use Rattle.pfair_state.specs.Rows.{state_text}
use Rattle.pfair_state.specs.declared.fault.ReadFault.{ReadFault}
use Rattle.pfair_state.specs.declared.fault.Why.{Why}
use Rattle.pfair_admission.specs.Admission.{refusal_number}
use Rattle.pfair_admission.specs.declared.member_state.RestoreFault.TheVariants.{NotAdmitted}
use Rattle.pfair_admission.specs.declared.members.TheConstants.Members.{LAST_SLOT}
use Rattle.pfair_table.specs.Events.{begin_at}
use Rattle.pfair_table.specs.Places.{first_state, settings_from}
use Rattle.pfair_table.specs.Refinement.{Dispatch, course_of}
use Rattle.pfair_table.specs.Table.{Carried}
use Rattle.pfair_table.specs.declared.script.TheConstants.Script.{LONGEST_LOG}
use Rattle.pfair_table.specs.declared.settings.TheConstants.Settings.{MAX_SLOTS}
use Rattle.pfair_file.specs.declared.input.TheConstants.{LONGEST_FILE}
use Rattle.pfair_handle.specs.Kept.{Kept, is_kept}
use Rattle.pfair_handle.specs.Behind.{Of}
use Rattle.pfair_c.specs.declared.answer.TheConstants.{DONE, FILE_TOO_LONG, MEMORY, OPEN_ALREADY, OUT_OF_RANGE}
use Rattle.pfair_c.specs.declared.resume.PfairStateFault.{PfairStateFault}
use Rattle.pfair_c.specs.RowsGiven.{AreGiven, rows_count}
use Rattle.pfair_replica.specs.Replica.{replica_of}
use Rattle.pfair_table.specs.Script.{LoggedRun, replica_of_logs}
use Rattle.pfair_file.specs.Documents.{script_of_file}
use Rattle.pfair_entry.specs.Notice.{notice_fault_number}
use Rattle.pfair_file.specs.ProgramFaults.{file_fault_number}
use Rattle.pfair_file.specs.declared.field.Field.{Field}
use Rattle.pfair_file.specs.declared.fault.FileFault.{FileFault}
use Rattle.pfair_c.specs.declared.file.PfairFileFault.{PfairFileFault}
use Rattle.pfair_state.specs.declared.fault.ReadFault.TheVariants as fault
use Rattle.pfair_state.specs.declared.fault.Why.TheVariants as why
use Rattle.pfair_file.specs.declared.field.Field.TheVariants as field
use Rattle.pfair_file.specs.declared.fault.FileFault.TheVariants as file

abbrev pub began : Dispatch → Carried
began d = unwrap_or d.origin (first_state d.settings)

-- the bytes are given, of a state that is read back; or an allocation failed
pub record AreBytesGiven (d : Dispatch) (answer : ℕ) (old new : ℕ × List ℕ) : Type 0 where
  pub given : (answer ≡ MEMORY → ⊥) → AreGiven rows_count (λ e. Some (state_text (began e))) d answer old new
  pub readable : (answer ≡ MEMORY → ⊥) → IsWritable (began d)
  pub memory : answer ≡ MEMORY → new ≡ old

-- ---- a run that begins with a text

-- why a row of a state is refused, as C has it
abbrev pub cause_of : Why → ℕ
cause_of why.OtherForm = 1
cause_of why.OutOfRange = 2
cause_of (why.Member (NotAdmitted refusal)) = refusal_number refusal
cause_of (why.Member _) = 3
cause_of why.Quantum = 4
cause_of why.Incomplete = 5

abbrev pub state_fault_row : ReadFault → PfairStateFault
state_fault_row (fault.NoRow line) = record { line = line; cause = 0 }
state_fault_row (fault.Refused line why) = record { line = line; cause = cause_of why }
state_fault_row fault.Memory = record { line = 0; cause = 0 }

abbrev pub IsRunnable : (slots capacity : ℕ) → Type 0
IsRunnable slots capacity = (1 ≤ slots) × (slots ≤ MAX_SLOTS) × (1 ≤ capacity) × (capacity ≤ LONGEST_LOG)

-- the bytes are the text of a state, and d is a new dispatcher of a run that begins with it
pub record IsResumedFrom (bytes : List ℕ) (slots capacity : ℕ) (d : Dispatch) : Type 0 where
  pub state : Carried
  pub writable : IsWritable state
  pub text : bytes ≡ state_text state
  pub settings : d.settings ≡ settings_from state slots
  pub course : course_of d ≡ begin_at (Some state) (settings_from state slots) capacity
  pub whole : (d.forgotten ≡ 0) × (d.spent ≡ false)

-- what becomes of a text that isn't too long, where a run can be asked for: a run begins with it, the run would end too late, an
-- allocation failed, or the text isn't a state's
pub record IsBegunBy (bytes : List ℕ) (slots capacity : ℕ) (after : Kept) (answer : ℕ) (new : PfairStateFault) : Type 0 where
  pub resumed : answer ≡ DONE → Of after (IsResumedFrom bytes slots capacity)
  pub late : answer ≡ 33 → (c : Carried) × IsWritable c × (bytes ≡ state_text c) × (LAST_SLOT < c.slot + slots)
  pub refused : (answer ≡ DONE → ⊥) → (answer ≡ 33 → ⊥) → (answer ≡ MEMORY → ⊥)
      → (f : ReadFault) × (answer ≡ read_fault_number f) × (new ≡ state_fault_row f)
      × ((c : Carried) → IsWritable c → bytes ≡ state_text c → ⊥)

-- what `pfair_resume` answers
pub record IsResumeAnswer (bytes : List ℕ) (slots capacity : ℕ) (before after : Kept) (answer : ℕ) (old new : PfairStateFault) : Type 0 where
  pub already : is_kept before ≡ true → answer ≡ OPEN_ALREADY
  pub out_of_range : is_kept before ≡ false → (IsRunnable slots capacity → ⊥) → answer ≡ OUT_OF_RANGE
  pub too_long : is_kept before ≡ false → IsRunnable slots capacity → LONGEST_FILE < length bytes → answer ≡ FILE_TOO_LONG
  pub begun : is_kept before ≡ false → IsRunnable slots capacity → length bytes ≤ LONGEST_FILE → IsBegunBy bytes slots capacity after answer new
  pub unchanged : (answer ≡ DONE → ⊥) → after ≡ before
  pub unread : ((answer ≡ 68) ⊎ (answer ≡ 69) → ⊥) → new ≡ old

-- Task files, read into dispatchers.

-- a new dispatcher that has taken all entries of a script's logs, and no more
abbrev pub IsStartedWith : LoggedRun → Dispatch → Type 0
IsStartedWith script d =
    (d.settings ≡ script.settings) × (d.origin ≡ None) × (replica_of d.replica ≡ replica_of_logs script.logs)
    × (d.tables ≡ []) × (d.spent ≡ false)

-- the number of a key: in the order of the fields
abbrev pub field_number : Field → ℕ
field_number field.Version = 1
field_number field.Processors = 2
field_number field.Frame = 3
field_number field.Slots = 4
field_number field.Entries = 5
field_number field.Processor = 6
field_number field.Floor = 7
field_number field.Kind = 8
field_number field.At = 9
field_number field.Name = 10
field_number field.Cost = 11
field_number field.Period = 12
field_number field.Early = 13
field_number field.Index = 14
field_number field.By = 15

-- nowhere, at a key, and at an entry
abbrev pub nowhere : PfairFileFault
nowhere = record { place = 0; field = 0; processor = 0; number = 0; cause = 0 }

abbrev pub at_key : ℕ → Field → PfairFileFault
at_key place f = record nowhere { place = place; field = field_number f }

-- where a file is at fault, as C has it
abbrev pub fault_row : FileFault → PfairFileFault
fault_row (file.Missing place f) = at_key place f
fault_row (file.WrongKind place f) = at_key place f
fault_row (file.Range place f) = at_key place f
fault_row (file.Entry processor number cause) = record nowhere { processor = processor; number = number; cause = notice_fault_number cause }
fault_row _ = nowhere

-- the file was read, or not for its fault
abbrev pub IsNoFault : ℕ → Type 0
IsNoFault answer = (answer ≡ DONE) ⊎ ((answer ≡ FILE_TOO_LONG) ⊎ ((answer ≡ MEMORY) ⊎ (answer ≡ OPEN_ALREADY)))

-- what `pfair_read_file` answers
pub record IsReadAnswer (bytes : List ℕ) (before after : Kept) (answer : ℕ) (old new : PfairFileFault) : Type 0 where
  pub already : is_kept before ≡ true → answer ≡ OPEN_ALREADY
  pub too_long : before ≡ None → LONGEST_FILE < length bytes → answer ≡ FILE_TOO_LONG
  pub only : (answer ≡ OPEN_ALREADY → is_kept before ≡ true) × (answer ≡ FILE_TOO_LONG → LONGEST_FILE < length bytes)
  pub read : answer ≡ DONE → Of after (λ d. (script : LoggedRun) × (script_of_file bytes ≡ Ok script) × IsStartedWith script d)
  pub fault : (IsNoFault answer → ⊥) → (f : FileFault) × (script_of_file bytes ≡ Err f) × (answer ≡ file_fault_number f) × (new ≡ fault_row f)
  pub unchanged : (answer ≡ DONE → ⊥) → after ≡ before
  pub unread : IsNoFault answer → new ≡ old
