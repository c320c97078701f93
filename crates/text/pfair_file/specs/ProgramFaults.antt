-- The numbers and the exit statuses of the programs' faults, and which of them the faults of the crates below are.
use Rattle.std.specs.Prelude.{ℕ, Bool, true, false, ◌≡◌, ◌≢◌, ◌≤◌, List, Option, Result, IfErr, IsErrOf, OnOk, length, ◌⊎◌, IfSome}
use Rattle.pfair_file.specs.declared.fault.FileFault.{FileFault}
use Rattle.pfair_weight.specs.Window.{weight_fault_number}
use Rattle.pfair_entry_row.specs.Row.{row_fault_number}
use Rattle.pfair_replica.specs.declared.answer.TakeFault.{TakeFault}
use Rattle.pfair_table.specs.declared.answer.PlanFault.{PlanFault}
use Rattle.pfair_table.specs.declared.answer.RunFault.{RunFault}
use Rattle.pfair_file.specs.declared.program_fault.ProgramFault.{ProgramFault}
use Rattle.pfair_file.specs.declared.program_fault.ProgramFault.TheVariants.{Weight, Row, NoSuchProcessor, NumberOutOfRange, Torn, Spent, Stalled, GateGaveUp, Astray, File, FileTooLong, ReadFailed, WriteFailed, CommandLine, Memory}
use Rattle.std.specs.Io.KnownBytes.{Consumes, IsAtEnd, Appends, Keeps}
use Rattle.pfair_text.specs.Rows.{TakesPrefix}
use Rattle.pfair_replica.specs.declared.answer.TakeFault.TheVariants as take
use Rattle.pfair_table.specs.declared.answer.PlanFault.TheVariants as plan
use Rattle.pfair_table.specs.declared.answer.RunFault.TheVariants as run
use Rattle.pfair_file.specs.declared.fault.FileFault.TheVariants as file

-- The numbers under which faults are reported.

abbrev pub file_fault_number : FileFault → ℕ
file_fault_number file.NotToml = 60
file_fault_number (file.Missing place field) = 61
file_fault_number (file.WrongKind place field) = 62
file_fault_number (file.Range place field) = 63
file_fault_number (file.Entry processor number cause) = 64
file_fault_number file.Version = 65
file_fault_number file.Memory = 90

abbrev pub fault_number : ProgramFault → ℕ
fault_number (Weight fault) = weight_fault_number fault
fault_number (Row fault) = row_fault_number fault
fault_number NoSuchProcessor = 13
fault_number NumberOutOfRange = 14
fault_number (Torn proc number) = 30
fault_number Spent = 31
fault_number (Stalled slot) = 52
fault_number GateGaveUp = 53
fault_number Astray = 54
fault_number (File fault) = file_fault_number fault
fault_number FileTooLong = 66
fault_number ReadFailed = 70
fault_number WriteFailed = 71
fault_number CommandLine = 80
fault_number Memory = 90

-- 1 a command line or a weight was refused, 2 a task file or a row, 3 the run can't go on, 4 an allocation failed, 5 reading or writing failed
abbrev pub fault_status : ProgramFault → ℕ
fault_status (Weight fault) = 1
fault_status CommandLine = 1
fault_status (Row fault) = 2
fault_status NoSuchProcessor = 2
fault_status NumberOutOfRange = 2
fault_status (File fault) = 2
fault_status FileTooLong = 2
fault_status (Torn proc number) = 3
fault_status Spent = 3
fault_status (Stalled slot) = 3
fault_status GateGaveUp = 3
fault_status Astray = 3
fault_status Memory = 4
fault_status ReadFailed = 5
fault_status WriteFailed = 5

-- a fault of one line, behind which the input is read on
abbrev pub is_refusal : ProgramFault → Bool
is_refusal (Row fault) = true
is_refusal NoSuchProcessor = true
is_refusal NumberOutOfRange = true
is_refusal _ = false

-- ---- the faults of the crates below

abbrev pub of_file : FileFault → ProgramFault
of_file file.Memory = Memory
of_file fault = File fault

abbrev pub of_take : TakeFault → ProgramFault
of_take take.NoSuchProcessor = NoSuchProcessor
of_take take.NumberOutOfRange = NumberOutOfRange
of_take take.Memory = Memory

abbrev pub of_plan : PlanFault → ProgramFault
of_plan (plan.Torn proc number) = Torn proc number
of_plan plan.Spent = Spent
of_plan plan.Memory = Memory

abbrev pub of_run : RunFault → ProgramFault
of_run run.Memory = Memory
of_run run.GateGaveUp = GateGaveUp
of_run run.Astray = Astray
of_run (run.Stalled slot) = Stalled slot

-- What a reader gave.

-- the reader gave some bytes, and P holds of their number
abbrev pub HasTaken : Option (List ℕ) → Option (List ℕ) → (ℕ → Type 0) → Type 0
HasTaken old new P = (bytes : List ℕ) × Consumes old new bytes × P (length bytes)

-- What a call takes of a file, by the bytes that the reader has to give before the call and after it: at most those of the longest file, and
-- one more if the file is too long or an allocation failed. Before any fault but these two and a failed read the file is read to its end.
pub record TakesOneFile {T : Type 0} (result : Result T ProgramFault) (given left : Option (List ℕ)) : Type 0 where
  pub long : IsErrOf result FileTooLong → HasTaken given left (λ n. n ≡ 67108865)
  pub unread : IsErrOf result ReadFailed → HasTaken given left (λ n. n ≤ 67108864)
  pub within : OnOk result (HasTaken given left (λ n. n ≤ 67108864))
  pub within_fault : IfErr result (λ e. e ≢ FileTooLong → e ≢ Memory → HasTaken given left (λ n. n ≤ 67108864))
  pub end : OnOk result (IsAtEnd left)
  pub end_fault : IfErr result (λ e. e ≢ FileTooLong → e ≢ ReadFailed → e ≢ Memory → IsAtEnd left)
  pub most : HasTaken given left (λ n. n ≤ 67108865)

-- What every command over a task file promises, whatever it writes.

-- A command that writes a text of a file's bytes, by the bytes that the reader has to give before it and after it, and by those that the
-- writer holds; `IsOutput` says which text it is, of the bytes and of what the writer did with it. The command succeeds when the writer has
-- taken the text, and ends with `WriteFailed` when the writer has taken a prefix of it. With any other fault nothing is written, and
-- `IsFault` says why, of the bytes.
pub record IsCommandOf {T : Type 0} (IsOutput : List ℕ → (List ℕ → Type 0) → Type 0) (IsFault : Option (List ℕ) → ProgramFault → Type 0)
    (result : Result T ProgramFault) (given left before after : Option (List ℕ)) : Type 0 where
  pub ok : OnOk result (IfSome given (λ bytes. IsOutput bytes (Appends before after)))
  pub refused : IfErr result (λ e. IsFault given e ⊎ (e ≡ WriteFailed))
  pub taken : TakesOneFile result given left
  pub nothing : IfErr result (λ e. e ≢ WriteFailed → Keeps before after)
  pub cut : IsErrOf result WriteFailed → IfSome given (λ bytes. IsOutput bytes (TakesPrefix before after))
