-- What a run that is fed comes to.
use Rattle.std.specs.Prelude.{ℕ, List, ◌≡◌, Ok, zero, suc, Bool, true, false, ◌≤◌, ◌<◌, ◌⊎◌, ◌++◌, [], length, Option, None, Some, IfSome}
use Rattle.pfair_table.specs.Script.{LoggedRun, replica_of_logs}
use Rattle.pfair_file.specs.Documents.{script_of_file}
use Rattle.pfair_feed.specs.Laws.{entries_text, IsScript, text_of, HaveTheRows, rows_of}
use Rattle.std.specs.Io.KnownBytes.{Appends, Consumes, IsAtEnd, Keeps}
use Rattle.pfair_text.specs.Rows.{TakesPrefix, line, lines_text}
use Rattle.pfair_replica.specs.Replica.{Replica, empty_replica, frontier, has_torn, said}
use Rattle.pfair_table.specs.declared.script.TheConstants.Script.{LONGEST_LOG}
use Rattle.pfair_table.specs.Events.{begin_at}
use Rattle.pfair_table.specs.Refinement.{course_of, Dispatch, next_run_fault_number}
use Rattle.pfair_table.specs.Table.{Origin, Settings, plan, plan_decisions, Carried}
use Rattle.pfair_feed.specs.declared.output.Output.{Output}
use Rattle.pfair_feed.specs.Follow.{Follow, header_of, rows_in}
use Rattle.pfair_feed.specs.Feeding.{AreLines, AreTakenFrom, AreWelcome, IsFedTo, IsStopped}
use Rattle.pfair_file.specs.declared.program_fault.ProgramFault.{ProgramFault}
use Rattle.pfair_file.specs.declared.program_fault.ProgramFault.TheVariants.{Memory, Stalled, WriteFailed, CommandLine}
use Rattle.pfair_table.specs.Places.{settings_from}
use Rattle.pfair_table.specs.NextRun.{IsNextRunFault, IsResumeFault, left_over}
use Rattle.pfair_table.specs.declared.answer.NextRunFault.{NextRunFault}
use Rattle.pfair_table.specs.declared.settings.TheConstants.Settings.{MAX_SLOTS}
use Rattle.pfair_state.specs.Rows.{state_text}
use Rattle.pfair_words.specs.declared.follow.Resumed.{Resumed}
use Rattle.pfair_follow.specs.declared.fault.FollowFault.{FollowFault}
use Rattle.pfair_follow.specs.declared.fault.FollowFault.TheVariants.{Program, NextRun, State}
use Rattle.pfair_file.specs.ProgramFaults.{fault_number, fault_status, is_refusal}
use Rattle.pfair_state.specs.Reading.{read_fault_number}
use Rattle.pfair_state.specs.declared.fault.ReadFault.TheVariants as read
use Rattle.pfair_table.specs.declared.answer.NextRunFault.TheVariants as next

-- What is written of the entries of a task file.

-- the bytes are those of a script, whose entries have rows, and P holds of these
abbrev pub IsOutputOf : List ℕ → (List ℕ → Type 0) → Type 0
IsOutputOf bytes P = (run : LoggedRun) × (script_of_file bytes ≡ Ok run) × IsScript run × P (entries_text run.logs)

-- ---- followers

-- it holds nothing, with room for the longest logs, and has planned nothing: of a first run, or of one that begins with a state
abbrev pub IsFresh : Follow → Type 0
IsFresh f = course_of f.dispatch ≡ begin_at f.dispatch.origin f.dispatch.settings LONGEST_LOG

-- ---- what is written

-- the header, unless the run is a later one or rows are left out
abbrev pub head_from : Origin → Output → ℕ → List ℕ
head_from None output zero = line (header_of output)
head_from None output (suc slot) = []
head_from (Some c) output slot = []

-- the rows of what the contents of the logs settle, from a slot on
abbrev pub rows_of_plan : Origin → Output → ℕ → Settings → Replica → List ℕ
rows_of_plan o output slot s x = lines_text (rows_in o output slot (plan o s x) (plan_decisions o s x))

-- what is written of them: all that is written at once of a task file, or the rows of a later run, or from a later slot on
abbrev pub text_from : Origin → Output → ℕ → Settings → Replica → List ℕ
text_from None output zero s x = text_of output s x
text_from None output (suc slot) s x = rows_of_plan None output (suc slot) s x
text_from (Some c) output slot s x = rows_of_plan (Some c) output slot s x

-- ---- the contents

-- what the lines of some bytes bring to logs that hold nothing; what stands behind the last newline brings nothing
pub record AreBrought (s : Settings) (bytes : List ℕ) (replica : Replica) : Type 0 where
  pub lines : List (List ℕ)
  pub rest : List ℕ
  pub are_lines : AreLines bytes lines rest
  pub taken : AreTakenFrom lines (empty_replica s.processors LONGEST_LOG) replica

-- all slots are settled; or only those below this one
abbrev pub IsSettled : Settings → Replica → Type 0
IsSettled s x = s.slots ≤ frontier x

abbrev pub IsSettledBelow : Settings → ℕ → Replica → Type 0
IsSettledBelow s slot x = (slot ≡ frontier x) × (slot < s.slots)

-- ---- how a run ends, by the bytes that the reader has to give before and after, and by what the writer holds

-- the reader was read to its end, nothing of what its bytes bring is torn, P holds of it, and the rows of the plan of it were written
pub record IsFollowed (f : Follow) (P : Replica → Type 0) (given left before after : Option (List ℕ)) : Type 0 where
  pub bytes : List ℕ
  pub replica : Replica
  pub consumed : Consumes given left bytes
  pub at_end : IsAtEnd left
  pub brought : AreBrought f.dispatch.settings bytes replica
  pub sound : has_torn replica ≡ false
  pub settled : P replica
  pub written : Appends before after (text_from f.dispatch.origin f.output f.unwritten f.dispatch.settings replica)

-- all that the reader gave is lines of which none is refused: rows of entries at keys of the run, and questions
pub record AreTakenAll (s : Settings) (given left : Option (List ℕ)) : Type 0 where
  pub bytes : List ℕ
  pub rest : List ℕ
  pub consumed : Consumes given left bytes
  pub welcome : AreWelcome s.processors LONGEST_LOG bytes rest

-- after the header some bytes were fed: all to the reader's end, or, if the run ends with its last slot, those up to that
pub record IsFed (is_strict to_last : Bool) (f g : Follow) (given left before after : Option (List ℕ)) : Type 0 where
  pub begun : Option (List ℕ)
  pub head : Appends before begun (head_from f.dispatch.origin f.output f.unwritten)
  pub fed : IsFedTo is_strict to_last given left f g begun after

-- after the header a fault came at some byte: that of a row, of the reader, of the writer or of memory
pub record IsStoppedAt (f g : Follow) (given left before after : Option (List ℕ)) (fault : ProgramFault) : Type 0 where
  pub bytes : List ℕ
  pub begun : Option (List ℕ)
  pub head : Appends before begun (head_from f.dispatch.origin f.output f.unwritten)
  pub consumed : Consumes given left bytes
  pub stopped : IsStopped bytes fault f g begun after

-- why nothing was read: want of memory, or the writer failed at the header
abbrev pub IsUnread : Follow → (given left before after : Option (List ℕ)) → ProgramFault → Type 0
IsUnread f given left before after fault =
    Keeps given left × (((fault ≡ Memory) × Keeps before after) ⊎ ((fault ≡ WriteFailed) × TakesPrefix before after (head_from f.dispatch.origin f.output f.unwritten)))

-- the input ended too early
abbrev pub IsFedShort : (is_strict to_last : Bool) (f g : Follow) (given left before after : Option (List ℕ)) → ProgramFault → Type 0
IsFedShort is_strict to_last f g given left before after fault =
    (fault ≡ Stalled (length g.dispatch.tables)) × (length g.dispatch.tables < g.dispatch.settings.slots) × IsFed is_strict to_last f g given left before after

abbrev pub IsFedEndOf : (is_strict to_last : Bool) (f g : Follow) (given left before after : Option (List ℕ)) → ProgramFault → Type 0
IsFedEndOf is_strict to_last f g given left before after fault =
    IsUnread f given left before after fault ⊎ IsStoppedAt f g given left before after fault ⊎ IsFedShort is_strict to_last f g given left before after fault

-- the input ended before all slots were settled, and the rows of those that were are written
abbrev pub IsShort : Follow → (given left before after : Option (List ℕ)) → ProgramFault → Type 0
IsShort f given left before after fault = (slot : ℕ) × (fault ≡ Stalled slot) × IsFollowed f (IsSettledBelow f.dispatch.settings slot) given left before after

-- why a run that a new follower was to follow came to no end
abbrev pub IsEndOf : Follow → (given left before after : Option (List ℕ)) → ProgramFault → Type 0
IsEndOf f given left before after fault =
    IsUnread f given left before after fault ⊎ ((g : Follow) × IsStoppedAt f g given left before after fault) ⊎ IsShort f given left before after fault

-- ---- a run that is followed as far as its last slot

-- What some of the bytes bring settles all slots, nothing of it is torn, its rows were written, and P holds of it. In a strict run no line of
-- these bytes is refused.
pub record HasReachedLast (f : Follow) (is_strict : Bool) (P : Replica → Type 0) (given left before after : Option (List ℕ)) : Type 0 where
  pub bytes : List ℕ
  pub more : List ℕ
  pub rest : List ℕ
  pub replica : Replica
  pub consumed : Consumes given left (bytes ++ more)
  pub brought : AreBrought f.dispatch.settings bytes replica
  pub sound : has_torn replica ≡ false
  pub settled : IsSettled f.dispatch.settings replica
  pub welcome : is_strict ≡ true → AreWelcome f.dispatch.settings.processors LONGEST_LOG bytes rest
  pub written : Appends before after (text_from f.dispatch.origin f.output f.unwritten f.dispatch.settings replica)
  pub holds : P replica

-- What comes of rows that are those of a script.

-- The run is a first one, and the lines of these bytes have the rows of a script with its settings, in whatever order and however often each,
-- and beside them only what brings nothing.
pub record HasScript (f : Follow) (bytes : List ℕ) (script : LoggedRun) : Type 0 where
  pub first : f.dispatch.origin ≡ None
  pub is_script : IsScript script
  pub settings_are : script.settings ≡ f.dispatch.settings
  pub lines : List (List ℕ)
  pub rest : List ℕ
  pub are_lines : AreLines bytes lines rest
  pub have_rows : HaveTheRows f.dispatch.settings.processors LONGEST_LOG (rows_of script.logs) lines

-- the script settles all its slots, and its text was written: all of it, or its rows from a later slot on
pub record IsScriptWritten (f : Follow) (script : LoggedRun) (before after : Option (List ℕ)) : Type 0 where
  pub settled : script.settings.slots ≤ frontier (replica_of_logs script.logs)
  pub written : Appends before after (text_from None f.output f.unwritten script.settings (replica_of_logs script.logs))

-- the script settles only the slots below this one, which is one of its slots, and its text as far as these was written
pub record IsScriptStalled (f : Follow) (slot : ℕ) (script : LoggedRun) (before after : Option (List ℕ)) : Type 0 where
  pub slot_is : slot ≡ frontier (replica_of_logs script.logs)
  pub short : slot < script.settings.slots
  pub written : Appends before after (text_from None f.output f.unwritten script.settings (replica_of_logs script.logs))

-- P holds of each script that the bytes have, which the reader had to give
abbrev pub OfItsScript : Follow → (given : Option (List ℕ)) → (LoggedRun → Type 0) → Type 0
OfItsScript f given P = IfSome given (λ bytes. (script : LoggedRun) → HasScript f bytes script → P script)

-- A run that begins with a state, and the state that a run leaves.

-- ---- a run that begins with a state

-- so many slots can be asked for, and the state has the processors and the frame that are asked for, if any are
pub record IsAskedOf (resumed : Resumed) (c : Carried) : Type 0 where
  pub slots : (1 ≤ resumed.slots) × (resumed.slots ≤ MAX_SLOTS)
  pub processors : IfSome resumed.processors (λ n. n ≡ c.machine.processors)
  pub frame : IfSome resumed.frame (λ n. n ≡ c.machine.frame)

-- a new follower of the run that begins with this state, which writes the rows from a slot on
pub record IsLaterRun (resumed : Resumed) (output : Output) (from : ℕ) (c : Carried) (f : Follow) : Type 0 where
  pub asked : IsAskedOf resumed c
  pub fresh : IsFresh f
  pub origin_is : f.dispatch.origin ≡ Some c
  pub settings_are : f.dispatch.settings ≡ settings_from c resumed.slots
  pub output_is : f.output ≡ output
  pub unwritten_is : f.unwritten ≡ from

-- why none begins with it
abbrev pub IsNoLaterRun : Resumed → Carried → FollowFault → Type 0
IsNoLaterRun resumed c (Program fault) = (fault ≡ CommandLine) × ¬ IsAskedOf resumed c
IsNoLaterRun resumed c (NextRun fault) = IsAskedOf resumed c × IsResumeFault c resumed.slots fault
IsNoLaterRun resumed c _ = ⊥

-- ---- the state that a run leaves

-- the text of the state that the run leaves whose logs have these contents
abbrev pub IsTextLeft : Follow → List ℕ → Replica → Type 0
IsTextLeft f text x = text ≡ state_text (left_over f.dispatch.origin f.dispatch.settings (said x) f.dispatch.settings.slots)

-- the run has come to its last slot, its rows were written, and this is the text of the state that it leaves
abbrev pub HasLeft : Follow → Bool → (given left before after : Option (List ℕ)) → List ℕ → Type 0
HasLeft f is_strict given left before after text = HasReachedLast f is_strict (IsTextLeft f text) given left before after

-- no run can follow, or an allocation failed
abbrev pub IsNoneLeft : Dispatch → FollowFault → Type 0
IsNoneLeft d fault = (fault ≡ Program Memory) ⊎ ((next : NextRunFault) × (fault ≡ NextRun next) × IsNextRunFault d 1 next)

-- all rows were written, and then no state was left
abbrev pub HasLeftNone : Follow → Bool → (given left before after : Option (List ℕ)) → FollowFault → Type 0
HasLeftNone f is_strict given left before after fault = (g : Follow) × IsFed is_strict true f g given left before after × IsNoneLeft g.dispatch fault

-- why no state was left
abbrev pub IsEndOfLeaving : Follow → Bool → (given left before after : Option (List ℕ)) → FollowFault → Type 0
IsEndOfLeaving f is_strict given left before after fault =
    ((e : ProgramFault) × (fault ≡ Program e) × IsEndOf f given left before after e) ⊎ HasLeftNone f is_strict given left before after fault

-- The numbers and the exit statuses of the faults of `pfair_follow`.

abbrev pub follow_number : FollowFault → ℕ
follow_number (Program fault) = fault_number fault
follow_number (State fault) = read_fault_number fault
follow_number (NextRun fault) = next_run_fault_number fault

-- 4 an allocation failed, 2 a state was refused, 3 the run can't follow
abbrev pub follow_status : FollowFault → ℕ
follow_status (Program fault) = fault_status fault
follow_status (State read.Memory) = 4
follow_status (State fault) = 2
follow_status (NextRun next.Memory) = 4
follow_status (NextRun fault) = 3

-- a fault of one row, behind which the input is read on
abbrev pub is_refused : FollowFault → Bool
is_refused (Program fault) = is_refusal fault
is_refused (State fault) = false
is_refused (NextRun fault) = false
