-- What the commands write of a task file, and the faults of a replay.
use Rattle.std.specs.Prelude.{ℕ, Bool, true, List, ◌≡◌, ◌≤◌, Option, Ok, None, [], ◌∷◌, map, codes}
use Rattle.pfair_replica.specs.Replica.{Replica, frontier}
use Rattle.pfair_text.specs.Rows.{TextWriter, IsOpen, text_so_far, lines_text}
use Rattle.pfair_table.specs.Table.{Table, plan}
use Rattle.pfair_table.specs.Script.{LoggedRun, replica_of_logs}
use Rattle.pfair_output.specs.Replay.{placed_replay_text, replay_text, decisions_text, decided_of}
use Rattle.pfair_output.specs.Lags.{lags_text}
use Rattle.pfair_file.specs.Documents.{script_of_file, IsRefusalOf}
use Rattle.pfair_file.specs.declared.program_fault.ProgramFault.{ProgramFault}
use Rattle.pfair_file.specs.declared.program_fault.ProgramFault.TheVariants.{GateGaveUp, Astray}
use Rattle.std.specs.Fmt.{decimal}
use Rattle.std.specs.List.{range_with_len}
use Rattle.pfair_weight.specs.Window.{Share, b_bit_of, deadline_of, group_deadline_of, release_of}

-- the replica of all that a script says
abbrev pub replica_of_run : LoggedRun → Replica
replica_of_run run = replica_of_logs run.logs

-- the tables of a script, as rows
abbrev pub replay_of_run : LoggedRun → List ℕ
replay_of_run run = replay_text (plan None run.settings (replica_of_run run))

-- the tables of a script as rows, each with its place
abbrev pub placed_replay_of_run : LoggedRun → List ℕ
placed_replay_of_run run = placed_replay_text (plan None run.settings (replica_of_run run))

-- the decisions of a script, as rows
abbrev pub decisions_of_run : LoggedRun → List ℕ
decisions_of_run run = decisions_text (decided_of run)

-- the lags of a script, as rows
abbrev pub lags_of_run : LoggedRun → List ℕ
lags_of_run run = lags_text run.settings (replica_of_run run)

-- the bytes are those of a script whose logs settle all its slots, and P holds of the text of its run
abbrev pub IsOutputOf : (LoggedRun → List ℕ) → List ℕ → (List ℕ → Type 0) → Type 0
IsOutputOf text bytes P = (run : LoggedRun) × (script_of_file bytes ≡ Ok run) × (run.settings.slots ≤ frontier (replica_of_run run)) × P (text run)

-- why a replay writes nothing, by the bytes that its reader has to give, if they are known
abbrev pub IsFaultOfReplay : Bool → Option (List ℕ) → ProgramFault → Type 0
IsFaultOfReplay may_give_up given GateGaveUp = may_give_up ≡ true
IsFaultOfReplay may_give_up given Astray = Unit {0}
IsFaultOfReplay may_give_up given fault = IsRefusalOf given fault

-- the writer has the rows of these tables, whichever row's worker they are of
abbrev pub has_rows : TextWriter → ℕ → List Table → Type 0
has_rows writer row tables = IsOpen writer × (text_so_far writer ≡ replay_text tables)

-- The table of a weight's windows.

abbrev pub header : List (List ℕ)
header = codes "i" ∷ codes "r" ∷ codes "d" ∷ codes "b" ∷ codes "D" ∷ []

-- the row of a subtask at offset 0
abbrev pub window_row : Share → ℕ → List (List ℕ)
window_row w i =
    decimal i ∷ decimal (release_of w i 0) ∷ decimal (deadline_of w i 0) ∷ decimal (b_bit_of w i) ∷ decimal (group_deadline_of w i 0) ∷ []

-- the header, and a row for each subtask from 1 to `count`
abbrev pub windows_text : Share → ℕ → List ℕ
windows_text w count = lines_text (header ∷ map (window_row w) (range_with_len 1 count))
