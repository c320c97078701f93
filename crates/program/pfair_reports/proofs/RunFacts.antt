-- What is known of the text of a dispatcher that ran a file's script is known of the output of the file.
use Rattle.std.proofs.Common.{ℕ, List, Option, Ok, Bool, ◌≡◌, ◌≤◌, ap, ◌∙◌, subst, map, IfSome, Vec, None}
use Rattle.std.proofs.lemmas.Option.{IfSome_then}
use Rattle.std.specs.declared.alloc.Global.{Global}
use Rattle.pfair_file.specs.Documents.{IsRefusalOf, script_of_file}
use Rattle.pfair_file.specs.declared.program_fault.ProgramFault.{ProgramFault}
use Rattle.pfair_file.specs.declared.program_fault.ProgramFault.TheVariants.{GateGaveUp, Astray}
use Rattle.pfair_file.specs.ProgramFaults.{of_run}
use Rattle.pfair_replica.specs.Replica.{frontier}
use Rattle.pfair_table.specs.declared.slot.Pick.{Pick}
use Rattle.pfair_table.specs.Script.{LoggedRun}
use Rattle.pfair_table.specs.declared.answer.RunFault.{RunFault}
use Rattle.pfair_table.specs.declared.answer.RunFault.TheVariants as run
use Rattle.pfair_board.specs.RunFaults.{IsRunFaultOf, HasPlan}
use Rattle.pfair_table.specs.declared.planned.Run.{Run}
use Rattle.pfair_table.specs.Table.{Table}
use Rattle.pfair_table.specs.Places.{places_in}
use Rattle.pfair_table.specs.Planned.{as_tables, as_places}
use Rattle.pfair_board.specs.Works.{has_kept}
use Rattle.pfair_output.specs.Replay.{placed_replay_text, placed_text}
use Rattle.pfair_reports.specs.Runs.{IsFaultOfReplay, IsOutputOf, replica_of_run, placed_replay_of_run}

-- what is known of the text of a script that a file holds is known of the file's
pub output_made : {made shown : List ℕ} (text : LoggedRun → List ℕ) (given : Option (List ℕ)) (script : LoggedRun) → IfSome given (λ bytes. script_of_file bytes ≡ Ok script)
    → script.settings.slots ≤ frontier (replica_of_run script) → made ≡ text script → shown ≡ made → (P : List ℕ → Type 0) → P shown → IfSome given (λ bytes. IsOutputOf text bytes P)
output_made text given script read far same equal P p = IfSome_then given read (λ bytes is. (script, is, far, subst P (equal ∙ same) p))

pub places_made : (made : Run) (kept : Vec (Vec Pick Global) Global) {tables : List (Vec Pick Global)} {places : List (Vec ℕ Global)} → made.tables ≡ kept → as_places made.places ≡ places_in None (as_tables kept)
    → tables ≡ made.tables.items → places ≡ made.places.items → (run : LoggedRun) → HasPlan has_kept run kept
    → placed_text (map (λ t. t.items) tables) (map (λ p. p.items) places) ≡ placed_replay_of_run run
places_made made kept {places = places} tables_are placed are places_are run is =
    ap (λ (ts : List (Vec Pick Global)). placed_text (map (λ t. t.items) ts) (map (λ p. p.items) places)) are
    ∙ ap (λ (ps : List (Vec ℕ Global)). placed_text (as_tables made.tables) (map (λ p. p.items) ps)) places_are
    ∙ ap (λ (ps : List (List ℕ)). placed_text (as_tables made.tables) ps) placed
    ∙ ap (λ (ts : Vec (Vec Pick Global) Global). placed_text (as_tables ts) (places_in None (as_tables kept))) tables_are
    ∙ ap placed_replay_text is.plan.0

-- what refuses a file refuses its replay
pub refused_by_file : (may_give_up : Bool) (given : Option (List ℕ)) (fault : ProgramFault) → IsRefusalOf given fault → IsFaultOfReplay may_give_up given fault
refused_by_file may_give_up given GateGaveUp is = absurd is
refused_by_file may_give_up given Astray is = absurd is
refused_by_file may_give_up given fault is = is

-- so does a run that isn't finished
pub refused_by_run : {K : Type 0} (has : K → ℕ → List Table → Type 0) (may_give_up : Bool) (given : Option (List ℕ)) (script : LoggedRun) (fault : RunFault) → IfSome given (λ bytes. script_of_file bytes ≡ Ok script) → IsRunFaultOf has may_give_up script fault
    → IsFaultOfReplay may_give_up given (of_run fault)
refused_by_run has may_give_up given script run.Memory read is = tt
refused_by_run has may_give_up given script run.GateGaveUp read is = is.0
refused_by_run has may_give_up given script run.Astray read is = tt
refused_by_run has may_give_up given script (run.Stalled slot) read is = IfSome_then given read (λ bytes its. (script, its, is.0, is.1))

pub ruleset refusals = (refused_by_file, refused_by_run)
