use Rattle.std.proofs.Common.{◌∙◌}
use Rattle.pfair_file.proofs.CommandFacts.{ends_cut, ends_well}
use Rattle.pfair_board.proofs.Working.{kept_fit}
use Rattle.pfair_reports.specs.Runs.{placed_replay_of_run}
use Rattle.pfair_reports.proofs.RunFacts.{output_made, places_made}
use Rattle.pfair_reports.proofs.tables.replay_placed.Goals as goal

pub of_tables-requires : goal.of_tables-requires
of_tables-requires g c = kept_fit c.in_ok-tables.tables 0 _ c.in_ok-tables.ensures.plan.plan

pub returns : goal.returns
returns g c =
    let is = c.in_ok-tables.ensures.plan in
    let script = c.in_ok-script.script in
    ends_well c.in_ok-script.ensures.taken _
    (output_made placed_replay_of_run _ script c.in_ok-script.ensures.ok is.far_enough
    (c.in_ok-text.ensures ∙ places_made c.in_ok-run.run' c.in_ok-tables.tables c.in_ok-run.ensures.tables c.in_ok-run.ensures.places c.as_slice.ensures.value c.as_slice-2.ensures.value script is) c.as_slice-3.ensures.value) c.in_ok-send.ensures.ok

pub returns-in_err-send : goal.returns-in_err-send
returns-in_err-send g c =
    let is = c.in_ok-tables.ensures.plan in
    let script = c.in_ok-script.script in
    ends_cut c.in_ok-script.ensures.taken _ c.from_residual-in_err-send.ensures.1
    (output_made placed_replay_of_run _ script c.in_ok-script.ensures.ok is.far_enough
    (c.in_ok-text.ensures ∙ places_made c.in_ok-run.run' c.in_ok-tables.tables c.in_ok-run.ensures.tables c.in_ok-run.ensures.places c.as_slice.ensures.value c.as_slice-2.ensures.value script is) c.as_slice-3.ensures.value) c.in_err-send.ensures.failed
