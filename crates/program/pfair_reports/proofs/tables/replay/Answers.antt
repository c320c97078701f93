use Rattle.std.proofs.Common.{◌∙◌}
use Rattle.pfair_file.proofs.CommandFacts.{ends_cut, ends_well}
use Rattle.pfair_reports.specs.Runs.{replay_of_run}
use Rattle.pfair_reports.proofs.RunFacts.{output_made}
use Rattle.pfair_reports.proofs.tables.replay.Goals as goal

pub returns : goal.returns
returns g c =
    let plan = c.in_ok-rows.ensures.plan in
    ends_well c.in_ok-script.ensures.taken _
    (output_made replay_of_run _ c.in_ok-script.script c.in_ok-script.ensures.ok plan.far_enough (c.in_ok-text.ensures ∙ plan.plan.1) c.as_slice.ensures.value) c.in_ok-send.ensures.ok

pub returns-in_err-send : goal.returns-in_err-send
returns-in_err-send g c =
    let plan = c.in_ok-rows.ensures.plan in
    ends_cut c.in_ok-script.ensures.taken _ c.from_residual-in_err-send.ensures.1
    (output_made replay_of_run _ c.in_ok-script.script c.in_ok-script.ensures.ok plan.far_enough (c.in_ok-text.ensures ∙ plan.plan.1) c.as_slice.ensures.value) c.in_err-send.ensures.failed
