use Rattle.pfair_table.proofs.Common.{length-map, LoggedRun, lists_of, arith, ◌≡◌, ◌<◌, ◌∙◌, sym, ap, Some, slice_get, length}
use Rattle.pfair_table.proofs.Scripts.{log_fits, log_at}
use Rattle.pfair_table.proofs.script.Script.log.Goals as goal

pub returns-clause-fits : goal.returns-clause-fits
returns-clause-fits c =
    let logs = c.self.inside.logs.items in
    let count : length (lists_of logs) ≡ c.self.inside.settings.processors = c.self.invariant.one_each in
    let same : c.self.inside.settings.processors ≡ c.args.self.now.settings.processors = ap (λ (r : LoggedRun). r.settings.processors) c.self.view_is in
    let inside : c.args.proc < length logs = omega (arith, c.requires, count, same, length-map logs (λ log. log.items)) in
    let at : slice_get (lists_of logs) c.args.proc ≡ Some c.deref.result.now = log_at logs c.args.proc c.index.result.now inside c.index.ensures ∙ ap Some (sym c.deref.ensures.value) in
    rw (← c.self.view_is) (log_fits (lists_of logs) c.args.proc c.deref.result.now at)
