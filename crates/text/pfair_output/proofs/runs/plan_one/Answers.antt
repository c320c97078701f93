use Rattle.pfair_output.proofs.Common.{replica_of, said, Origin, decisions, table, ◌∙◌, ap, length, Dispatch}
use Rattle.pfair_output.proofs.runs.plan_one.Goals as goal

pub returns-in-Ok-Some-clause-table : goal.returns-in-Ok-Some-clause-table
returns-in-Ok-Some-clause-table g c =
    let d : Dispatch = c.args.planner.now in
    (rw c.in-Ok-Some.field-0-is at c.in-Ok-Some.ensures.slot).1 ∙ ap (λ (o : Origin). table o d.settings (said (replica_of c.args.replica.now)) (length d.tables)) c.requires.first

pub returns-in-Ok-Some-clause-decided : goal.returns-in-Ok-Some-clause-decided
returns-in-Ok-Some-clause-decided g c =
    let d : Dispatch = c.args.planner.now in
    (rw c.in-Ok-Some.field-0-is at c.in-Ok-Some.ensures.slot).2 ∙ ap (λ (o : Origin). decisions o d.settings (said (replica_of c.args.replica.now)) (length d.tables)) c.requires.first
