use Rattle.pfair_table.proofs.Common.{AllByRecursion, IsFit, Dispatch, subst}
use Rattle.pfair_table.proofs.Alike.{fit_plan}
use Rattle.pfair_table.proofs.dispatcher.Dispatcher.places.Goals as goal

pub returns-clause-fit : goal.returns-clause-fit
returns-clause-fit g c =
    subst (λ (d : Dispatch). AllByRecursion (IsFit d.settings.processors) d.tables) c.self.view_is
    (fit_plan c.self.invariant.0.began c.self.invariant.0.plan)

pub returns-in_err-at-clause-fit : goal.returns-in_err-at-clause-fit
returns-in_err-at-clause-fit g c =
    subst (λ (d : Dispatch). AllByRecursion (IsFit d.settings.processors) d.tables) c.self.view_is
    (fit_plan c.self.invariant.0.began c.self.invariant.0.plan)
