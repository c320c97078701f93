use Rattle.pfair_weight.proofs.Common.{slice_cmp, nat_cmp, ◌∙◌, ap}
use Rattle.pfair_weight.proofs.name.TaskNameOrd.cmp.Goals as goal

pub returns : goal.returns
returns c = c.cmp.ensures ∙ c.number.ensures.order c.number-2.result c.number-2.ensures.number ∙ ap (slice_cmp nat_cmp c.args.self.now) c.number-2.ensures.name
