use Rattle.pfair_weight.proofs.Common.{◌∙◌, ap, sym, take, length}
use Rattle.pfair_weight.proofs.Length.{name_taken}
use Rattle.pfair_weight.proofs.name.TaskName.as_bytes.Goals as goal

pub returns-clause-value : goal.returns-clause-value
returns-clause-value c = ap (λ n. take n c.self.inside.bytes) (c.length.ensures ∙ ap length (sym c.self.view_is)) ∙ name_taken c.self.inside c.self.invariant ∙ c.self.view_is
