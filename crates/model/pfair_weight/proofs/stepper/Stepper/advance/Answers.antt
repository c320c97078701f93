use Rattle.pfair_weight.proofs.Common.{common_steps, div_ceil, MAX_INDEX, div_ceil_rises, arith, ◌≡◌, ◌+◌, ◌*◌, ◌<◌, ◌≤◌, ap, Position}
use Rattle.pfair_weight.proofs.Steppers.{ceiling_is, cascade_kept, cascade_moves, next_stepped}
use Rattle.pfair_weight.proofs.stepper.Stepper.advance.Goals as goal
use Rattle.pfair_weight.proofs.stepper.Stepper.advance.Goals.{After-ceiling, in-Some, in_default}

index_in_range : (c : After-ceiling) → c.self.inside.index < MAX_INDEX
index_in_range c = let same = ap (λ (x : Position). x.index) c.self.view_is in omega (arith, c.requires)

close_before : (c : After-ceiling) → c.ceiling-close.result ≡ div_ceil (c.self.inside.index * c.self.inside.weight.period) c.self.inside.weight.cost
close_before c = ceiling_is c.self.inside.served _ _ c.ceiling-close.result c.self.invariant.served c.ceiling-close.ensures

close_after : (c : After-ceiling) → c.ceiling.result ≡ div_ceil ((c.self.inside.index + 1) * c.self.inside.weight.period) c.self.inside.weight.cost
close_after c = grind (arith, common_steps, ceiling_is)

close_rises : (c : After-ceiling) → div_ceil (c.self.inside.index * c.self.inside.weight.period) c.self.inside.weight.cost ≤ div_ceil ((c.self.inside.index + 1) * c.self.inside.weight.period) c.self.inside.weight.cost
close_rises c = div_ceil_rises _ _ _ c.self.invariant.position.weight.some_cost (omega arith)

pub invariant_of-self : goal.invariant_of-self
invariant_of-self c =
    grind (arith, common_steps, in-Some, next_stepped, index_in_range, cascade_moves, close_rises, close_before, close_after, in_default, cascade_kept)
