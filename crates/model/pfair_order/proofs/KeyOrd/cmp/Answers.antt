use Rattle.pfair_order.proofs.Common.{◌∙◌, sym, arith, common_steps}
use Rattle.pfair_order.proofs.KeyLaws.{goes_before, compares_less, same_key, compares_equal}
use Rattle.pfair_order.proofs.KeyOrd.cmp.Goals as goal

pub returns-clause-value : goal.returns-clause-value
returns-clause-value c = grind (arith, common_steps)

pub returns-clause-before : goal.returns-clause-before
returns-clause-before c = (λ h. goes_before c.args.self.now c.args.other.now (sym (returns-clause-value c) ∙ h), λ b. returns-clause-value c ∙ compares_less c.args.self.now c.args.other.now b)

pub returns-clause-equal : goal.returns-clause-equal
returns-clause-equal c = (λ h. same_key c.args.self.now c.args.other.now (sym (returns-clause-value c) ∙ h), λ e. returns-clause-value c ∙ compares_equal c.args.self.now c.args.other.now e)

pub returns-then-ne-2-clause-value : goal.returns-then-ne-2-clause-value
returns-then-ne-2-clause-value c = grind (arith, common_steps)

pub returns-then-ne-2-clause-before : goal.returns-then-ne-2-clause-before
returns-then-ne-2-clause-before c =
    (λ h. goes_before c.args.self.now c.args.other.now (sym (returns-then-ne-2-clause-value c) ∙ h), λ b. returns-then-ne-2-clause-value c ∙ compares_less c.args.self.now c.args.other.now b)

pub returns-then-ne-2-clause-equal : goal.returns-then-ne-2-clause-equal
returns-then-ne-2-clause-equal c =
    (λ h. same_key c.args.self.now c.args.other.now (sym (returns-then-ne-2-clause-value c) ∙ h), λ e. returns-then-ne-2-clause-value c ∙ compares_equal c.args.self.now c.args.other.now e)
