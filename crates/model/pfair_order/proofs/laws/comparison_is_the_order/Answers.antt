use Rattle.pfair_order.proofs.KeyLaws.{goes_before, compares_less, same_key, compares_equal}
use Rattle.pfair_order.proofs.laws.comparison_is_the_order.Goals as goal

pub returns-clause-before : goal.returns-clause-before
returns-clause-before c k l = (goes_before k l, compares_less k l)

pub returns-clause-equal : goal.returns-clause-equal
returns-clause-equal c k l = (same_key k l, compares_equal k l)
