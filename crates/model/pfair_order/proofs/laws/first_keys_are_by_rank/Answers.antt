use Rattle.pfair_order.proofs.Common.{pd2_cmp, AreFirst, sym, subst}
use Rattle.pfair_order.proofs.KeyLaws.{keys_total}
use Rattle.pfair_order.proofs.InOrder.{by_rank_first, first_by_rank_unique}
use Rattle.pfair_order.proofs.laws.first_keys_are_by_rank.Goals as goal

pub returns : goal.returns
returns c m keys first once = (
  first_by_rank_unique keys_total m keys first once,
  λ e. subst (AreFirst pd2_cmp m keys) (sym e) (by_rank_first keys_total m keys once),
)
