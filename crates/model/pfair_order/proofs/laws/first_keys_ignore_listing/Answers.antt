use Rattle.pfair_order.proofs.KeyLaws.{keys_total}
use Rattle.pfair_order.proofs.RankLemmas.{first_of_permutation}
use Rattle.pfair_order.proofs.InOrder.{by_rank_of_same}
use Rattle.pfair_order.proofs.laws.first_keys_ignore_listing.Goals as goal

pub returns-clause-first : goal.returns-clause-first
returns-clause-first c m keys others first p a = first_of_permutation keys_total m keys others first p a

pub returns-clause-by_rank : goal.returns-clause-by_rank
returns-clause-by_rank c m keys others once once' same =
    by_rank_of_same keys_total m keys others once once' (λ k. (same k).0) (λ k. (same k).1)
