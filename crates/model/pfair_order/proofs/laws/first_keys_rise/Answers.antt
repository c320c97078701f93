use Rattle.pfair_order.proofs.Common.{pd2_cmp, first_by_rank}
use Rattle.pfair_order.proofs.KeyLaws.{goes_before, keys_total}
use Rattle.pfair_order.proofs.RankLemmas.{first_pairs}
use Rattle.pfair_order.proofs.InOrder.{by_rank_first}
use Rattle.pfair_order.proofs.laws.first_keys_rise.Goals as goal

pub returns-clause-first : goal.returns-clause-first
returns-clause-first c m keys first a i j d earlier within = goes_before _ _ (first_pairs keys_total m keys first a i j d earlier within)

pub returns-clause-by_rank : goal.returns-clause-by_rank
returns-clause-by_rank c m keys once i j d earlier within =
    goes_before _ _ (first_pairs keys_total m keys (first_by_rank pd2_cmp m keys) (by_rank_first keys_total m keys once) i j d earlier within)
