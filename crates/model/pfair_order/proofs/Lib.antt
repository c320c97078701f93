mod Common
pub mod InOrder
pub mod KeyLaws
pub mod RankLemmas
