use Rattle.pfair_table.proofs.Filling.{AreBucketsBelow}
use Rattle.pfair_table.proofs.places.buckets_of.Given as goal

abbrev pub invariant-loop-row : goal.invariant-loop-row
invariant-loop-row l = AreBucketsBelow l.table l.ends l.row
