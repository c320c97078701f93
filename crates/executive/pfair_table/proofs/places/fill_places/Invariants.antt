use Rattle.pfair_table.proofs.Common.{all_kept, filled, drop}
use Rattle.pfair_table.proofs.Filling.{AreFilledSoFar, AreUsedSoFar}
use Rattle.pfair_table.proofs.places.fill_places.Given as goal

abbrev pub invariant-loop-row : goal.invariant-loop-row
invariant-loop-row l = AreFilledSoFar l.in_use l.places.items (drop l.row-index l.kept) (filled (all_kept l.kept) l.kept)

abbrev pub invariant-loop-kept_place : goal.invariant-loop-kept_place
invariant-loop-kept_place l = AreUsedSoFar l.in_use (drop l.kept_place-index l.kept) l.kept
