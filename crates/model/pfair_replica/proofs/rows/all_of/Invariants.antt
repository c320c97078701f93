use Rattle.pfair_replica.proofs.Common.{Beginning, first_mark, total_count, ℕ, ◌≡◌, ◌≤◌, min, take, fold, ◌*◌, ◌^◌}
use Rattle.pfair_replica.proofs.rows.all_of.Given as goal

abbrev pub invariant-loop-beginning : goal.invariant-loop-beginning
invariant-loop-beginning l = record {
  least : l.least ≡ fold (λ (least : ℕ) (b : Beginning). min least b.mark) (first_mark l.beginnings) (take l.beginning-index l.beginnings);
  total : l.total ≡ total_count (take l.beginning-index l.beginnings);
  room : l.total ≤ l.beginning-index * 2 ^ 32;
}
