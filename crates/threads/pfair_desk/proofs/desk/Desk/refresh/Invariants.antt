use Rattle.pfair_desk.proofs.Common.{held, replica_of, Keeps, gained_in_rows, NoGapInRow, SameDesk, ◌≡◌, ◌≤◌, ◌*◌, ℕ}
use Rattle.pfair_desk.proofs.desk.Desk.refresh.Given as goal

abbrev pub invariant-loop-processor : goal.invariant-loop-processor
invariant-loop-processor l = record {
  same : SameDesk l.fn.self l.self;
  kept : Keeps (replica_of l.fn.self.replica) (replica_of l.self.replica);
  count : l.found ≡ gained_in_rows (replica_of l.fn.self.replica) (replica_of l.self.replica) l.processor;
  few : l.found ≤ 4096 * l.processor;
  no_gap : (k : ℕ) → NoGapInRow (replica_of l.fn.self.replica) (replica_of l.self.replica) k;
  later : (k n : ℕ) → l.processor ≤ k → held l.self.replica k n ≡ held l.fn.self.replica k n;
}
