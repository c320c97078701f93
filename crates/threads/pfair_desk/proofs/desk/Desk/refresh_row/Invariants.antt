use Rattle.pfair_desk.proofs.Common.{held, replica_of, Keeps, gained_in_row, SameDesk, ◌≡◌, ◌<◌, ◌≤◌, ◌-◌, ◌+◌, ℕ, IsSome}
use Rattle.pfair_desk.proofs.desk.Desk.refresh_row.Given as goal

abbrev pub invariant-loop-number : goal.invariant-loop-number
invariant-loop-number l = record {
  same : SameDesk l.fn.self l.self;
  kept : Keeps (replica_of l.fn.self.replica) (replica_of l.self.replica);
  positive : 1 ≤ l.number;
  room : l.number ≤ l.self.replica.capacity + 1;
  full : (j : ℕ) → 1 ≤ j → j < l.number → IsSome (held l.self.replica l.processor j);
  count : l.found ≡ gained_in_row (replica_of l.fn.self.replica) (replica_of l.self.replica) l.processor (l.number - 1);
  few : l.found < l.number;
  others : (k n : ℕ) → (k ≡ l.processor → ⊥) → held l.self.replica k n ≡ held l.fn.self.replica k n;
  later : (n : ℕ) → l.number ≤ n → held l.self.replica l.processor n ≡ held l.fn.self.replica l.processor n;
}
