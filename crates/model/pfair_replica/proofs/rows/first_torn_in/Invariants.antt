use Rattle.pfair_replica.proofs.Common.{held_in, IsTornAt, ℕ, ◌≤◌}
use Rattle.pfair_replica.proofs.rows.first_torn_in.Given as goal

abbrev pub invariant-loop-before : goal.invariant-loop-before
invariant-loop-before l = (n : ℕ) → 1 ≤ n → n ≤ l.before → IsTornAt (held_in l.rows) l.processor n → ⊥
