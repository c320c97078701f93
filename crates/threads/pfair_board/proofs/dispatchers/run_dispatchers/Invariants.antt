use Rattle.pfair_board.proofs.Common.{as_tables, ◌≡◌, ◌≤◌, ℕ, [], Some, slice_get, vec_len, vec_capacity}
use Rattle.pfair_board.proofs.dispatchers.run_dispatchers.Given as goal

-- so many are made, and none has a table
abbrev pub invariant-loop : goal.invariant-loop
invariant-loop g l = record {
  count : vec_len l.sinks ≡ l.counter;
  room : l.processors ≤ vec_capacity l.sinks;
  empty : (k : ℕ) (kept : _) → slice_get l.sinks.items k ≡ Some kept → as_tables kept ≡ [];
}
