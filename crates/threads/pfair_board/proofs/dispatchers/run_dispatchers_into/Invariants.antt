use Rattle.pfair_board.proofs.Common.{has_first, ◌≡◌, ◌≤◌, ℕ, [], Option, Some, slice_get, vec_len, vec_capacity}
use Rattle.pfair_board.proofs.dispatchers.run_dispatchers_into.Given as goal

-- so many are made, and the first has no tables
abbrev pub invariant-loop : goal.invariant-loop
invariant-loop g l = record {
  count : vec_len l.sinks ≡ l.counter;
  room : l.processors ≤ vec_capacity l.sinks;
  empty : (k : ℕ) (sink : Option g.row.K.Denot) → slice_get l.sinks.items k ≡ Some sink → has_first g.K.Sink.has sink k [];
}
