use Rattle.pfair_board.proofs.Common.{held, IsDeskOf, GrownDesk, ◌≡◌, ◌+◌, ◌<◌, ℕ, slice_get, Some, Logged, One}
use Rattle.pfair_board.proofs.worker.run_into.Given as goal

-- the entries so far are held under the numbers from the old next number on
abbrev pub invariant-loop-entry : goal.invariant-loop-entry
invariant-loop-entry g l = record {
  own : IsDeskOf l.desk l.board;
  grown : GrownDesk l.fn.desk l.desk;
  next : l.desk.next_number ≡ l.fn.desk.next_number + l.entry-index;
  log : (i : ℕ) (e : Logged) → i < l.entry-index → slice_get l.log i ≡ Some e → held l.desk.replica l.fn.desk.processor (l.fn.desk.next_number + i) ≡ Some (One e);
}
