use Rattle.pfair_desk.proofs.Common.{DeskView, state_of, fresh_desk, ◌≡◌, ℕ, Some, length, slice_get}
use Rattle.pfair_desk.proofs.board.Board.desks.Given as goal

abbrev pub invariant-loop-processor : goal.invariant-loop-processor
invariant-loop-processor l = record {
  count : length l.desks.items ≡ l.processor;
  fresh : (k : ℕ) (d : DeskView) → slice_get l.desks.items k ≡ Some d → state_of d ≡ fresh_desk l.self k;
}
