use Rattle.pfair_desk.proofs.Common.{◌≡◌, length}
use Rattle.pfair_desk.proofs.board.Board.new.Given as goal

abbrev pub invariant-loop : goal.invariant-loop
invariant-loop l = length l.cells.items ≡ l.counter
