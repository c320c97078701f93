use Rattle.pfair_board.proofs.Common.{◌≡◌, length, vec_len}
use Rattle.pfair_board.proofs.threads.Hints.all.Given as goal

abbrev pub invariant-loop : goal.invariant-loop
invariant-loop l = vec_len l.receivers ≡ l.counter

abbrev pub invariant-loop-worker : goal.invariant-loop-worker
invariant-loop-worker l = vec_len l.all ≡ length l.yielded
