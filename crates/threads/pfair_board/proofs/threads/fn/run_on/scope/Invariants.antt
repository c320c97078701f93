use Rattle.pfair_board.proofs.Common.{into_iter_items, into_iter_len, IsWorkplaceOf, ◌≡◌, ◌≤◌, ◌+◌, ℕ, slice_get, Some, vec_len, vec_capacity}
use Rattle.pfair_board.proofs.threads.fn.run_on.scope.Given as goal

-- the threads so far are those of the first rows, and the workplaces that are left are those of the next ones
abbrev pub invariant-loop-workplace : goal.invariant-loop-workplace
invariant-loop-workplace g l =
    let started = vec_len l.threads in let rest = l.workplace-iterator in
    record {
      count : started + into_iter_len rest ≡ l.board.processors;
      room : started + into_iter_len rest ≤ vec_capacity l.threads;
      left : (k : ℕ) (w : _) → slice_get (into_iter_items rest) k ≡ Some w → IsWorkplaceOf g.K.Sink.has l.board (started + k) w;
      promised : (k : ℕ) (h : _) → slice_get l.threads.items k ≡ Some h → (h.promise.board.value ≡ l.board) × (h.promise.processor ≡ k) × (h.promise.script.value ≡ l.script);
    }
