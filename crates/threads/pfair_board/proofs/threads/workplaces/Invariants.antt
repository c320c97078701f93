use Rattle.pfair_board.proofs.Common.{into_iter_items, into_iter_len, DeskView, IsDeskOf, IsWorkplaceOf, ◌≡◌, ◌+◌, ℕ, [], slice_get, Some, vec_len}
use Rattle.pfair_board.proofs.threads.workplaces.Given as goal

-- the workplaces so far are those of the first rows, and the desks that are left are those of the next ones
abbrev pub invariant-loop-desk : goal.invariant-loop-desk
invariant-loop-desk g l =
    let made = vec_len l.all in let rest = l.desk-iterator in
    record {
      count : made + into_iter_len rest ≡ l.board.processors;
      hints : into_iter_len l.hints ≡ into_iter_len rest;
      sinks : into_iter_len l.sinks ≡ into_iter_len rest;
      empty : (k : ℕ) (s : _) → slice_get (into_iter_items l.sinks) k ≡ Some s → g.K.Sink.has s (made + k) [];
      left : (k : ℕ) (d : DeskView) → slice_get (into_iter_items rest) k ≡ Some d → IsDeskOf d l.board × (d.processor ≡ made + k) × (d.next_number ≡ 1);
      made : (k : ℕ) (w : _) → slice_get l.all.items k ≡ Some w → IsWorkplaceOf g.K.Sink.has l.board k w;
    }
