use Rattle.pfair_board.proofs.Common.{into_iter_items, into_iter_len, replica_of_logs, has_kept, DeskView, ◌≡◌, ◌+◌, ℕ, slice_get, Some, vec_len, IsGood, IsFullDesk, IsRunOf}
use Rattle.pfair_table.specs.declared.planned.Run.{Run}
use Rattle.pfair_board.proofs.dispatchers.hand_back.Given as goal

-- what was taken apart is full, and what is left is good
abbrev pub invariant-loop-work : goal.invariant-loop-work
invariant-loop-work l =
    let done = vec_len l.desks in let rest = l.work-iterator in
    record {
      count : done + into_iter_len rest ≡ l.fn.script.settings.processors;
      both : vec_len l.runs ≡ done;
      good : (k : ℕ) (w : _) → slice_get (into_iter_items rest) k ≡ Some w → IsGood has_kept l.fn.script l.fn.board (done + k) w;
      desks : (k : ℕ) (d : DeskView) → slice_get l.desks.items k ≡ Some d → IsFullDesk l.fn.script l.fn.board k d;
      runs : (k : ℕ) (run : Run) → slice_get l.runs.items k ≡ Some run → IsRunOf l.fn.script.settings (replica_of_logs l.fn.script.logs) run;
    }
