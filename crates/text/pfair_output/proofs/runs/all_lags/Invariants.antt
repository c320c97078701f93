use Rattle.pfair_output.proofs.Common.{flat_map, replica_of, numbers_below, IsOpen, line, lines_text, text_so_far, lag_rows, lags_header, ◌≡◌, ◌++◌, None, length, IsBySlot}
use Rattle.pfair_output.proofs.WorldFacts.{book_after}
use Rattle.pfair_output.proofs.runs.all_lags.Given as goal

-- the book was notified of the slots so far, and the text has the rows after each
abbrev pub invariant-slots : goal.invariant-slots
invariant-slots g l = record {
  is_open : IsOpen l.writer;
  able : IsBySlot l.replica l.planner;
  first : l.planner.origin ≡ None;
  settings : l.planner.settings ≡ l.fn.planner.settings;
  planned : length l.planner.tables ≡ l.slot;
  book : l.book ≡ book_after l.fn.planner.settings (replica_of l.replica) l.slot;
  text : text_so_far l.writer ≡ line lags_header ++ lines_text (flat_map (lag_rows l.fn.planner.settings (replica_of l.replica)) (numbers_below l.slot));
}
