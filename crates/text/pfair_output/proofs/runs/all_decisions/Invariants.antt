use Rattle.pfair_output.proofs.Common.{replica_of, IsOpen, line, lines_text, text_so_far, decided_rows, decisions_header, slots_from, ◌≡◌, ◌++◌, None, length, IsBySlot, decided_below}
use Rattle.pfair_output.proofs.runs.all_decisions.Given as goal

-- the text has the rows of the slots so far
abbrev pub invariant-slots : goal.invariant-slots
invariant-slots g l = record {
  is_open : IsOpen l.writer;
  able : IsBySlot l.replica l.planner;
  first : l.planner.origin ≡ None;
  settings : l.planner.settings ≡ l.fn.planner.settings;
  planned : length l.planner.tables ≡ l.slot;
  text : text_so_far l.writer ≡ line decisions_header ++ lines_text (slots_from decided_rows 0 (decided_below l.fn.planner.settings (replica_of l.replica) l.slot));
}
