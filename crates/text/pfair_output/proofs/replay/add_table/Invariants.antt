use Rattle.pfair_output.proofs.Common.{IsOpen, lines_text, text_so_far, placed_rows_from, ◌≡◌, ◌++◌, drop}
use Rattle.pfair_output.proofs.replay.add_table.Given as goal

-- the text so far, with the rows that are left, is the whole
abbrev pub invariant-loop-row : goal.invariant-loop-row
invariant-loop-row l = IsOpen l.writer
    × (text_so_far l.writer ++ lines_text (placed_rows_from l.places l.slot l.row (drop l.row l.table)) ≡ text_so_far l.fn.writer ++ lines_text (placed_rows_from l.places l.slot 0 l.table))
