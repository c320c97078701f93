use Rattle.pfair_state.proofs.Common.{AllByRecursion, IsOpen, lines_text, text_so_far, IsSpelledQuantum, ran_rows, ◌≡◌, ◌++◌, drop, take}
use Rattle.pfair_state.proofs.write.add_ran.Given as goal

-- the text so far, with the rows that are left, is the whole, and the rows so far are spelled
abbrev pub invariant-loop-row : goal.invariant-loop-row
invariant-loop-row l = IsOpen l.writer
    × (text_so_far l.writer ++ lines_text (ran_rows (drop l.row l.table) (drop l.row l.places)) ≡ text_so_far l.fn.writer ++ lines_text (ran_rows l.table l.places))
    × AllByRecursion IsSpelledQuantum (take l.row l.table)
