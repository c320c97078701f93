use Rattle.pfair_output.proofs.Common.{IsOpen, lines_text, text_so_far, all_slots_booked, rows_booked, ◌≡◌, ◌≤◌, ◌++◌, drop}
use Rattle.pfair_output.proofs.lags.add_lags_from.Given as goal

-- the book and the text so far, with the slots that are left, are the whole
abbrev pub invariant-loop-slot : goal.invariant-loop-slot
invariant-loop-slot g l = IsOpen l.writer
    × (text_so_far l.writer ++ lines_text (rows_booked l.book (drop l.slot l.dispatcher.decided) (drop l.slot l.dispatcher.tables))
    ≡ text_so_far l.fn.writer ++ lines_text (rows_booked l.fn.book (drop l.fn.book.time l.dispatcher.decided) (drop l.fn.book.time l.dispatcher.tables)))
    × (l.book.time ≡ l.slot)
    × (all_slots_booked l.book (drop l.slot l.dispatcher.decided) (drop l.slot l.dispatcher.tables)
    ≡ all_slots_booked l.fn.book (drop l.fn.book.time l.dispatcher.decided) (drop l.fn.book.time l.dispatcher.tables))
    × (l.fn.book.time ≤ l.slot)
