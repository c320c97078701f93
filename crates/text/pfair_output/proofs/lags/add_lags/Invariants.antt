use Rattle.pfair_output.proofs.Common.{IsOpen, lines_text, text_so_far, tally_row, book_rows, ◌≡◌, ◌++◌, map, drop}
use Rattle.pfair_output.proofs.lags.add_lags.Given as goal

-- the text so far, with the rows that are left, is the whole
abbrev pub invariant-loop-place : goal.invariant-loop-place
invariant-loop-place l = IsOpen l.writer
    × (text_so_far l.writer ++ lines_text (map (tally_row l.book.time) (drop l.place l.book.entered)) ≡ text_so_far l.fn.writer ++ lines_text (book_rows l.book))
