use Rattle.std.proofs.Common.{◌≡◌, ◌∷◌, ◌+◌, map}
use Rattle.std.specs.List.{range_with_len}
use Rattle.pfair_text.specs.Rows.{IsOpen, lines_text, text_so_far}
use Rattle.pfair_reports.specs.Runs.{header, window_row}
use Rattle.pfair_reports.proofs.window_rows.windows_table.Given as goal

-- the rows so far, and the stepper at the subtask after them
abbrev pub invariant-loop : goal.invariant-loop
invariant-loop l = IsOpen l.table
    × (text_so_far l.table ≡ lines_text (header ∷ map (window_row l.fn.weight) (range_with_len 1 l.counter)))
    × (l.stepper ≡ record { weight = l.fn.weight; index = l.counter + 1; theta = 0 })
