use Rattle.pfair_output.proofs.Common.{IsOpen, lines_text, text_so_far, decision_row, ◌≡◌, ◌++◌, drop, map}
use Rattle.pfair_output.proofs.decisions.add_decisions.Given as goal

-- the text so far, with the rows that are left, is the whole
abbrev pub invariant-loop-one : goal.invariant-loop-one
invariant-loop-one l = IsOpen l.writer
    × (text_so_far l.writer ++ lines_text (map (decision_row l.slot) (drop l.one-index l.decided)) ≡ text_so_far l.fn.writer ++ lines_text (map (decision_row l.slot) l.decided))
