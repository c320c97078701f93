use Rattle.pfair_state.proofs.Common.{AllByRecursion, IsOpen, lines_text, text_so_far, IsSpelled, late_said, late_row, member_rows, ◌≡◌, ◌++◌, drop, map, take}
use Rattle.pfair_state.proofs.write.add_member.Given as goal

-- the text so far, with the rows that are left, is the whole, and the rows so far are spelled
abbrev pub invariant-loop-delay : goal.invariant-loop-delay
invariant-loop-delay l = IsOpen l.writer
    × (text_so_far l.writer ++ lines_text (map (late_row l.name) (drop l.delay-index l.delays)) ≡ text_so_far l.fn.writer ++ lines_text (member_rows l.member))
    × AllByRecursion (λ d. IsSpelled (late_said l.name d)) (take l.delay-index l.delays)
