use Rattle.pfair_state.proofs.Common.{AllByRecursion, flat_map, IsOpen, lines_text, text_so_far, AreSpelled, member_said, member_rows, ◌≡◌, ◌+◌, ◌≤◌, ◌++◌, drop, length, min, take}
use Rattle.pfair_state.proofs.write.add_members.Given as goal

-- the text so far, with the rows of the members that are left, is the whole, the rows so far are spelled, and both are all, as far as 64 bits go
abbrev pub invariant-loop-place : goal.invariant-loop-place
invariant-loop-place l = IsOpen l.writer
    × (text_so_far l.writer ++ lines_text (flat_map member_rows (drop l.place l.members.members)) ≡ text_so_far l.fn.writer ++ lines_text (flat_map member_rows l.members.members))
    × AllByRecursion (λ m. AreSpelled (member_said m)) (take l.place l.members.members)
    × (min (l.rows + length (flat_map member_rows (drop l.place l.members.members))) 18446744073709551615 ≡ min (length (flat_map member_rows l.members.members)) 18446744073709551615)
    × (l.rows ≤ 18446744073709551615)
