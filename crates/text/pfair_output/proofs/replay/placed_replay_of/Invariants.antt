use Rattle.pfair_output.proofs.Common.{IsOpen, line, lines_text, text_so_far, slots_from, placed_table_rows, ◌≡◌, ◌++◌, drop, map, placed_header}
use Rattle.pfair_output.proofs.replay.placed_replay_of.Given as goal

-- the text so far, with the rows of the slots that are left, is the whole
abbrev pub invariant-loop-slot : goal.invariant-loop-slot
invariant-loop-slot l = IsOpen l.writer
    × (text_so_far l.writer ++ lines_text (slots_from (placed_table_rows (map (λ p. p.items) l.places)) l.slot (drop l.slot (map (λ t. t.items) l.tables)))
    ≡ line placed_header ++ lines_text (slots_from (placed_table_rows (map (λ p. p.items) l.places)) 0 (map (λ t. t.items) l.tables)))
