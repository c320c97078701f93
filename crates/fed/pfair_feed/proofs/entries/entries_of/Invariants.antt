use Rattle.pfair_feed.proofs.Common.{AllByRecursion, IsLoggable, IsOpen, lines_text, text_so_far, entries_text, log_rows, numbered_from, ◌≡◌, ◌+◌, ◌++◌, drop, take, slots_from}
use Rattle.pfair_feed.proofs.entries.entries_of.Given as goal

-- the text so far, with the rows of the logs that are left, is the whole; and the entries of the logs so far are such as a log may have
abbrev pub invariant-loop-processor : goal.invariant-loop-processor
invariant-loop-processor l = IsOpen l.writer
    × (text_so_far l.writer ++ lines_text (slots_from log_rows l.processor (drop l.processor l.script.logs)) ≡ entries_text l.script.logs)
    × AllByRecursion (λ log. AllByRecursion IsLoggable log) (take l.processor l.script.logs)

-- and with the rows of the entries that are left of a log
abbrev pub invariant-loop-index : goal.invariant-loop-index
invariant-loop-index l = IsOpen l.writer
    × (text_so_far l.writer ++ (lines_text (numbered_from l.processor (l.index + 1) (drop l.index l.log)) ++ lines_text (slots_from log_rows (l.processor + 1) (drop (l.processor + 1) l.script.logs))) ≡ entries_text l.script.logs)
    × AllByRecursion (λ log. AllByRecursion IsLoggable log) (take l.processor l.script.logs)
    × AllByRecursion IsLoggable (take l.index l.log)
