use Rattle.pfair_c.proofs.Common.{◌≡◌, ◌+◌, take, replica_of, AreOfLog, all_taken, untaken}
use Rattle.pfair_c.proofs.take.take_log.Given as goal

-- the first entries are taken and counted, and stand under the first numbers
abbrev pub invariant-loop-entry : goal.invariant-loop-entry
invariant-loop-entry l =
    (l.number ≡ l.first + l.entry-index) × (l.counted.taken ≡ l.entry-index) × (l.counted.fresh + l.counted.known + l.counted.torn ≡ l.counted.taken)
    × AreOfLog (replica_of l.fn.dispatcher.replica) l.processor l.first (take l.entry-index l.entries)
    × (record { replica = replica_of l.dispatcher.replica; counted = l.counted } ≡ all_taken l.processor l.first (take l.entry-index l.entries) (untaken (replica_of l.fn.dispatcher.replica)))
    × (l.dispatcher ≡ record l.fn.dispatcher { replica = l.dispatcher.replica })
