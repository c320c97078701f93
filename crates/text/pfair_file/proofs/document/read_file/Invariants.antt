use Rattle.pfair_file.proofs.Common.{lists_of, empty_logs, close_all, ◌≡◌, ◌≤◌, ◌++◌, drop, take, vec_len, All}
use Rattle.pfair_file.proofs.document.read_file.Given as goal

abbrev pub invariant-loop : goal.invariant-loop
invariant-loop l = (lists_of l.logs.items ≡ empty_logs l.counter) × (vec_len l.logs ≡ l.counter) × All (λ log. vec_len log ≤ 4095) l.logs.items

abbrev pub invariant-loop-i : goal.invariant-loop-i
invariant-loop-i l =
    (lists_of l.logs.items ≡ close_all l.slots (take l.i (lists_of l.initial.logs.items)) ++ drop l.i (lists_of l.initial.logs.items))
    × (vec_len l.logs ≡ vec_len l.initial.logs)
    × (l.i-end ≡ vec_len l.initial.logs)
