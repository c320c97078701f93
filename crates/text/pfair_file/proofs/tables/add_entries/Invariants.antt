use Rattle.pfair_file.proofs.Common.{lists_of, ◌≡◌, ◌≤◌, vec_len, All}
use Rattle.pfair_file.proofs.TableFacts.{IsLeft}
use Rattle.pfair_file.proofs.tables.add_entries.Given as goal

abbrev pub invariant-loop-i : goal.invariant-loop-i
invariant-loop-i l =
    (vec_len l.logs ≡ vec_len l.fn.logs)
    × All (λ log. vec_len log ≤ 4095) l.logs.items
    × IsLeft l.version (lists_of l.fn.logs.items) (lists_of l.logs.items) l.items l.i
