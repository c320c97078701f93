use Rattle.pfair_lag.proofs.Common.{with_quanta, ◌≡◌, map, take}
use Rattle.pfair_lag.proofs.book.count_quanta.Given as goal

abbrev pub invariant-loop-pick : goal.invariant-loop-pick
invariant-loop-pick l = l.accounts.entries ≡ with_quanta l.time (map (λ p. p.name) (take l.pick-index l.picks)) l.initial.accounts.entries
