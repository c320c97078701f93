use Rattle.pfair_lag.proofs.Common.{release_of, deadline_of, pick_of, ℕ, ◌≤◌, ◌<◌}
use Rattle.pfair_lag.proofs.windows.first_miss.Given as goal

abbrev pub invariant-loop-place : goal.invariant-loop-place
invariant-loop-place l = (i : ℕ) → 1 ≤ i → i ≤ l.place → (release_of l.weight i 0 ≤ pick_of l.picks i) × (pick_of l.picks i < deadline_of l.weight i 0)
