use Rattle.pfair_ready.proofs.Common.{◌≡◌, ◌≤◌, map, take, vec_capacity}
use Rattle.pfair_ready.proofs.Ready.take_seated.Given as goal

abbrev pub invariant-loop-key : goal.invariant-loop-key
invariant-loop-key g l = (map (λ s. s.key) l.first.items ≡ take l.key-index l.key-items) × (l.m ≤ vec_capacity l.first)
