use Rattle.pfair_admission.proofs.Common.{claimed, listed, NoneFreedBefore, ◌≡◌, take}
use Rattle.pfair_admission.proofs.ledger.Ledger.sweep.Given as goal

abbrev pub invariant-loop-place : goal.invariant-loop-place
invariant-loop-place l = record {
  claim : l.claim ≡ claimed l.self.frame (take l.place (listed l.self));
  first : NoneFreedBefore l.first (take l.place (listed l.self));
}
