use Rattle.pfair_admission.proofs.Common.{announcements, is_there, membership, IsLedger, ◌+◌, ◌≤◌}
use Rattle.pfair_admission.proofs.Boundaries.{SoFar}
use Rattle.pfair_admission.proofs.ledger.Ledger.decide_all.Given as goal

abbrev pub invariant-loop-said : goal.invariant-loop-said
invariant-loop-said l = record {
  so_far : SoFar (membership l.slot l.fn.self) l.slot l.said-index (announcements l.announced) (membership l.slot l.self) l.all.items;
  kept : IsLedger (is_there l.slot) l.self;
  admitted : l.self.admitted ≤ l.fn.self.admitted + l.said-index;
}
