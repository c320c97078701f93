use Rattle.pfair_desk.proofs.Following as following
use Rattle.pfair_desk.proofs.laws.desks_hold_set_cells.Goals as goal

pub returns-clause-below : goal.returns-clause-below
returns-clause-below c = following.desks_stay_below

pub returns-clause-agree : goal.returns-clause-agree
returns-clause-agree c = following.desks_agree

pub returns-clause-replicas : goal.returns-clause-replicas
returns-clause-replicas c = following.desks_hold_replicas
