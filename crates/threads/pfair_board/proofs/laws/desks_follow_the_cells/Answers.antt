use Rattle.pfair_board.proofs.Working as following
use Rattle.pfair_board.proofs.laws.desks_follow_the_cells.Goals as goal

pub returns-clause-tables : goal.returns-clause-tables
returns-clause-tables c = following.desks_plan_alike c.desks_hold_set_cells.ensures.agree c.desks_hold_set_cells.ensures.replicas c.one_table.ensures

pub returns-clause-plans : goal.returns-clause-plans
returns-clause-plans c = following.desks_share_a_plan c.desks_hold_set_cells.ensures.agree c.desks_hold_set_cells.ensures.replicas c.one_plan.ensures
