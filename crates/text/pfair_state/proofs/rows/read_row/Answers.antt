use Rattle.pfair_state.proofs.Common.{First, Late, Ran, End, arith}
use Rattle.pfair_state.specs.declared.rows.Row.TheVariants.{Member}
use Rattle.pfair_state.proofs.rows.read_row.Goals as goal

pub returns-in_default : goal.returns-in_default
returns-in_default c (First f) h is = grind arith
returns-in_default c (Member m) h is = grind arith
returns-in_default c (Late l) h is = grind arith
returns-in_default c (Ran p place) h is = grind arith
returns-in_default c (End rows) h is = grind arith
