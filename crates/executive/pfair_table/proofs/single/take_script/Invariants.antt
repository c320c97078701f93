use Rattle.pfair_table.proofs.Common.{◌++◌, ◌∷◌, [], take}
use Rattle.pfair_table.proofs.Scripts.{HasTaken}
use Rattle.pfair_table.proofs.single.take_script.Given as goal

abbrev pub invariant-loop-processor : goal.invariant-loop-processor
invariant-loop-processor g l = HasTaken l.script (take l.processor l.script.logs) l.dispatcher

abbrev pub invariant-loop-index : goal.invariant-loop-index
invariant-loop-index g l = HasTaken l.script (take l.processor l.script.logs ++ take l.index l.log ∷ []) l.dispatcher
