use Rattle.pfair_replica.proofs.Common.{common_steps, false≢true, held_in, sym, ◌∙◌, arith}
use Rattle.pfair_replica.proofs.FirstTorn.{torn_not_yet, torn_nowhere}
use Rattle.pfair_replica.proofs.rows.first_torn_in.Goals as goal

pub returns-then-is_torn : goal.returns-then-is_torn
returns-then-is_torn c = grind (arith, common_steps)

pub loop-before-preserved : goal.loop-before-preserved
loop-before-preserved c = torn_not_yet (held_in c.args.rows.now) c.args.processor c.loop-before.before c.loop-before.invariant (λ torn. false≢true (sym c.if-is_torn.false ∙ c.is_torn.ensures.1 torn))

pub returns : goal.returns
returns c = torn_nowhere (held_in c.args.rows.now) c.args.processor c.args.capacity c.requires (λ n low high torn. c.loop-before.invariant n low (omega (arith, high)) torn)
