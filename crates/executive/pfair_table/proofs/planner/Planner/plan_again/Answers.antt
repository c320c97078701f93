use Rattle.pfair_table.proofs.Common.{replica_of, IsInStep, refl, subst, sym, ◌∙◌, arith}
use Rattle.pfair_table.proofs.Keeping.{start_step}
use Rattle.pfair_table.proofs.planner.Planner.plan_again.Goals as goal

pub loop-slot-init : goal.loop-slot-init
loop-slot-init g c = record {
  settings = refl;
  step = start_step c.requires.began c.in_ok-self-2.ensures c.in_ok-self-3.ensures.time c.in_ok-self-3.ensures.queue;
  readings = c.in_ok-self.ensures (replica_of c.args.replica.now) (c.requires.is_of.processors ∙ sym c.processors.ensures.value);
}

pub returns-clause-step : goal.returns-clause-step
returns-clause-step g c =
    subst (λ n. IsInStep c.args.origin.now c.args.self.now.settings (replica_of c.args.replica.now) n c.loop-slot.self.members (g.R.Ready.now c.loop-slot.self.ready) (g.R.Ready.held c.loop-slot.self.ready))
    (omega (arith, c.loop-slot-test.false, c.loop-slot.auto.slot-end)) c.loop-slot.invariant.step
