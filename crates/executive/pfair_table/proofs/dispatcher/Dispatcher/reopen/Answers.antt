use Rattle.pfair_table.proofs.Common.{replica_of, untorn_by_test, Settings, Origin, IsOrigin, IsInStep, IsKept, ℕ, ◌≡◌, ◌∙◌, sym, ap, subst, arith, length, is_some}
use Rattle.pfair_table.proofs.Keeping.{is_of_held, kept_anew}
use Rattle.pfair_table.proofs.dispatcher.Dispatcher.reopen.Goals as goal

pub plan_again-requires : goal.plan_again-requires
plan_again-requires g c = record {
  began = subst (λ (o : Origin). IsOrigin o c.self.inside.planner.settings) (sym c.origin.ensures) c.self.invariant.0.began;
  is_of = is_of_held c.self.invariant.0 c.first_torn.ensures.replica;
  whole = untorn_by_test (replica_of c.self.inside.replica) c.first_torn.ensures.replica (sym c.first_torn.ensures.some ∙ ap is_some c.in_default.is);
  room = c.self.invariant.0.capacity;
  within = grind (arith, c.len-slots.ensures, c.self.invariant.0);
}

pub invariant_of-self-2 : goal.invariant_of-self-2
invariant_of-self-2 g c =
    let long : c.len-slots.result ≡ length c.self.inside.planned.tables = omega (arith, c.len-slots.ensures) in
    let next = c.plan_again.new.self in (
      subst (λ (s : Settings). IsKept c.self.inside.planned.origin s (replica_of c.self.inside.replica) c.self.inside.planned.tables c.self.inside.planned.decided next.spent next.members (g.R.Ready.now next.ready) (g.R.Ready.held next.ready)) (sym c.plan_again.ensures.settings)
          (kept_anew c.self.invariant.0 c.first_torn.ensures.replica (sym c.first_torn.ensures.some ∙ ap is_some c.in_default.is)
          (subst (λ (p : Origin × ℕ). IsInStep p.0 c.self.inside.planner.settings (replica_of c.self.inside.replica) p.1 next.members (g.R.Ready.now next.ready) (g.R.Ready.held next.ready)) (λ i. (c.origin.ensures i, long i)) c.in_ok-plan_again.ensures.step)),
      λ _. c.in_ok-plan_again.ensures.readings,
      c.self.invariant.2 ∙ sym c.plan_again.ensures.settings,
    )
