use Rattle.pfair_replica.proofs.Common.{common_steps, held, replica_of, IsLeastMissing, missing, numbers_to, ◌≡◌, ◌<◌, ◌+◌, sym, ap, subst, arith, true, None, rules, is_none, find}
use Rattle.pfair_replica.proofs.TornKeys.{find_none, find_first, missing_is_least}
use Rattle.pfair_replica.proofs.replica.Replica.missing.Goals as goal

pub returns-then-is_none-clause-value : goal.returns-then-is_none-clause-value
returns-then-is_none-clause-value c =
    let capacity = ap (λ x. x.capacity) c.self.view_is in
    let h : is_none (held c.args.self.now c.args.proc (c.loop-before.before + 1)) ≡ true = rw (← c.get.ensures.value) (search rules) in
    let room : c.loop-before.before < c.args.self.now.capacity = omega arith in
    sym (find_first (λ n. is_none (held c.args.self.now c.args.proc n)) c.loop-before.before c.args.self.now.capacity room c.loop-before.invariant h)

pub loop-before-preserved : goal.loop-before-preserved
loop-before-preserved c = grind (arith, common_steps, find_none)

pub returns-then-is_none-clause-least : goal.returns-then-is_none-clause-least
returns-then-is_none-clause-least c = subst (IsLeastMissing (replica_of c.args.self.now) c.args.proc) (sym (returns-then-is_none-clause-value c)) (missing_is_least (replica_of c.args.self.now) c.args.proc)

pub returns-clause-least : goal.returns-clause-least
returns-clause-least c =
    let capacity = ap (λ x. x.capacity) c.self.view_is in
    let whole : c.loop-before.before ≡ c.args.self.now.capacity = omega arith in
    let none : missing (replica_of c.args.self.now) c.args.proc ≡ None = subst (λ b. find (λ n. is_none (held c.args.self.now c.args.proc n)) (numbers_to b) ≡ None) whole c.loop-before.invariant in
    subst (IsLeastMissing (replica_of c.args.self.now) c.args.proc) none (missing_is_least (replica_of c.args.self.now) c.args.proc)
