use Rattle.pfair_table.proofs.Common.{IsShape, LoggedRun, Logged, capacity_of, lists_of, drop_all, List, Vec, Global, ◌≡◌, ap, subst, arith}
use Rattle.pfair_table.proofs.Scripts.{capacity_some, capacity_short}
use Rattle.pfair_table.proofs.script.Script.capacity.Goals.{After-loop-log}
use Rattle.pfair_table.proofs.script.Script.capacity.Goals as goal

longest_is : (c : After-loop-log) → c.loop-log.longest ≡ capacity_of (lists_of c.self.inside.logs.items)
longest_is c =
    let none = ap (λ (logs : List (Vec Logged Global)). capacity_of (lists_of logs)) (drop_all c.loop-log.log-index c.deref-log-items.result.now c.loop-log-test.false) in
    let same = ap (λ (logs : List (Vec Logged Global)). capacity_of (lists_of logs)) c.deref-log-items.ensures.value in
    omega (arith, c.loop-log.invariant, none, same)

pub loop-log-init : goal.loop-log-init
loop-log-init c =
    let some = capacity_some (lists_of c.deref-log-items.result.now) in
    (omega arith, omega (arith, some))

pub overflow_cast-result : goal.overflow_cast-result
overflow_cast-result c =
    let short = capacity_short (lists_of c.self.inside.logs.items) c.self.invariant.short in
    omega (arith, short, longest_is c)

pub returns-clause-shape : goal.returns-clause-shape
returns-clause-shape c =
    subst (λ (r : LoggedRun). IsShape r.settings.processors (capacity_of r.logs)) c.self.view_is (record {
      some_processor = omega (arith, c.processors.ensures.limits.processors.0);
      processors_in_range = c.processors.ensures.limits.processors.1;
      some_number = capacity_some (lists_of c.self.inside.logs.items);
      capacity_in_range = capacity_short (lists_of c.self.inside.logs.items) c.self.invariant.short;
    })
