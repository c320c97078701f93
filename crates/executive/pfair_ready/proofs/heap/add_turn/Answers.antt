use Rattle.pfair_ready.proofs.Common.{heap_items, arith, ◌≡◌, rules, Turn, turn_of, All-permutation, IsNumber, All-cons, common_steps, Contains, subst}
use Rattle.pfair_ready.proofs.CalendarLemmas.{pushed_more, pushed_top}
use Rattle.pfair_ready.proofs.heap.add_turn.Goals as goal

pub returns-clause-keeps : goal.returns-clause-keeps
returns-clause-keeps c = record {
  kept = λ t h. pushed_more _ t _ _ c.in_ok-push.ensures.permutation h;
  sound = λ a. record {
    order = c.in_ok-push.ensures.heap_order a.order;
    numbered = All-permutation (λ t. IsNumber t.name.0) _ _ c.in_ok-push.ensures.permutation (All-cons (λ t. IsNumber t.name.0) _ _ c.number.ensures.number a.numbered);
  };
}

pub returns-clause-there : goal.returns-clause-there
returns-clause-there c =
    let turn : Turn = record { d = record { 0 = c.args.key.now.d }; b = c.args.key.now.b; group = c.if-key-eq1.group; hint = c.args.hint; name = record { 0 = c.number.result } } in
    let own : turn ≡ turn_of c.args.key.now c.args.hint = grind (arith, common_steps) in
    record { hint = c.args.hint; there = subst (Contains (heap_items c.push.new.self)) own (pushed_top turn _ _ c.in_ok-push.ensures.permutation); named = search rules }
