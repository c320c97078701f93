use Rattle.std.proofs.lemmas.Grind.{common_steps}
use Rattle.std.proofs.Common.{rules, arith}
use Rattle.std.specs.Map.Iter.{deref_pair}
use Rattle.std.proofs.lemmas.Map.Iter.{rest_more}
use Rattle.pfair_lattice.specs.Laws.{exact_cmp}
use Rattle.pfair_lattice.proofs.SoFar.{joined_up_to_step, not_below_failed, outgrown_failed}
use Rattle.pfair_lattice.proofs.join_map.JoinMapJoin.join.Goals as goal

pub loop-key-init : goal.loop-key-init
loop-key-init g c = grind (arith, common_steps, exact_cmp)

pub loop-key-preserved : goal.loop-key-preserved
loop-key-preserved g c =
    let x = exact_cmp g.K.PartialEq.eq g.K.Ord.cmp g.met.K.Exact.exact g.met.K.Ord.matches_eq in
    let e = rest_more deref_pair c.loop-key.key-iterator c.next.new.self c.next.result (c.in-Some.key, c.in-Some.value) c.in-Some.is c.next.ensures.steps in
    let h = rw e at c.loop-key.invariant in
    joined_up_to_step g.met.K.Ord.total x (record { order = g.met.V.Join.order; least = g.met.V.Join.least }) c.args.self.now c.args.other.now c.next.new.self c.loop-key.self c.put.new.self c.in-Some.key.now c.in-Some.value.now h c.in_ok-put.ensures.joined c.put.ensures.others

pub returns-in_err-put-clause-partly : goal.returns-in_err-put-clause-partly
returns-in_err-put-clause-partly g c = grind (arith, common_steps, exact_cmp, rest_more)

pub returns-in_err-put-clause-lacking : goal.returns-in_err-put-clause-lacking
returns-in_err-put-clause-lacking g c =
    let x = exact_cmp g.K.PartialEq.eq g.K.Ord.cmp g.met.K.Exact.exact g.met.K.Ord.matches_eq in
    let e = rest_more deref_pair c.loop-key.key-iterator c.next.new.self c.next.result (c.in-Some.key, c.in-Some.value) c.in-Some.is c.next.ensures.steps in
    let h = rw e at c.loop-key.invariant in
    let p = not_below_failed g.met.K.Ord.total x (record { order = g.met.V.Join.order; least = g.met.V.Join.least }) c.args.self.now c.args.other.now c.next.new.self c.loop-key.self c.in-Some.key.now c.in-Some.value.now h c.in_err-put.ensures.lacking in
    search rules

pub returns-in_err-put-clause-growth : goal.returns-in_err-put-clause-growth
returns-in_err-put-clause-growth g c =
    let x = exact_cmp g.K.PartialEq.eq g.K.Ord.cmp g.met.K.Exact.exact g.met.K.Ord.matches_eq in
    let e = rest_more deref_pair c.loop-key.key-iterator c.next.new.self c.next.result (c.in-Some.key, c.in-Some.value) c.in-Some.is c.next.ensures.steps in
    let h = rw e at c.loop-key.invariant in
    let p = outgrown_failed g.met.K.Ord.total x (record { order = g.met.V.Join.order; least = g.met.V.Join.least }) g.V.Join.outgrows c.args.self.now c.args.other.now c.next.new.self c.loop-key.self c.in-Some.key.now c.in-Some.value.now h c.in_err-put.ensures.growth in
    search rules
