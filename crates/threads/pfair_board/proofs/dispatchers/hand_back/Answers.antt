use Rattle.pfair_board.proofs.Common.{into_iter_items, each_snoc, as_tables, replica_of_logs, plan, has_kept, ◌≡◌, ◌∙◌, sym, ap, ◌+◌, ◌∷◌, rules, arith, subst, add-one, length, slice_get, Some, vec_len, None, common_steps, IsGood, IsFullDesk, IsRunOf, places_in}
use Rattle.pfair_board.proofs.Working.{kept_fit, kept_plan, none_in_empty, not_failed}
use Rattle.pfair_board.proofs.dispatchers.hand_back.Goals as goal

pub loop-work-init : goal.loop-work-init
loop-work-init c = record {
  count = grind (arith, common_steps);
  both = omega (arith, c.new-runs.ensures.len, c.new-desks.ensures.len);
  good = λ k w at.
      (let all : into_iter_items c.into_iter-work-iterator.result ≡ c.args.works.items = c.into_iter-work-iterator.ensures.into_iter_gives.0 in
      let there : slice_get c.args.works.items k ≡ Some w = subst (λ xs. slice_get xs k ≡ Some w) all at in
      let place : k ≡ vec_len c.new-desks.result + k = omega (arith, c.new-desks.ensures.len) in
      subst (λ j. IsGood has_kept c.args.script.now c.args.board j w) place (c.requires.good k w there));
  desks = λ k d at. absurd (none_in_empty c.new-desks.result.items k d c.new-desks.ensures.items at);
  runs = λ k run at. absurd (none_in_empty c.new-runs.result.items k run c.new-runs.ensures.items at);
}

pub unreachable-requires : goal.unreachable-requires
unreachable-requires c =
    let first : slice_get (into_iter_items c.loop-work.work-iterator) 0 ≡ Some c.in-Some.work = grind (arith, common_steps) in
    not_failed has_kept c.args.script.now c.args.board (vec_len c.loop-work.desks + 0) c.in-Some.work c.in_default.field-0 (c.loop-work.invariant.good 0 c.in-Some.work first) c.in_default.is

pub of_tables-requires : goal.of_tables-requires
of_tables-requires c =
    let first : slice_get (into_iter_items c.loop-work.work-iterator) 0 ≡ Some c.in-Some.work = grind (arith, common_steps) in
    let has = kept_plan has_kept c.args.script.now c.args.board (vec_len c.loop-work.desks + 0) c.in-Some.work c.in-Ok.tables (c.loop-work.invariant.good 0 c.in-Some.work first) c.in-Ok.is in
    kept_fit c.in-Ok.tables (vec_len c.loop-work.desks + 0) (plan None c.args.script.now.settings (replica_of_logs c.args.script.now.logs)) has

pub loop-work-preserved : goal.loop-work-preserved
loop-work-preserved c =
    let script = c.args.script.now in
    let board = c.args.board in
    let work = c.in-Some.work in
    let first : slice_get (into_iter_items c.loop-work.work-iterator) 0 ≡ Some work = grind (arith, common_steps) in
    let good = c.loop-work.invariant.good 0 work first in
    let made = c.in_ok-made.made in
    let has = kept_plan has_kept script board (vec_len c.loop-work.desks + 0) work c.in-Ok.tables good c.in-Ok.is in
    let next : into_iter_items c.loop-work.work-iterator ≡ work ∷ into_iter_items c.next.new.self = grind (arith, common_steps) in
    let long : length c.loop-work.desks.items ≡ vec_len c.loop-work.desks = search rules in
    let more : vec_len c.push.new.self ≡ vec_len c.loop-work.desks + 1 = search rules in
    let here : vec_len c.loop-work.desks + 0 ≡ length c.loop-work.desks.items = omega (arith, long) in
    record {
      count = grind (arith, common_steps);
      both = grind (arith, common_steps);
      good = λ k w at.
          (let there : slice_get (into_iter_items c.loop-work.work-iterator) (k + 1) ≡ Some w = rw (next, add-one) at in
          let place : vec_len c.loop-work.desks + (k + 1) ≡ vec_len c.push.new.self + k = omega (arith, more) in
          subst (λ j. IsGood has_kept script board j w) place (c.loop-work.invariant.good (k + 1) w there));
      desks = λ k d at. each_snoc (λ j x. IsFullDesk script board j x) c.loop-work.desks.items work.desk c.loop-work.invariant.desks
          (subst (λ j. IsFullDesk script board j work.desk) here good.desk) k d (rw (← c.in_ok-push.ensures.items) at);
      runs = λ k run at. each_snoc (λ j x. IsRunOf script.settings (replica_of_logs script.logs) x) c.loop-work.runs.items made c.loop-work.invariant.runs
          (record {
            tables = ap as_tables c.in_ok-made.ensures.tables ∙ has.0;
            places = c.in_ok-made.ensures.places ∙ ap (λ v. places_in None (as_tables v)) (sym c.in_ok-made.ensures.tables);
          }) k run (rw (← c.in_ok-push-2.ensures.items) at);
    }
