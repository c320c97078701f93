use Rattle.pfair_board.proofs.Common.{into_iter_items, DeskState, IsWorkplaceOf, each_snoc, ◌≡◌, ◌+◌, ◌∷◌, [], rules, arith, ap, subst, add-one, length, slice_get, Some, vec_len, common_steps}
use Rattle.pfair_board.proofs.Working.{none_in_empty}
use Rattle.pfair_board.proofs.threads.workplaces.Goals as goal

pub loop-desk-init : goal.loop-desk-init
loop-desk-init g c = record {
  count = grind (arith, common_steps);
  hints = grind (arith, common_steps);
  sinks = grind (arith, common_steps);
  empty = λ k s at.
      (let all : into_iter_items c.into_iter-sinks.result ≡ c.args.sinks.items = c.into_iter-sinks.ensures.rest in
      let there : slice_get c.args.sinks.items k ≡ Some s = subst (λ xs. slice_get xs k ≡ Some s) all at in
      let place : k ≡ vec_len c.new-all.result + k = omega (arith, c.new-all.ensures.len) in
      subst (λ j. g.K.Sink.has s j []) place (c.requires.empty k s there));
  left = λ k d at.
      (let all : into_iter_items c.into_iter-desk-iterator.result ≡ c.in_ok-desk-items.desk-items.items = c.into_iter-desk-iterator.ensures.into_iter_gives.0 in
      let there : slice_get c.in_ok-desk-items.desk-items.items k ≡ Some d = subst (λ xs. slice_get xs k ≡ Some d) all at in
      let fresh = c.in_ok-desk-items.ensures.fresh k d there in
      let row = ap (λ (x : DeskState). x.processor) fresh in
      (c.in_ok-desk-items.ensures.own k d there, omega (arith, row, c.new-all.ensures.len), ap (λ (x : DeskState). x.next_number) fresh));
  made = λ k w at. absurd (none_in_empty c.new-all.result.items k w c.new-all.ensures.items at);
}

pub loop-desk-preserved : goal.loop-desk-preserved
loop-desk-preserved g c =
    let was = c.loop-desk.invariant in
    let made = vec_len c.loop-desk.all in
    let first : slice_get (into_iter_items c.loop-desk.desk-iterator) 0 ≡ Some c.in-Some.desk = grind (arith, common_steps) in
    let next : into_iter_items c.loop-desk.desk-iterator ≡ c.in-Some.desk ∷ into_iter_items c.next.new.self = grind (arith, common_steps) in
    let more : vec_len c.push.new.self ≡ made + 1 = search rules in
    let count : length c.loop-desk.all.items ≡ made = search rules in
    let desk = was.left 0 c.in-Some.desk first in
    let first_sink : slice_get (into_iter_items c.loop-desk.sinks) 0 ≡ Some c.in-Some-Some.sink = grind (arith, common_steps) in
    let next_sink : into_iter_items c.loop-desk.sinks ≡ c.in-Some-Some.sink ∷ into_iter_items c.next-in-loop-desk-2.new.self = grind (arith, common_steps) in
    let empty = was.empty 0 c.in-Some-Some.sink first_sink in
    record {
      count = grind (arith, common_steps);
      hints = grind (arith, common_steps);
      sinks = grind (arith, common_steps);
      empty = λ k s at.
          (let there : slice_get (into_iter_items c.loop-desk.sinks) (k + 1) ≡ Some s = rw (next_sink, add-one) at in
          let place : made + (k + 1) ≡ vec_len c.push.new.self + k = omega (arith, more) in
          subst (λ j. g.K.Sink.has s j []) place (was.empty (k + 1) s there));
      left = λ k d at.
          (let there : slice_get (into_iter_items c.loop-desk.desk-iterator) (k + 1) ≡ Some d = rw (next, add-one) at in
          let is = was.left (k + 1) d there in (is.0, (let row = is.1 in omega arith), is.2));
      made = λ k w at. each_snoc (λ j x. IsWorkplaceOf g.K.Sink.has c.args.board.now j x) c.loop-desk.all.items
          (record { desk = c.in-Some.desk; hints = c.in-Some-Some.hints; sink = c.in-Some-Some.sink; ready = _ }) was.made
          (record { desk = desk.0; processor = (let row = desk.1 in omega arith); first = desk.2; empty = subst (λ j. g.K.Sink.has c.in-Some-Some.sink j []) (let same : made + 0 ≡ length c.loop-desk.all.items = omega (arith, count) in same) empty }) k w (rw (← c.in_ok-push.ensures.items) at);
    }
