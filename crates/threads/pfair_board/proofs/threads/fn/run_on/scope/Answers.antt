use Rattle.pfair_board.proofs.Common.{into_iter_items, slice_get_within, slice_get_read, get_or_from_slice_get, Worked, IsWorkOf, IsWorkplaceOf, each_snoc, sym, rules, arith, ap, refl, ◌∙◌, subst, ◌≡◌, ◌<◌, ◌+◌, ℕ, length, slice_get, Some, [], ◌∷◌, vec_len, add-one, IfOk, OnOk, Ok, Err, common_steps, ◌++◌}
use Rattle.std.specs.declared.result.Result.{Result}
use Rattle.std.specs.declared.thread.PromisedHandle.{PromisedHandle}
use Rattle.pfair_board.specs.declared.threads.RowOf.{RowOf}
use Rattle.pfair_board.proofs.Working.{none_in_empty, work_moves}
use Rattle.pfair_board.proofs.threads.fn.run_on.scope.Goals as goal

-- the workplace that comes is the first that was left
pub spawn_with-started-requires-clause-runs : goal.spawn_with-started-requires-clause-runs
spawn_with-started-requires-clause-runs g c κs within =
    let at : slice_get (into_iter_items c.loop-workplace.workplace-iterator) 0 ≡ Some c.in-Some.workplace = grind (arith, common_steps) in
    let first = c.loop-workplace.invariant.left 0 c.in-Some.workplace at in
    let empty = subst (λ j. g.K.Sink.has c.in-Some.workplace.sink j []) (sym first.processor) first.empty in
    (record { desk = first.desk; processor = refl; first = first.first; empty = empty }, search rules, search rules)

-- the work of the workplace's row is that of the row that is promised
pub spawn_with-started-requires-clause-keeps : goal.spawn_with-started-requires-clause-keeps
spawn_with-started-requires-clause-keeps g c κs within = λ r is. work_moves _ _ _ _ _ _ _ _ r (sym c.of.ensures) (sym c.of-in-loop-workplace.ensures) (sym c.proc.ensures.value) is

pub loop-workplace-init : goal.loop-workplace-init
loop-workplace-init g c = record {
  count = grind (arith, common_steps);
  room = grind (arith, common_steps);
  left = λ k w at.
      (let all : into_iter_items c.into_iter-workplace-iterator.result ≡ c.captures.workplaces.items = c.into_iter-workplace-iterator.ensures.into_iter_gives.0 in
      let there : slice_get c.captures.workplaces.items k ≡ Some w = subst (λ xs. slice_get xs k ≡ Some w) all at in
      let place : k ≡ vec_len c.in_ok-threads.threads + k = omega (arith, c.in_ok-threads.ensures.len) in
      subst (λ j. IsWorkplaceOf g.K.Sink.has c.captures.board.now j w) place (c.requires.2.each k w there));
  promised = λ k h at. absurd (none_in_empty c.in_ok-threads.threads.items k h c.in_ok-threads.ensures.items at);
}

pub loop-workplace-preserved : goal.loop-workplace-preserved
loop-workplace-preserved g c =
    let was = c.loop-workplace.invariant in
    let started = vec_len c.loop-workplace.threads in
    let more : vec_len c.push_reserved.new.self ≡ started + 1 = search rules in
    let next : into_iter_items c.loop-workplace.workplace-iterator ≡ c.in-Some.workplace ∷ into_iter_items c.next.new.self = grind (arith, common_steps) in
    record {
      count = grind (arith, common_steps);
      room = grind (arith, common_steps);
      left = λ k w at.
          (let there : slice_get (into_iter_items c.loop-workplace.workplace-iterator) (k + 1) ≡ Some w = rw (next, add-one) at in
          let is = was.left (k + 1) w there in
          let place : started + (k + 1) ≡ vec_len c.push_reserved.new.self + k = omega (arith, more) in
          record { desk = is.desk; processor = (let row = is.processor in omega arith); first = is.first; empty = subst (λ j. g.K.Sink.has w.sink j []) place is.empty });
      promised = λ k h at.
          (let P = (λ (j : ℕ) (x : PromisedHandle (Worked g.row.K.Denot) (RowOf g.row.G.Denot)). (x.promise.board.value ≡ c.captures.board.now) × (x.promise.processor ≡ j) × (x.promise.script.value ≡ c.captures.script.now)) in
          let count : length c.loop-workplace.threads.items ≡ started = search rules in
          let first : slice_get (into_iter_items c.loop-workplace.workplace-iterator) 0 ≡ Some c.in-Some.workplace = grind (arith, common_steps) in
          let row = c.in-Ok.ensures.ok in
          let processor : c.in-Ok.started.promise.processor ≡ length c.loop-workplace.threads.items = omega (arith, ap (λ r. r.processor) row, c.proc.ensures.value, (was.left 0 c.in-Some.workplace first).processor) in
          let new : P (length c.loop-workplace.threads.items) c.in-Ok.started = (ap (λ r. r.board.value) row ∙ c.of.ensures, processor, ap (λ r. r.script.value) row ∙ c.of-in-loop-workplace.ensures) in
          let at' : slice_get (c.loop-workplace.threads.items ++ c.in-Ok.started ∷ []) k ≡ Some h = rw (← c.push_reserved.ensures.items) at in
          each_snoc P c.loop-workplace.threads.items c.in-Ok.started was.promised new k h at');
    }

-- all that holds of an answer which is Ok
if_all : {T E A : Type 0} {P Q R : T → Type 0} (r : Result T E) → OnOk r A → IfOk r P → IfOk r Q → ((x : T) → A → P x → Q x → R x) → IfOk r R
if_all (Ok x) a p q f = f x a p q
if_all (Err e) a p q f = tt

pub returns : goal.returns
returns g c =
    let threads = c.loop-workplace.threads in
    let answer = c.join_all.result in
    if_all answer c.join_all.ensures.count c.join_all.ensures.len c.join_all.ensures.each (λ works whole len each. record {
      processors = c.requires.0;
      capacity = c.requires.1;
      count = (let long : length works.items ≡ vec_len works = search rules in omega (arith, long, len, whole, c.processors.ensures.value));
      each = λ k w at.
          let hs = threads.items in
          let ws = works.items in
          let inside : k < length ws = slice_get_within ws k w at in
          let long : length ws ≡ vec_len works = search rules in
          let below : k < vec_len threads = omega (arith, len, long) in
          let kept = (each k w below).1 in
          let here : slice_get hs k ≡ Some kept.handle = slice_get_read hs (length hs) k kept.handle refl (omega arith) kept.handle_is in
          let is = c.loop-workplace.invariant.promised k kept.handle here in
          let w_is = get_or_from_slice_get ws k w w at in
          work_moves _ _ _ _ _ _ _ _ w is.0 is.2 is.1 (subst (λ x. IsWorkOf g.K.Sink.has g.G.Gate.may_give_up kept.handle.promise.board.value kept.handle.promise.script.value kept.handle.promise.processor x) w_is kept.kept);
    })
