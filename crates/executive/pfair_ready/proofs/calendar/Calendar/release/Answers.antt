use Rattle.pfair_ready.proofs.Common.{slice_get_read, Calendar, Date, IsNoted, Reverse, heap_items, in_bucket, inl, inr, ap, sym, ◌<◌, ◌≤◌, ◌+◌, ◌∙◌, refl, arith, ℕ, length, ◌%◌, with_item}
use Rattle.pfair_ready.proofs.CalendarLemmas.{emptied_next, emptied_past, keeps_both, moves_bucket, IsFrom, from_next, moves_kept, moves_more, popped_order, popped, top_or_stays}
use Rattle.pfair_ready.proofs.calendar.Calendar.release.Goals as goal
use Rattle.pfair_ready.proofs.calendar.Calendar.release.Goals.{then-bucket-len+else-loop-date-test, else-bucket-len}

pub returns-in_err-add_turn-clause-moves : goal.returns-in_err-add_turn-clause-moves
returns-in_err-add_turn-clause-moves c =
    moves_kept c.args.slot _ _ (heap_items c.args.released.now) (heap_items c.loop-ahead.released) (heap_items c.add_turn.new.turns) c.loop-ahead.invariant.moves (keeps_both c.loop-date.invariant.keeps c.add_turn.ensures.keeps)

pub loop-date-preserved : goal.loop-date-preserved
loop-date-preserved c =
    moves_more c.args.slot c.date-item.result _ _ (IsFrom c.deref-date-items.result.now (c.loop-date.date-index + 1)) _ _ (heap_items c.add_turn.new.turns) c.loop-date.invariant
    c.add_turn.ensures.keeps (from_next c.deref-date-items.result.now c.loop-date.date-index c.date-item.result c.date-item.is) (λ was. (was.0, c.in_ok-add_turn.ensures.there))

pub loop-ahead-preserved : goal.loop-ahead-preserved
loop-ahead-preserved c =
    let was : Calendar = c.loop-ahead.self in
    let from : ℕ = c.args.self.now.turned in
    let bucket : ℕ = (from + 1 + c.loop-ahead.ahead) % 64 in
    let same = c.loop-ahead.invariant.turned in
    elim c.if-bucket-len.branch [
      | then-bucket-len+else-loop-date-test w ↦
          let inside : bucket < length was.near.items = omega (arith, w.if-bucket-len.true, c.len.ensures, was.near.ok.0) in
          rw (w.self-is, w.released-is) (record {
            moves = moves_bucket c.args.slot (from + 1 + c.loop-ahead.ahead) (IsNoted c.args.self.now) was (record { turned = was.turned; near = with_item was.near bucket w.clear.new.self; far = was.far }) w.deref-date-items.result.now w.loop-date.date-index w.clear.new.self
                (heap_items c.args.released.now) (heap_items c.loop-ahead.released) (heap_items w.loop-date.released) c.loop-ahead.invariant.moves (omega (arith, same)) (omega (arith, same, c.loop-ahead-test.true, c.min-ahead-end.ensures)) (omega (arith, c.loop-ahead-test.true, c.min-ahead-end.ensures))
                (ap in_bucket (slice_get_read was.near.items (length was.near.items) bucket w.index.result.now refl inside w.index.ensures) ∙ sym w.deref-date-items.ensures.value) w.loop-date.invariant (omega (arith, w.loop-date-test.false)) refl refl refl;
            turned = same;
            far = c.loop-ahead.invariant.far;
            emptied = emptied_next was.near.items from c.loop-ahead.ahead w.clear.new.self w.clear.ensures.items inside c.loop-ahead.invariant.emptied;
          })
      | else-bucket-len w ↦
          let past : length was.near.items ≤ bucket = omega (arith, w.if-bucket-len.false, c.len.ensures, was.near.ok.0) in
          rw (w.self-is, w.released-is) (record {
            moves = c.loop-ahead.invariant.moves;
            turned = same;
            far = c.loop-ahead.invariant.far;
            emptied = emptied_past was.near.items from c.loop-ahead.ahead past c.loop-ahead.invariant.emptied;
          })
    ]

pub returns-in_err-add_turn-2-clause-moves : goal.returns-in_err-add_turn-2-clause-moves
returns-in_err-add_turn-2-clause-moves c = moves_kept c.args.slot _ _ (heap_items c.args.released.now) (heap_items c.loop-date-2.released) (heap_items c.add_turn-in-loop-date-2.new.turns) c.loop-date-2.invariant.moves c.add_turn-in-loop-date-2.ensures.keeps

pub loop-date-2-preserved : goal.loop-date-2-preserved
loop-date-2-preserved c =
    let top : Reverse Date = c.in-Some.field-0.now in
    let was : Calendar = c.loop-date-2.self in
    let rest : Calendar = record { turned = was.turned; near = was.near; far = c.pop.new.self } in
    let some : 0 < length (heap_items was.far) = omega (arith, c.in-Some.ensures.variant.0 refl, was.far.data.ok.0) in
    record {
      moves = moves_more c.args.slot top.0 (IsNoted c.args.self.now) (IsNoted was) (IsNoted rest) (heap_items c.args.released.now) (heap_items c.loop-date-2.released) (heap_items c.add_turn-in-loop-date-2.new.turns) c.loop-date-2.invariant.moves
          c.add_turn-in-loop-date-2.ensures.keeps
          (λ d noted. elim noted [
            | inl near ↦ inr (inl near)
            | inr among ↦ elim (top_or_stays top (record { 0 = d }) (heap_items was.far) (heap_items c.pop.new.self)
                (popped c.pop.result (heap_items was.far) (heap_items c.pop.new.self) top _ was.far.data.ok.0 some c.in-Some.ensures.lookup c.pop.ensures.none c.pop.ensures.top c.pop.ensures.permutation) among) [
                  | inl same ↦ inl (ap (λ (r : Reverse Date). r.0) same)
                  | inr stays ↦ inr (inr stays)
                ]
          ])
          (λ _. (c.if-date-slot.true, c.in_ok-add_turn-2.ensures.there));
      turned = c.loop-date-2.invariant.turned;
      order = popped_order c.pop.result (heap_items was.far) (heap_items c.pop.new.self) _ was.far.data.ok.0 some c.pop.ensures.none c.pop.ensures.heap_order c.loop-date-2.invariant.order;
    }
