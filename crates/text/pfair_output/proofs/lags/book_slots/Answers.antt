use Rattle.pfair_output.proofs.Common.{◌+◌, ◌<◌, ◌≤◌, ◌∙◌, sym, ap, arith, length, min}
use Rattle.pfair_output.proofs.BookedFacts.{booked_time, over_more_to, over_done_to}
use Rattle.pfair_output.proofs.lags.book_slots.Goals as goal

pub loop-slot-preserved : goal.loop-slot-preserved
loop-slot-preserved g c =
    let ds = c.args.dispatcher.now.decided in
    let ts = c.args.dispatcher.now.tables in
    let early : c.loop-slot.slot < c.args.to = omega (arith, c.loop-slot-test.true, c.min-slot-end.ensures) in
    let inside : c.loop-slot.slot < length c.args.dispatcher.now.decided = omega (arith, c.loop-slot-test.true, c.min-slot-end.ensures, c.next_slot.ensures.decided) in
    let inside' : c.loop-slot.slot < length c.args.dispatcher.now.tables = omega (arith, c.loop-slot-test.true, c.min-slot-end.ensures, c.next_slot.ensures.value) in (
      booked_time ds ts c.loop-slot.slot c.loop-slot.book c.book_planned.new.book inside inside' c.in_ok-book_planned.ensures ∙ ap (λ n. n + 1) c.loop-slot.invariant.0,
      over_more_to ds ts c.loop-slot.slot c.args.to c.loop-slot.book c.book_planned.new.book early inside inside' c.in_ok-book_planned.ensures ∙ c.loop-slot.invariant.1,
      omega (arith, c.loop-slot.invariant.2),
    )

pub returns : goal.returns
returns g c =
    let ds = c.args.dispatcher.now.decided in
    let past : min (length c.args.dispatcher.now.decided) c.args.to ≤ c.loop-slot.slot = omega (arith, c.loop-slot-test.false, c.min-slot-end.ensures, c.next_slot.ensures.decided) in
    sym (over_done_to ds c.args.dispatcher.now.tables c.loop-slot.slot c.args.to c.loop-slot.book past) ∙ c.loop-slot.invariant.1
