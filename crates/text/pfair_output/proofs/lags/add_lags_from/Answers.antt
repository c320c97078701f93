use Rattle.pfair_output.proofs.Common.{lines_text, text_so_far, book_rows, ◌+◌, ◌++◌, ◌<◌, ◌≤◌, ◌∙◌, sym, ap, arith, length}
use Rattle.pfair_output.proofs.BookedFacts.{booked_more, booked_time, booked_done, over_more, over_done}
use Rattle.pfair_output.proofs.lags.add_lags_from.Goals as goal

pub loop-slot-preserved : goal.loop-slot-preserved
loop-slot-preserved g c =
    let ds = c.args.dispatcher.now.decided in
    let ts = c.args.dispatcher.now.tables in
    let inside : c.loop-slot.slot < length ds = omega (arith, c.loop-slot-test.true, c.loop-slot.auto.slot-end, c.next_slot-slot-end.ensures.decided) in
    let inside' : c.loop-slot.slot < length ts = omega (arith, c.loop-slot-test.true, c.loop-slot.auto.slot-end, c.next_slot-slot-end.ensures.value) in (
      c.in_ok-add_lags.ensures.open,
      booked_more ds ts c.loop-slot.slot c.loop-slot.book c.book_planned.new.book (text_so_far c.loop-slot.writer) (text_so_far c.add_lags.new.writer) inside inside' c.in_ok-book_planned.ensures
          (λ d t at at'. c.in_ok-add_lags.ensures.text ∙ ap (λ b. text_so_far c.loop-slot.writer ++ lines_text (book_rows b)) (c.in_ok-book_planned.ensures d t at at'))
          ∙ c.loop-slot.invariant.1,
      booked_time ds ts c.loop-slot.slot c.loop-slot.book c.book_planned.new.book inside inside' c.in_ok-book_planned.ensures ∙ ap (λ n. n + 1) c.loop-slot.invariant.2,
      over_more ds ts c.loop-slot.slot c.loop-slot.book c.book_planned.new.book inside inside' c.in_ok-book_planned.ensures ∙ c.loop-slot.invariant.3,
      omega (arith, c.loop-slot.invariant.4),
    )

pub returns-clause-book : goal.returns-clause-book
returns-clause-book g c =
    let past : length c.args.dispatcher.now.decided ≤ c.loop-slot.slot = omega (arith, c.loop-slot-test.false, c.loop-slot.auto.slot-end, c.next_slot-slot-end.ensures.decided) in
    sym (over_done c.args.dispatcher.now.decided c.args.dispatcher.now.tables c.loop-slot.slot c.loop-slot.book past) ∙ c.loop-slot.invariant.3

pub returns-clause-text : goal.returns-clause-text
returns-clause-text g c =
    let past : length c.args.dispatcher.now.decided ≤ c.loop-slot.slot = omega (arith, c.loop-slot-test.false, c.loop-slot.auto.slot-end, c.next_slot-slot-end.ensures.decided) in
    sym (booked_done c.args.dispatcher.now.decided c.args.dispatcher.now.tables c.loop-slot.slot c.loop-slot.book (text_so_far c.loop-slot.writer) past) ∙ c.loop-slot.invariant.1
