use Rattle.pfair_c.proofs.Common.{◌+◌, ◌-◌, ◌<◌, List, length, ap, arith, rules, sym, ◌∙◌, length-map, Book, first_time, Dispatch, book_rows, lag_row, lags_at, rows_of}
use Rattle.pfair_c.specs.declared.lags.PfairLag.{PfairLag}
use Rattle.pfair_c.proofs.SlotRows.{as-many-more, book_time, booked_first, next_booked, one-more-slot, pushed, counted-within}
use Rattle.pfair_c.proofs.lags.collect_lags.Goals as goal

pub book_slots-requires-clause-to : goal.book_slots-requires-clause-to
book_slots-requires-clause-to g c =
    let none = ap (λ (b : Book). b.time) c.in_ok-book.ensures ∙ first_time c.args.dispatcher.now.origin in
    omega (arith, none)

pub loop-slot-init : goal.loop-slot-init
loop-slot-init g c = (
  omega arith,
  omega (arith, c.requires.forward),
  booked_first c.args.dispatcher.now c.args.from c.in_ok-book.book c.book_slots.new.book c.in_ok-book.ensures c.in_ok-book_slots.ensures,
  grind arith,
  λ room. grind arith,
)

pub book_slots-requires-in-loop-slot-clause-to : goal.book_slots-requires-in-loop-slot-clause-to
book_slots-requires-in-loop-slot-clause-to g c =
    let time =
    book_time c.args.dispatcher.now c.loop-slot.slot c.loop-slot.book (omega (arith, c.loop-slot-test.true, c.requires.planned, c.next_slot.ensures.decided, c.next_slot.ensures.value))
    (omega (arith, c.loop-slot-test.true, c.requires.planned)) c.loop-slot.invariant.2 in
    omega (arith, time)

pub loop-slot-preserved : goal.loop-slot-preserved
loop-slot-preserved g c =
    let d : Dispatch = c.args.dispatcher.now in
    let from = c.args.from in
    let slot = c.loop-slot.slot in
    let after = c.loop-slot.invariant.0 in
    let book = c.book_slots-in-loop-slot.new.book in
    let inside : slot < length d.decided = omega (arith, c.loop-slot-test.true, c.requires.planned, c.next_slot.ensures.decided, c.next_slot.ensures.value) in
    let inside' : slot < length d.tables = omega (arith, c.loop-slot-test.true, c.requires.planned) in
    let given = next_booked d slot c.loop-slot.book book inside inside' c.loop-slot.invariant.2 c.in_ok-book_slots-2.ensures in
    let before : List PfairLag = rows_of (lags_at d) from (slot - from) in
    let all : List PfairLag = rows_of (lags_at d) from (slot + 1 - from) in
    let more = as-many-more d from slot book after given in (
      omega arith,
      omega arith,
      given,
      counted-within (length before) (length book.entered) (length all) 18446744073709551615 c.loop-slot.count c.saturating_add-count.result c.loop-slot.invariant.3 (search rules) more,
      λ room.
          pushed before (book_rows book) all c.loop-slot.lags.items c.push_lags.new.lags.items (length book.entered) c.args.room (c.loop-slot.invariant.4 (omega (arith, more)))
          (one-more-slot d from slot book after given) (sym (length-map book.entered (lag_row book.time))) c.in_ok-push_lags.ensures room,
    )
