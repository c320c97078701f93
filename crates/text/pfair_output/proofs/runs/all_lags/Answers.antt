use Rattle.pfair_output.proofs.Common.{Book, replica_of, Replica, said, Settings, table, decisions, line, text_so_far, lags_header, slot_booked, ◌≡◌, ◌∙◌, ap, arith, None}
use Rattle.pfair_output.proofs.WorldFacts.{book_more, lags_more, after_first}
use Rattle.pfair_output.proofs.runs.all_lags.Goals as goal

pub book_slot-requires : goal.book_slot-requires
book_slot-requires g c =
    let time = ap (λ (b : Book). b.time) c.slots.invariant.book ∙ (after_first c.args.planner.now.settings (replica_of c.args.replica.now) c.slots.slot).time_is in
    omega (arith, time)

pub slots-preserved : goal.slots-preserved
slots-preserved g c =
    let s : Settings = c.args.planner.now.settings in
    let x : Replica = replica_of c.args.replica.now in
    let n = c.slots.slot in
    let next = c.in_ok-plan.ensures in
    let decided : c.deref.result.now ≡ decisions None s (said x) n = c.deref.ensures.value ∙ next.decided ∙ (λ i. decisions None (c.slots.invariant.settings i) (said x) (c.slots.invariant.planned i)) in
    let rows : c.deref-in-slots.result.now ≡ table None s (said x) n = c.deref-in-slots.ensures.value ∙ next.table ∙ (λ i. table None (c.slots.invariant.settings i) (said x) (c.slots.invariant.planned i)) in
    let book : Book = c.book_slot.new.book in
    let booked = book_more s x n (line lags_header) (text_so_far c.slots.writer) (text_so_far c.add_lags.new.writer) c.slots.book book c.slots.invariant.book
    (c.in_ok-book_slot.ensures ∙ (λ i. slot_booked (decided i) (rows i) c.slots.book)) in
    record {
      is_open = c.in_ok-add_lags.ensures.open;
      able = next.able;
      first = next.run.0;
      settings = next.run.1 ∙ c.slots.invariant.settings;
      planned = omega (arith, next.planned, c.slots.invariant.planned);
      book = booked;
      text = lags_more s x n (line lags_header) (text_so_far c.slots.writer) (text_so_far c.add_lags.new.writer) book booked c.slots.invariant.text c.in_ok-add_lags.ensures.text;
    }
