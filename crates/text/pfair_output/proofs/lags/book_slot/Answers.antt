use Rattle.pfair_output.proofs.Common.{Book, all_booked, common_steps, ◌≡◌, arith, ap}
use Rattle.pfair_output.proofs.BookedFacts.{time-all_booked}
use Rattle.pfair_output.proofs.lags.book_slot.Goals as goal

pub record-requires : goal.record-requires
record-requires c =
    let done : c.loop-one.book ≡ all_booked c.args.decided.now c.args.book.now = grind (arith, common_steps) in
    let same = ap (λ (b : Book). b.time) done in
    let kept = time-all_booked c.args.decided.now c.args.book.now in
    omega (arith, same, kept, c.requires)
