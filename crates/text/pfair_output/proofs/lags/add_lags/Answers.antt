use Rattle.pfair_output.proofs.Common.{common_steps, option_map, line, text_so_far, tally_row, ◌≡◌, ◌<◌, ◌++◌, ◌∷◌, [], ap, sym, ◌∙◌, length, arith, refl, to_z-of_z, decimal, signed_decimal, rules, SFits, w64}
use Rattle.pfair_output.proofs.BookedFacts.{lag_at, named_at, row_is, task_more}
use Rattle.pfair_output.proofs.lags.add_lags.Goals as goal

pub loop-place-preserved : goal.loop-place-preserved
loop-place-preserved c =
    let book = c.args.book.now in
    let place = c.loop-place.place in
    let inside : place < length book.entered = omega (arith, c.loop-place-test.true, c.loop-place.auto.place-end, c.len-place-end.ensures) in
    let named = sym (ap (option_map (λ n. n.0.now)) c.in-Some.is) ∙ c.row_at.ensures.name in
    let lag = sym (ap (option_map (λ n. n.1)) c.in-Some.is) ∙ c.row_at.ensures.lag in
    let fits : SFits w64 c.in-Some.numerator = search rules in
    let same = to_z-of_z fits in
    let added : text_so_far c.add_row.new.writer ≡ text_so_far c.loop-place.writer ++ line (decimal book.time ∷ c.in-Some.name.now ∷ signed_decimal c.in-Some.numerator ∷ decimal c.in-Some.period ∷ []) = grind (arith, common_steps, same, c.in_ok-add_row.ensures.text) in (
      c.in_ok-add_row.ensures.open,
      task_more (tally_row book.time) book.entered place (text_so_far c.loop-place.writer) (text_so_far c.add_row.new.writer) inside
          (λ task at. added ∙ ap (λ row. text_so_far c.loop-place.writer ++ line row)
          (row_is book.time book.time c.in-Some.name.now task c.in-Some.numerator c.in-Some.period refl (named_at book place c.in-Some.name.now task named at) (lag_at book place task c.in-Some.numerator c.in-Some.period lag at)))
          ∙ c.loop-place.invariant.1,
    )
