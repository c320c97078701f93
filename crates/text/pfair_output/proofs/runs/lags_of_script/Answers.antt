use Rattle.pfair_output.proofs.Common.{flat_map, frontier, numbers_below, Settings, lines_text, lag_rows, lags_header, ◌∙◌, ◌∷◌, ap, arith}
use Rattle.pfair_output.proofs.WorldFacts.{all_slots}
use Rattle.pfair_output.proofs.runs.lags_of_script.Goals as goal

pub returns-clause-text : goal.returns-clause-text
returns-clause-text g c =
    let of = c.in_ok-replica.ensures in
    let slots = all_slots _ _ _ _ of.settings of.held of.able.settled in
    c.in_ok-all_lags.ensures ∙ (λ i. lines_text (lags_header ∷ flat_map (lag_rows (of.settings i) (of.held i)) (numbers_below (slots i))))

pub returns-clause-settled : goal.returns-clause-settled
returns-clause-settled g c =
    let of = c.in_ok-replica.ensures in
    omega (arith, of.able.settled, ap frontier of.held, ap (λ (s : Settings). s.slots) of.settings)
