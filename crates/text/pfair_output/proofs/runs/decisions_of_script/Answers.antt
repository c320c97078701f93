use Rattle.pfair_output.proofs.Common.{frontier, Settings, decisions_text, ◌∙◌, ap, arith, decided_below}
use Rattle.pfair_output.proofs.WorldFacts.{all_slots}
use Rattle.pfair_output.proofs.runs.decisions_of_script.Goals as goal

pub returns-clause-text : goal.returns-clause-text
returns-clause-text g c =
    let of = c.in_ok-replica.ensures in
    let slots = all_slots _ _ _ _ of.settings of.held of.able.settled in
    c.in_ok-all_decisions.ensures ∙ (λ i. decisions_text (decided_below (of.settings i) (of.held i) (slots i)))

pub returns-clause-settled : goal.returns-clause-settled
returns-clause-settled g c =
    let of = c.in_ok-replica.ensures in
    omega (arith, of.able.settled, ap frontier of.held, ap (λ (s : Settings). s.slots) of.settings)
