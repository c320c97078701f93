use Rattle.pfair_c.proofs.Common.{refl, rules}
use Rattle.pfair_c.proofs.open.with_open.Goals as goal

pub returns-clause-open : goal.returns-clause-open
returns-clause-open g c is =
    rw (c.take-served.ensures.taken, c.put.ensures)
    (record { shown = _; shown_a = _; left = _; left_a = _; met = c.called-answer.ensures; shows = (search rules, refl); leaves = (search rules, refl) })
