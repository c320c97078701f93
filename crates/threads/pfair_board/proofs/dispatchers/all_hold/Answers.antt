use Rattle.pfair_board.proofs.Common.{slice_get_read, slice_get_within, get_or_from_slice_get, replica_of, Worked, Holds, ◌≡◌, ◌∙◌, subst, arith, ⊎_elim, Some, slice_get, cases_lt}
use Rattle.pfair_board.proofs.dispatchers.all_hold.Goals as goal

pub returns-then-not-holds-clause-some : goal.returns-then-not-holds-clause-some
returns-then-not-holds-clause-some g c = grind (arith, slice_get_read)

pub loop-work-preserved : goal.loop-work-preserved
loop-work-preserved g c = λ k w below at. ⊎_elim (λ before. c.loop-work.invariant k w before at)
    (λ last.
    let here : k ≡ c.loop-work.work-index = omega arith in
    let item : c.work-item.result ≡ w = c.work-item.is ∙ get_or_from_slice_get c.args.works.now c.loop-work.work-index w c.work-item.result (subst (λ j. slice_get c.args.works.now j ≡ Some w) here at) in
    subst (λ (v : Worked g.row.K.Denot). Holds v (replica_of c.args.replica.now)) item (c.holds.ensures.0 c.if-not-holds.false))
    (cases_lt k c.loop-work.work-index)

pub returns-clause-all : goal.returns-clause-all
returns-clause-all g c = λ yes k w at.
    (let within = slice_get_within c.args.works.now k w at in
    c.loop-work.invariant k w (omega (arith, within, c.loop-work-test.false, c.loop-work.auto.work-index-end)) at)
