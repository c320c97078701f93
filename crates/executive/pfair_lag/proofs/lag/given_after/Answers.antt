use Rattle.pfair_lag.proofs.Common.{quanta_before, ◌≡◌, ◌∙◌, ℕ, get_or, arith, ap, sym}
use Rattle.pfair_lag.proofs.Counts.{quanta_next_yes, quanta_next_no}
use Rattle.pfair_lag.proofs.lag.given_after.Goals as goal
use Rattle.pfair_lag.proofs.lag.given_after.Goals.{else-given-picks-via-then-given-picks+else-picks-given, else-given-picks-via-else-given-picks}

pub returns-then-picks-given : goal.returns-then-picks-given
returns-then-picks-given c =
    let is : c.args.given ≡ quanta_before c.args.picks.now c.args.time = c.requires.counted in
    let same : get_or c.args.picks.now (quanta_before c.args.picks.now c.args.time) 0 ≡ c.args.time = ap (λ (n : ℕ). get_or c.args.picks.now n 0) (sym is) ∙ c.if-picks-given.true in
    let next = quanta_next_yes c.args.picks.now c.args.time c.requires.rising (omega arith) same in
    omega arith

pub returns-else-given-picks : goal.returns-else-given-picks
returns-else-given-picks c =
    let is : c.args.given ≡ quanta_before c.args.picks.now c.args.time = c.requires.counted in
    let next = quanta_next_no c.args.picks.now c.args.time c.requires.rising (λ inside same. elim c.else-given-picks.branch [
      | else-given-picks-via-then-given-picks+else-picks-given w ↦ w.if-picks-given.false (ap (λ (n : ℕ). get_or c.args.picks.now n 0) is ∙ same)
      | else-given-picks-via-else-given-picks w ↦ omega arith
    ]) in
    omega arith
